-- Tables in which a bound is written at one key, and at one key after another.
use Rattle.std.proofs.Common.{◌≡◌, ℕ, zero, suc, ◌==◌, ◌&&◌, ◌||◌, not, Bool, true, false, cond, List, [], ◌∷◌, ◌++◌}
use Rattle.std.proofs.Common.{length, map, Option, Some, refl, sym, ◌∙◌, ap, subst}
use Rattle.model.specs.Bounds.{Bound}
use Rattle.bound_expr.specs.Views.{bound_of}
use Rattle.bound_fixpoint.specs.Keys.{key, has_key}
use Rattle.bound_fixpoint.proofs.Cases.{either, by_cases, true_false}
use Rattle.bound_fixpoint.proofs.Keys.{has_key-first, has_key-cases, has_key-none}
use Rattle.outcome.specs.declared.entry.Stored.{Stored}
use Rattle.cert_types.specs.cert_rules.Nodes.{ResultVariable}
use Rattle.size_bounds.specs.declared.table.Table.{Table}
use Rattle.size_bounds.specs.Tables.{entry_at, row_at, bound_stored, lemma_stored, stored_in, number_at}
use Rattle.size_bounds.specs.Tables.{bounds_in}
use Rattle.bound_derivations.specs.ByKey.{rows_of, put_time, put_place, is_free_at, is_free}
use Rattle.bound_derivations.specs.ByKey.{IsWritten}
use Rattle.bound_derivations.proofs.Entries.{entry_own, entry_filled_own, entry_other, free_other, time_other, time_long}
use Rattle.bound_derivations.proofs.Entries.{place_own, place_filled_own, place_other, place_long}

-- the entry at a key, and whether it is free, after a value is put at this key
pub own : (old new : Table) (t i : ℕ) (s : Stored) → new.times.items ≡ put_time old.times.items t i s
    → rows_of new ≡ put_place (rows_of old) t i s
    → (stored_in new t i ≡ cond (is_free old t i) (Some s) (stored_in old t i)) × (is_free new t i ≡ false)
own old new t zero s times rows = (
  ap (λ (os : List (Option Stored)). entry_at os t) times ∙ entry_own old.times.items t s,
  ap (λ (os : List (Option Stored)). is_free_at os t) times ∙ entry_filled_own old.times.items t s,
)
own old new t (suc i) s times rows = (
  ap (λ (rs : List (List (Option Stored))). entry_at (row_at rs t) i) rows ∙ place_own (rows_of old) t i s,
  ap (λ (rs : List (List (Option Stored))). is_free_at (row_at rs t) i) rows ∙ place_filled_own (rows_of old) t i s,
)

-- the entry at a key, and whether it is free, after a value is put at another key
pub other : (old new : Table) (u j t i : ℕ) (s : Stored) → new.times.items ≡ put_time old.times.items u j s
    → rows_of new ≡ put_place (rows_of old) u j s → (u ≡ t → j ≡ i → ⊥)
    → (stored_in new t i ≡ stored_in old t i) × (is_free new t i ≡ is_free old t i)
other old new u j t zero s times rows n = (
  ap (λ (os : List (Option Stored)). entry_at os t) times
      ∙ time_other (λ os m. entry_at os m) entry_other old.times.items u j t s n,
  ap (λ (os : List (Option Stored)). is_free_at os t) times
      ∙ time_other (λ os m. is_free_at os m) free_other old.times.items u j t s n,
)
other old new u j t (suc i) s times rows n = (
  ap (λ (rs : List (List (Option Stored))). entry_at (row_at rs t) i) rows
      ∙ place_other (λ os m. entry_at os m) entry_other (rows_of old) u j t i s n,
  ap (λ (rs : List (List (Option Stored))). is_free_at (row_at rs t) i) rows
      ∙ place_other (λ os m. is_free_at os m) free_other (rows_of old) u j t i s n,
)

-- a key that isn't the only one of a list differs from it in its rule or its place
apart : (k : ResultVariable) (t i : ℕ) → has_key (k ∷ []) t i ≡ false → k.rule ≡ t → k.place ≡ i → ⊥
apart k t i m e f =
    true_false (sym (subst (λ (n : ℕ). has_key (k ∷ []) t n ≡ true) f
    (subst (λ (n : ℕ). has_key (k ∷ []) n k.place ≡ true) e (has_key-first k []))) ∙ m)

-- the entry of each key, and whether it is free, after a value is put at one
pub put_at : (old new : Table) (k : ResultVariable) (s : Stored) → new.times.items ≡ put_time old.times.items k.rule k.place s
    → rows_of new ≡ put_place (rows_of old) k.rule k.place s → (t i : ℕ)
    → (stored_in new t i ≡ cond (has_key (k ∷ []) t i && is_free old t i) (Some s) (stored_in old t i))
    × (is_free new t i ≡ (is_free old t i && not (has_key (k ∷ []) t i)))
put_at old new k s times rows t i = by_cases (has_key (k ∷ []) t i) here elsewhere
  where
    Goal : Bool → Type 0
    Goal v = (stored_in new t i ≡ cond (v && is_free old t i) (Some s) (stored_in old t i))
        × (is_free new t i ≡ (is_free old t i && not v))

    no_more : (v : Bool) → false ≡ (v && false)
    no_more true = refl
    no_more false = refl

    all : (v : Bool) → v ≡ (v && true)
    all true = refl
    all false = refl

    same : has_key (k ∷ []) t i ≡ true → k ≡ key t i
    same m = either (has_key-cases k [] t i m) (λ e. e) (λ later. absurd (has_key-none t i later))

    here : has_key (k ∷ []) t i ≡ true → Goal (has_key (k ∷ []) t i)
    here m =
        let e = same m in
        let o = own old new t i s
        (times ∙ ap (λ (x : ResultVariable). put_time old.times.items x.rule x.place s) e)
        (rows ∙ ap (λ (x : ResultVariable). put_place (rows_of old) x.rule x.place s) e) in
        subst Goal (sym m) (o.0, o.1 ∙ no_more (is_free old t i))

    elsewhere : has_key (k ∷ []) t i ≡ false → Goal (has_key (k ∷ []) t i)
    elsewhere m =
        let o = other old new k.rule k.place t i s times rows (apart k t i m) in
        subst Goal (sym m) (o.0, o.1 ∙ all (is_free old t i))

choice : {A B : Type 0} (f : A → B) (v : Bool) (x y : A) → f (cond v x y) ≡ cond v (f x) (f y)
choice f true x y = refl
choice f false x y = refl

-- a value that is put at a key is written there
pub put_written : (old new : Table) (k : ResultVariable) (s : Stored)
    → new.times.items ≡ put_time old.times.items k.rule k.place s
    → rows_of new ≡ put_place (rows_of old) k.rule k.place s → IsWritten old (k ∷ []) (bound_of s.bound) s.lemma new
put_written old new k s times rows = record {
  bounds = λ t i. ap bound_stored (put_at old new k s times rows t i).0
      ∙ choice bound_stored (has_key (k ∷ []) t i && is_free old t i) (Some s) (stored_in old t i);
  numbers = λ t i. ap lemma_stored (put_at old new k s times rows t i).0
      ∙ choice lemma_stored (has_key (k ∷ []) t i && is_free old t i) (Some s) (stored_in old t i);
  free = λ t i. (put_at old new k s times rows t i).1;
  times = ap length times ∙ time_long old.times.items k.rule k.place s;
  rows = ap (map (λ (row : List (Option Stored)). length row)) rows ∙ place_long (rows_of old) k.rule k.place s;
}

-- writing at no keys changes nothing
pub none_written : (old : Table) (b : Bound) (n : ℕ) → IsWritten old [] b n old
none_written old b n = record {
  bounds = λ t i. refl;
  numbers = λ t i. refl;
  free = λ t i. all (is_free old t i);
  times = refl;
  rows = refl;
}
  where
    all : (v : Bool) → v ≡ (v && true)
    all true = refl
    all false = refl

-- a key is among appended lists exactly if it is in one of them
pub has_key-join : (xs ys : List ResultVariable) (t i : ℕ) → has_key (xs ++ ys) t i ≡ (has_key xs t i || has_key ys t i)
has_key-join [] ys t i = refl
has_key-join (x ∷ xs) ys t i =
    go ((x.rule == t) && (x.place == i)) (has_key (xs ++ ys) t i) (has_key xs t i) (has_key ys t i)
    (has_key-join xs ys t i)
  where
    go : (v w a b : Bool) → w ≡ (a || b) → (v || w) ≡ ((v || a) || b)
    go true w a b e = refl
    go false w a b e = e

twice : {A : Type 0} (h k f : Bool) (x y : A)
    → cond (k && (f && not h)) x (cond (h && f) x y) ≡ cond ((h || k) && f) x y
twice true true true x y = refl
twice true true false x y = refl
twice true false true x y = refl
twice true false false x y = refl
twice false true true x y = refl
twice false true false x y = refl
twice false false true x y = refl
twice false false false x y = refl

left_free : (h k f : Bool) → ((f && not h) && not k) ≡ (f && not (h || k))
left_free true true true = refl
left_free true true false = refl
left_free true false true = refl
left_free true false false = refl
left_free false true true = refl
left_free false true false = refl
left_free false false true = refl
left_free false false false = refl

-- a bound that is written at keys, and then at further ones, is written at all of them
pub written_more : (old mid new : Table) (xs ys : List ResultVariable) (b : Bound) (n : ℕ) → IsWritten old xs b n mid
    → IsWritten mid ys b n new → IsWritten old (xs ++ ys) b n new
written_more old mid new xs ys b n first then = record {
  bounds = λ t i. then.bounds t i ∙ both t i (Some b) (bounds_in old t i) (bounds_in mid t i) (first.bounds t i);
  numbers = λ t i. then.numbers t i ∙ both t i n (number_at old t i) (number_at mid t i) (first.numbers t i);
  free = λ t i. then.free t i ∙ (ap (λ (v : Bool). v && not (has_key ys t i)) (first.free t i)
      ∙ (left_free (has_key xs t i) (has_key ys t i) (is_free old t i)
      ∙ ap (λ (v : Bool). is_free old t i && not v) (sym (has_key-join xs ys t i))));
  times = then.times ∙ first.times;
  rows = then.rows ∙ first.rows;
}
  where
    both : {A : Type 0} (t i : ℕ) (x y z : A) → z ≡ cond (has_key xs t i && is_free old t i) x y
        → cond (has_key ys t i && is_free mid t i) x z ≡ cond (has_key (xs ++ ys) t i && is_free old t i) x y
    both t i x y z e =
        ap (λ (v : Bool). cond (has_key ys t i && v) x z) (first.free t i)
        ∙ (ap (λ w. cond (has_key ys t i && (is_free old t i && not (has_key xs t i))) x w) e
        ∙ (twice (has_key xs t i) (has_key ys t i) (is_free old t i) x y
        ∙ ap (λ (v : Bool). cond (v && is_free old t i) x y) (sym (has_key-join xs ys t i))))
