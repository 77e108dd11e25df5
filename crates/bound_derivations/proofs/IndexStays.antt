-- The table stays the index of the list when a derivation is added.
use Rattle.std.proofs.Common.{◌≡◌, ◌⊎◌, inl, inr, ℕ, zero, suc, ◌+◌, ◌<◌, ◌≤◌, ◌&&◌, Bool, true, false, cond}
use Rattle.std.proofs.Common.{List, [], ◌∷◌, ◌++◌, length, map, Option, Some, None, refl, sym, ◌∙◌, ap, subst, arith}
use Rattle.std.specs.Prelude.{slice_get, slice_index_or}
use Rattle.std.proofs.lemmas.List.{map-append, length-append, length-map}
use Rattle.model.specs.Bounds.{Bound}
use Rattle.model.specs.Paths.{target_in}
use Rattle.model.specs.Programs.{Program, Rule, arity_of}
use Rattle.model.proofs.Cases.{none_some}
use Rattle.model.proofs.Membership.{slice_get-below}
use Rattle.bound_expr.specs.Views.{bound_of}
use Rattle.bound_fixpoint.specs.Keys.{IsPlace, has_key}
use Rattle.bound_fixpoint.specs.Derivations as plain
use Rattle.bound_fixpoint.specs.Laws.{missing}
use Rattle.bound_fixpoint.proofs.Cases.{by_cases, true_false}
use Rattle.bound_fixpoint.proofs.DerivationLists.{bounds_of-append, bounds_of-new, first_of-missing, found-here, found-later}
use Rattle.bound_fixpoint.proofs.Keys.{has_key-all}
use Rattle.outcome.specs.declared.entry.Stored.{Stored}
use Rattle.cert_types.specs.cert_rules.AcceptsPlain.{IsRule}
use Rattle.cert_types.specs.cert_rules.Nodes.{ResultVariable}
use Rattle.size_bounds.specs.declared.table.Table.{Table}
use Rattle.size_bounds.specs.Tables.{row_at, bound_stored, number_at, stored_in}
use Rattle.bound_derivations.specs.declared.derivation.Derivation.{Derivation}
use Rattle.size_bounds.specs.Tables.{bounds_in}
use Rattle.bound_derivations.specs.ByKey.{rows_of, is_free, IsWritten}
use Rattle.bound_derivations.specs.Books.{HasKeys, AreDerivedBounds, IsKey, AreOpen}
use Rattle.bound_derivations.specs.Views.{derivation_of, derivations_of}
use Rattle.bound_derivations.proofs.Entries.{free_within}
use Rattle.bound_derivations.proofs.Room.{find_falls}

-- if no bound is stored, there is no entry
pub unstored : (o : Option Stored) → bound_stored o ≡ None → o ≡ None
unstored None e = refl
unstored (Some s) e = absurd (none_some (bound_of s.bound) (sym e))

-- the length of the row of a rule
pub long_at : (rows : List (List (Option Stored))) (ns : List ℕ) (t : ℕ)
    → map (λ (row : List (Option Stored)). length row) rows ≡ ns → length (row_at rows t) ≡ slice_index_or ns t 0
long_at [] [] t e = refl
long_at [] (n ∷ ns) t e = absurd (let f : ⊥ = cc in f)
long_at (row ∷ rows) [] t e = absurd (let f : ⊥ = cc in f)
long_at (row ∷ rows) (n ∷ ns) zero e = let h : length row ≡ n = cc in h
long_at (row ∷ rows) (n ∷ ns) (suc t) e =
    let h : map (λ (r : List (Option Stored)). length r) rows ≡ ns = cc in long_at rows ns t h

-- the length of the row of a rule is the arity of the rule's target
pub arity_at : (p : Program) (rules : List Rule) (t : ℕ) (r : Rule) → slice_get rules t ≡ Some r
    → slice_index_or (map (λ (r : Rule). arity_of p r.target) rules) t 0 ≡ arity_of p r.target
arity_at p [] t r e = absurd (let f : ⊥ = cc in f)
arity_at p (x ∷ rules) zero r e = let same : x ≡ r = cc in ap (λ (y : Rule). arity_of p y.target) same
arity_at p (x ∷ rules) (suc t) r e = arity_at p rules t r e

-- a place after a rule is within the row of its rule
pub place_within : (p : Program) (tab : Table) (t i : ℕ) → HasKeys p tab → IsRule p t → IsPlace p t i
    → i ≤ length (row_at (rows_of tab) t)
place_within p tab zero i h rule place = absurd (let e = rule.numbered in let f : ⊥ = cc in f)
place_within p tab (suc t) i h rule place =
    let target : Some rule.rule.target ≡ Some place.symbol = sym (ap target_in rule.numbered) ∙ place.target in
    let same : rule.rule.target ≡ place.symbol = cc in
    let long = long_at (rows_of tab) _ (suc t) h.rows ∙ arity_at p p.rules t rule.rule rule.numbered in
    subst (λ (n : ℕ). i ≤ n) (ap (arity_of p) (sym same) ∙ sym long) place.last

-- the time of a rule is within the times
pub time_within : (p : Program) (tab : Table) (t : ℕ) → HasKeys p tab → IsRule p t → t < length tab.times.items
time_within p tab zero h rule = absurd (let e = rule.numbered in let f : ⊥ = cc in f)
time_within p tab (suc t) h rule =
    let low = slice_get-below p.rules t rule.rule rule.numbered in let long = h.times in omega (arith, low, long)

-- a key of a rule without a bound is free
pub free_key : (p : Program) (tab : Table) (t i : ℕ) → HasKeys p tab → IsKey p t i → bounds_in tab t i ≡ None
    → is_free tab t i ≡ true
free_key p tab t zero h k e =
    free_within tab.times.items t (time_within p tab t h k.rule) (unstored (stored_in tab t zero) e)
free_key p tab t (suc i) h k e = go k.place
  where
    go : (suc i ≡ 0) ⊎ IsPlace p t (suc i) → is_free tab t (suc i) ≡ true
    go (inl none) = absurd (omega (arith, none))
    go (inr place) =
        let within = place_within p tab t (suc i) h k.rule place in
        free_within (row_at (rows_of tab) t) i (omega (arith, within)) (unstored (stored_in tab t (suc i)) e)

-- no key of the virtual entry is a key of a rule
pub no_entry : (p : Program) (i : ℕ) → IsKey p 0 i → ⊥
no_entry p i k = let e = k.rule.numbered in let f : ⊥ = cc in f

-- a key that only the last derivation has gets the number of that derivation
pub number-new : (n : ℕ) (fs : List plain.Derivation) (g : plain.Derivation) (t i : ℕ) → plain.bound_found fs t i ≡ None
    → has_key g.keys t i ≡ true → plain.number_from n (fs ++ g ∷ []) t i ≡ suc (n + length fs)
number-new n [] g t i e m = rw m (let h : suc n ≡ suc (n + 0) = omega arith in h)
number-new n (f ∷ fs) g t i e m =
    by_cases (has_key f.keys t i) here
    (λ k. later k (number-new (suc n) fs g t i (sym (found-later f fs t i k) ∙ e) m))
  where
    here : has_key f.keys t i ≡ true → plain.number_from n ((f ∷ fs) ++ g ∷ []) t i ≡ suc (n + suc (length fs))
    here k = absurd (none_some f.bound (sym e ∙ found-here f fs t i k))

    later : has_key f.keys t i ≡ false
        → plain.number_from (suc n) (fs ++ g ∷ []) t i ≡ suc (suc n + length fs)
        → plain.number_from n ((f ∷ fs) ++ g ∷ []) t i ≡ suc (n + suc (length fs))
    later k ih =
        ap (λ (v : Bool). cond v (suc n) (plain.number_from (suc n) (fs ++ g ∷ []) t i)) k
        ∙ (ih ∙ (let h : suc (suc n + length fs) ≡ suc (n + suc (length fs)) = omega arith in h))

-- a key that the last derivation doesn't have keeps its number
pub number-other : (n : ℕ) (fs : List plain.Derivation) (g : plain.Derivation) (t i : ℕ) → has_key g.keys t i ≡ false
    → plain.number_from n (fs ++ g ∷ []) t i ≡ plain.number_from n fs t i
number-other n [] g t i m = rw m refl
number-other n (f ∷ fs) g t i m =
    ap (λ (k : ℕ). cond (has_key f.keys t i) (suc n) k) (number-other (suc n) fs g t i m)

both_hold : {A : Type 0} (v w : Bool) (x y : A) → v ≡ true → w ≡ true → cond (v && w) x y ≡ x
both_hold true true x y a b = refl
both_hold true false x y a b = absurd (true_false (sym b))
both_hold false w x y a b = absurd (true_false (sym a))

first_fails : {A : Type 0} (v w : Bool) (x y : A) → v ≡ false → cond (v && w) x y ≡ y
first_fails true w x y a = absurd (true_false a)
first_fails false w x y a = refl

first_of-alone : (o : Option Bound) → plain.first_of o None ≡ o
first_of-alone None = refl
first_of-alone (Some b) = refl

-- writing a bound at open keys gives the bounds with one derivation more
bounds_taken : (p : Program) (old new : Table) (derivations : List Derivation) (g : plain.Derivation) (n : ℕ) → AreDerivedBounds p old derivations
    → AreOpen p (derivations_of derivations) g.keys → IsWritten old g.keys g.bound n new
    → (t i : ℕ) → bounds_in new t i ≡ plain.bounds_of p (derivations_of derivations ++ g ∷ []) t i
bounds_taken p old new derivations g n derived open_keys written t i = by_cases (has_key g.keys t i) here elsewhere
  where
    here : has_key g.keys t i ≡ true → bounds_in new t i ≡ plain.bounds_of p (derivations_of derivations ++ g ∷ []) t i
    here m =
        let unknown = has_key-all (λ k. plain.bounds_of p (derivations_of derivations) k.rule k.place ≡ None) g.keys t i
        open_keys.unknown m in
        let room = free_key p old t i derived.keys (has_key-all (λ k. IsKey p k.rule k.place) g.keys t i open_keys.each m)
        (derived.bounds t i ∙ unknown) in
        written.bounds t i
        ∙ (both_hold (has_key g.keys t i) (is_free old t i) (Some g.bound) (bounds_in old t i) m room
        ∙ sym (bounds_of-new p (derivations_of derivations) (g ∷ []) t i unknown ∙ found-here g [] t i m))

    elsewhere : has_key g.keys t i ≡ false → bounds_in new t i ≡ plain.bounds_of p (derivations_of derivations ++ g ∷ []) t i
    elsewhere m =
        written.bounds t i
        ∙ (first_fails (has_key g.keys t i) (is_free old t i) (Some g.bound) (bounds_in old t i) m
        ∙ (derived.bounds t i
        ∙ sym (bounds_of-append p (derivations_of derivations) (g ∷ []) t i
        ∙ (ap (plain.first_of (plain.bounds_of p (derivations_of derivations) t i)) (found-later g [] t i m)
        ∙ first_of-alone (plain.bounds_of p (derivations_of derivations) t i)))))

-- writing the number of a derivation gives the numbers with one derivation more
numbers_taken : (p : Program) (old new : Table) (derivations : List Derivation) (g : plain.Derivation) → AreDerivedBounds p old derivations
    → AreOpen p (derivations_of derivations) g.keys → IsWritten old g.keys g.bound (length derivations + 1) new
    → (t i : ℕ) → number_at new t i ≡ plain.number_in (derivations_of derivations ++ g ∷ []) t i
numbers_taken p old new derivations g derived open_keys written t i = by_cases (has_key g.keys t i) (here t) (elsewhere t)
  where
    each : (t : ℕ) → has_key g.keys t i ≡ true → IsKey p t i
    each t m = has_key-all (λ k. IsKey p k.rule k.place) g.keys t i open_keys.each m

    here : (t : ℕ) → has_key g.keys t i ≡ true → number_at new t i ≡ plain.number_in (derivations_of derivations ++ g ∷ []) t i
    here zero m = absurd (no_entry p i (each zero m))
    here (suc t) m =
        let unknown = has_key-all (λ k. plain.bounds_of p (derivations_of derivations) k.rule k.place ≡ None) g.keys (suc t) i
        open_keys.unknown m in
        let room = free_key p old (suc t) i derived.keys (each (suc t) m) (derived.bounds (suc t) i ∙ unknown) in
        let long = length-map derivations derivation_of in
        let number : length derivations + 1 ≡ suc (0 + length (derivations_of derivations)) = omega (arith, long) in
        written.numbers (suc t) i
        ∙ (both_hold (has_key g.keys (suc t) i) (is_free old (suc t) i) (length derivations + 1) (number_at old (suc t) i)
        m room
        ∙ (number
        ∙ sym (number-new 0 (derivations_of derivations) g (suc t) i
        (first_of-missing None (plain.bound_found (derivations_of derivations) (suc t) i) unknown).1 m)))

    elsewhere : (t : ℕ) → has_key g.keys t i ≡ false
        → number_at new t i ≡ plain.number_in (derivations_of derivations ++ g ∷ []) t i
    elsewhere zero m =
        written.numbers zero i
        ∙ (first_fails (has_key g.keys zero i) (is_free old zero i) (length derivations + 1) (number_at old zero i) m
        ∙ derived.numbers zero i)
    elsewhere (suc t) m =
        written.numbers (suc t) i
        ∙ (first_fails (has_key g.keys (suc t) i) (is_free old (suc t) i) (length derivations + 1) (number_at old (suc t) i) m
        ∙ (derived.numbers (suc t) i ∙ sym (number-other 0 (derivations_of derivations) g (suc t) i m)))

-- writing depends only on the keys, the bound and the number
written_same : (old new : Table) (xs ys : List ResultVariable) (b : Bound) (m n : ℕ) → xs ≡ ys → m ≡ n
    → IsWritten old xs b m new → IsWritten old ys b n new
written_same old new xs ys b m n e f h =
    subst (λ (ks : List ResultVariable). IsWritten old ks b n new) e (subst (λ (k : ℕ). IsWritten old xs b k new) f h)

-- a derivation with open keys is added by writing its bound at them with its number
pub taken : (p : Program) (old new : Table) (derivations whole : List Derivation) (f : Derivation) (keys : List ResultVariable) (n : ℕ)
    → whole ≡ derivations ++ f ∷ [] → keys ≡ (derivation_of f).keys → n ≡ length derivations + 1
    → IsWritten old keys (derivation_of f).bound n new → AreDerivedBounds p old derivations → AreOpen p (derivations_of derivations) (derivation_of f).keys
    → AreDerivedBounds p new whole
taken p old new derivations whole f keys n is same number wrote derived open_keys = record {
  bounds = λ t i. bounds_taken p old new derivations (derivation_of f) (length derivations + 1) derived open_keys written t i
      ∙ ap (λ (fs : List plain.Derivation). plain.bounds_of p fs t i) (sym seen);
  numbers = λ t i. numbers_taken p old new derivations (derivation_of f) derived open_keys written t i
      ∙ ap (λ (fs : List plain.Derivation). plain.number_in fs t i) (sym seen);
  keys = record { times = written.times ∙ derived.keys.times; rows = written.rows ∙ derived.keys.rows };
  few =
      let long = ap length is ∙ length-append derivations (f ∷ []) in
      let less = find_falls p (derivations_of derivations) (derivation_of f) open_keys in
      let same = ap (λ (fs : List plain.Derivation). missing p (plain.bounds_of p fs)) seen in
      let few = derived.few in
      omega (arith, long, less, same, few);
}
  where
    written : IsWritten old (derivation_of f).keys (derivation_of f).bound (length derivations + 1) new
    written = written_same old new keys (derivation_of f).keys (derivation_of f).bound n (length derivations + 1) same number wrote

    seen : derivations_of whole ≡ derivations_of derivations ++ derivation_of f ∷ []
    seen = ap derivations_of is ∙ map-append derivation_of derivations (f ∷ [])
