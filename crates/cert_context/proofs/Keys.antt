-- Positions of facts by key: entering them fact by fact, and the bound that is found.
use Rattle.std.proofs.Common.{◌≡◌, ℕ, suc, ◌+◌, ◌==◌, ◌&&◌, ◌<◌, ◌≤◌, Bool, true, false, cond, List, [], ◌∷◌, ◌++◌, length, take, get_or}
use Rattle.std.proofs.Common.{Option, Some, None, is_some, option_map, refl, sym, ap, ◌∙◌, subst, arith}
use Rattle.std.specs.BTreeMap.{BTreeMap, get, is_at}
use Rattle.std.specs.Cmp.{unsigned_tied}
use Rattle.std.specs.declared.cmp.Ordering.{Ordering}
use Rattle.std.specs.declared.cmp.Ordering.TheVariants.{Less, Equal, Greater}
use Rattle.std.specs.Ordering.{nat_cmp, ordering_then, is_eq}
use Rattle.std.proofs.lemmas.Bool.{and_parts}
use Rattle.model.proofs.Membership.{same_number-sound}
use denote.Ref.{Bor}
use Rattle.model.specs.Bounds as plain
use Rattle.model.specs.Facts as facts
use Rattle.model.specs.Facts.{Time, Size, Cost}
use Rattle.cert_types.specs.Views.{fact_of}
use Rattle.cert_types.specs.declared.fact.Fact.{Fact}
use Rattle.cert_types.specs.cert_rules.Known.{time_in, size_in}
use Rattle.cert_context.specs.Lookups.{pair_cmp, first_of, is_time_of, is_size_of, first_position, facts_at, bound_at}
use Rattle.cert_context.specs.Lookups.{EntersTime, EntersSize, HasTimes, HasSizes}
use Rattle.cert_context.proofs.Cuts.{done-more, done-all, done-count}

-- the first of two positions is shifted by one if both are
first-shift : (o : Option ℕ) (v : Option ℕ) → option_map suc (first_of o v) ≡ first_of (option_map suc o) (option_map suc v)
first-shift None v = refl
first-shift (Some n) v = refl

position-more : {A : Type 0} (test : A → Bool) (xs : List A) (x : A) (n : ℕ) → length xs ≡ n
    → first_position test (xs ++ x ∷ []) ≡ first_of (first_position test xs) (cond (test x) (Some n) None)
position-more test [] x n e = go (test x)
  where
    go : (v : Bool) → cond v (Some 0) None ≡ cond v (Some n) None
    go true = ap (λ (m : ℕ). Some m) e
    go false = refl
position-more {A} test (y ∷ xs) x n e = go (test y) (test x) (position-more test xs x (length xs) refl)
  where
    go : (v w : Bool) → first_position test (xs ++ x ∷ []) ≡ first_of (first_position test xs) (cond w (Some (length xs)) None)
        → cond v (Some 0) (option_map suc (first_position test (xs ++ x ∷ [])))
        ≡ first_of (cond v (Some 0) (option_map suc (first_position test xs))) (cond w (Some n) None)
    go true w h = refl
    go false w h = ap (option_map suc) h ∙ (first-shift (first_position test xs) (cond w (Some (length xs)) None) ∙ last w)
      where
        last : (w : Bool) → first_of (option_map suc (first_position test xs)) (option_map suc (cond w (Some (length xs)) None))
            ≡ first_of (option_map suc (first_position test xs)) (cond w (Some n) None)
        last true = ap (λ (m : ℕ). first_of (option_map suc (first_position test xs)) (Some m)) e
        last false = refl

-- the bound at a position is the same one position further on after one more fact
shifted : (o : Option ℕ) (f : facts.Fact) (fs : List facts.Fact) → bound_at (f ∷ fs) (option_map suc o) ≡ bound_at fs o
shifted None f fs = refl
shifted (Some n) f fs = refl

-- the bound at the first position of a time of a rule is its time
pub time-found : (fs : List facts.Fact) (t : ℕ) → bound_at fs (first_position (is_time_of t) fs) ≡ time_in fs t
time-found [] t = refl
time-found (Time u b ∷ fs) t = go (u == t) (shifted (first_position (is_time_of t) fs) (Time u b) fs ∙ time-found fs t)
  where
    go : (v : Bool) → bound_at (Time u b ∷ fs) (option_map suc (first_position (is_time_of t) fs)) ≡ time_in fs t
        → bound_at (Time u b ∷ fs) (cond v (Some 0) (option_map suc (first_position (is_time_of t) fs)))
        ≡ cond v (Some b) (time_in fs t)
    go true h = refl
    go false h = h
time-found (Size u i b ∷ fs) t = shifted (first_position (is_time_of t) fs) (Size u i b) fs ∙ time-found fs t
time-found (Cost u b ∷ fs) t = shifted (first_position (is_time_of t) fs) (Cost u b) fs ∙ time-found fs t

-- the bound at the first position of a size of a place is its size
pub size-found : (fs : List facts.Fact) (t i : ℕ) → bound_at fs (first_position (is_size_of t i) fs) ≡ size_in fs t i
size-found [] t i = refl
size-found (Time u b ∷ fs) t i = shifted (first_position (is_size_of t i) fs) (Time u b) fs ∙ size-found fs t i
size-found (Size u j b ∷ fs) t i =
    go ((u == t) && (j == i)) (shifted (first_position (is_size_of t i) fs) (Size u j b) fs ∙ size-found fs t i)
  where
    go : (v : Bool) → bound_at (Size u j b ∷ fs) (option_map suc (first_position (is_size_of t i) fs)) ≡ size_in fs t i
        → bound_at (Size u j b ∷ fs) (cond v (Some 0) (option_map suc (first_position (is_size_of t i) fs)))
        ≡ cond v (Some b) (size_in fs t i)
    go true h = refl
    go false h = h
size-found (Cost u b ∷ fs) t i = shifted (first_position (is_size_of t i) fs) (Cost u b) fs ∙ size-found fs t i

module _ (refs : List (Bor Fact)) (i : ℕ) (r : Bor Fact) (l : i < length refs) (e : r ≡ get_or refs i r) where
  more : facts_at (take (i + 1) refs) ≡ facts_at (take i refs) ++ fact_of r.now ∷ []
  more = done-more (λ (q : Bor Fact). fact_of q.now) refs i r l e

  count : length (facts_at (take i refs)) ≡ i
  count = done-count (λ (q : Bor Fact). fact_of q.now) refs i (omega (arith, l))

  -- after one more fact is entered, the map has the first times of one more fact
  pub times-more : (old new : BTreeMap ℕ ℕ) → HasTimes (facts_at (take i refs)) old → EntersTime old (fact_of r.now) i new
      → HasTimes (facts_at (take (i + 1) refs)) new
  times-more old new h k = record {
    each = λ t.
        k.each t
        ∙ (ap (λ (o : Option ℕ). first_of o (cond (is_time_of t (fact_of r.now)) (Some i) None)) (h.each t)
        ∙ (sym (position-more (is_time_of t) (facts_at (take i refs)) (fact_of r.now) i count)
        ∙ sym (ap (first_position (is_time_of t)) more)));
  }

  -- after one more fact is entered, the map has the first sizes of one more fact
  pub sizes-more : (old new : BTreeMap (ℕ × ℕ) ℕ) → HasSizes (facts_at (take i refs)) old
      → EntersSize old (fact_of r.now) i new → HasSizes (facts_at (take (i + 1) refs)) new
  sizes-more old new h k = record {
    each = λ t j.
        k.each t j
        ∙ (ap (λ (o : Option ℕ). first_of o (cond (is_size_of t j (fact_of r.now)) (Some i) None)) (h.each t j)
        ∙ (sym (position-more (is_size_of t j) (facts_at (take i refs)) (fact_of r.now) i count)
        ∙ sym (ap (first_position (is_size_of t j)) more)));
  }

-- after all facts are entered, the map has the first times of all facts
pub times-all : (refs : List (Bor Fact)) (i : ℕ) (times : BTreeMap ℕ ℕ) → length refs ≤ i
    → HasTimes (facts_at (take i refs)) times → HasTimes (facts_at refs) times
times-all refs i times l h =
    subst (λ (fs : List facts.Fact). HasTimes fs times) (done-all (λ (q : Bor Fact). fact_of q.now) refs i l) h

pub sizes-all : (refs : List (Bor Fact)) (i : ℕ) (sizes : BTreeMap (ℕ × ℕ) ℕ) → length refs ≤ i
    → HasSizes (facts_at (take i refs)) sizes → HasSizes (facts_at refs) sizes
sizes-all refs i sizes l h =
    subst (λ (fs : List facts.Fact). HasSizes fs sizes) (done-all (λ (q : Bor Fact). fact_of q.now) refs i l) h

-- two pairs compare as equal exactly if both of their numbers do
both-equal : (o p : Ordering) → is_eq (ordering_then o p) ≡ (is_eq o && is_eq p)
both-equal Less p = refl
both-equal Equal p = refl
both-equal Greater p = refl

same-pair : (x q : ℕ × ℕ) → is_at (pair_cmp x) q ≡ ((x.0 == q.0) && (x.1 == q.1))
same-pair x q =
    both-equal (nat_cmp x.0 q.0) (nat_cmp x.1 q.1)
    ∙ (ap (λ (v : Bool). v && is_eq (nat_cmp x.1 q.1)) (unsigned_tied x.0 q.0)
    ∙ ap (λ (v : Bool). (x.0 == q.0) && v) (unsigned_tied x.1 q.1))

-- a size is entered unless its place has one
pub size-entered : (old new : BTreeMap (ℕ × ℕ) ℕ) (t i position : ℕ) (b : plain.Bound) (fact : facts.Fact)
    → fact ≡ Size t i b → is_some (get pair_cmp old (t, i)) ≡ false
    → ((q : ℕ × ℕ) → get pair_cmp new q ≡ cond (is_at (pair_cmp (t, i)) q) (Some position) (get pair_cmp old q))
    → EntersSize old fact position new
size-entered old new t i position b fact e n u = record {
  each = λ v j.
      u (v, j)
      ∙ (ap (λ (w : Bool). cond w (Some position) (get pair_cmp old (v, j))) (same-pair (t, i) (v, j))
      ∙ (go v j ((t == v) && (i == j)) refl
      ∙ ap (λ (f : facts.Fact). first_of (get pair_cmp old (v, j)) (cond (is_size_of v j f) (Some position) None)) (sym e)));
}
  where
    none : (o : Option ℕ) → is_some o ≡ false → o ≡ None
    none None h = refl
    none (Some m) h = absurd (let no : ⊥ = cc in no)

    first-none : (o : Option ℕ) → first_of o None ≡ o
    first-none None = refl
    first-none (Some m) = refl

    go : (v j : ℕ) (w : Bool) → ((t == v) && (i == j)) ≡ w
        → cond w (Some position) (get pair_cmp old (v, j)) ≡ first_of (get pair_cmp old (v, j)) (cond w (Some position) None)
    go v j true k =
        let h = and_parts (t == v) (i == j) k in
        sym (ap (λ (o : Option ℕ). first_of o (Some position))
        ((λ m. get pair_cmp old (sym (same_number-sound t v h.0) m, sym (same_number-sound i j h.1) m)) ∙ none (get pair_cmp old (t, i)) n))
    go v j false k = sym (first-none (get pair_cmp old (v, j)))
