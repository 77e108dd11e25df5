-- Looking up the first fact that matches: a loop in which the facts that are left decide.
use Rattle.std.proofs.Common.{◌≡◌, ℕ, ◌+◌, ◌<◌, ◌≤◌, ◌==◌, ◌&&◌, Bool, true, false, List, ◌∷◌, length, get_or, drop}
use Rattle.std.proofs.Common.{Some, None, refl, sym, ap, ◌∙◌}
use Rattle.std.proofs.lemmas.List.{drop_more, drop_all}
use Rattle.poly_terms.specs.model.Bounds as plain
use Rattle.poly_terms.specs.model.Facts as facts
use Rattle.poly_terms.specs.model.Facts.{Time, Size, Cost}
use Rattle.cert_program.specs.cert_rules.Known.{time_in, size_in}
use Rattle.cert_types.specs.declared.fact.Fact.{Fact}
use Rattle.cert_types.specs.Views.{fact_of, facts_of}
use Rattle.cert_types.specs.Lookups.{time_by_fact, size_by_fact}

-- the facts of the remaining list: the next one, then those after it
facts_of-drop : (fs : List Fact) (i : ℕ) (f : Fact) → i < length fs → f ≡ get_or fs i f → facts_of (drop i fs) ≡ fact_of f ∷ facts_of (drop (i + 1) fs)
facts_of-drop fs i f h e = ap facts_of (drop_more fs i f h) ∙ ap (λ (g : Fact). fact_of g ∷ facts_of (drop (i + 1) fs)) (sym e)

-- a fact that is the time decides; if it isn't, the facts after it decide
time_here : (f : facts.Fact) (fs : List facts.Fact) (t : ℕ) (b : plain.Bound) → Some b ≡ time_by_fact f t → Some b ≡ time_in (f ∷ fs) t
time_here (Time u c) fs t b h = go (u == t) refl
  where
    go : (v : Bool) → (u == t) ≡ v → Some b ≡ time_in (Time u c ∷ fs) t
    go true e = rw e (rw e at h)
    go false e = absurd (no (rw e at h))
      where
        no : Some b ≡ None → ⊥
        no k = cc
time_here (Size u i c) fs t b h = absurd (no h)
  where
    no : Some b ≡ None → ⊥
    no k = cc
time_here (Cost u c) fs t b h = absurd (no h)
  where
    no : Some b ≡ None → ⊥
    no k = cc

time_later : (f : facts.Fact) (fs : List facts.Fact) (t : ℕ) → None ≡ time_by_fact f t → time_in (f ∷ fs) t ≡ time_in fs t
time_later (Time u c) fs t h = go (u == t) refl
  where
    go : (v : Bool) → (u == t) ≡ v → time_in (Time u c ∷ fs) t ≡ time_in fs t
    go true e = absurd (no (rw e at h))
      where
        no : None ≡ Some c → ⊥
        no k = cc
    go false e = rw e refl
time_later (Size u i c) fs t h = refl
time_later (Cost u c) fs t h = refl

-- a fact that is the size decides; if it isn't, the facts after it decide
size_here : (f : facts.Fact) (fs : List facts.Fact) (t i : ℕ) (b : plain.Bound) → Some b ≡ size_by_fact f t i → Some b ≡ size_in (f ∷ fs) t i
size_here (Size u j c) fs t i b h = go ((u == t) && (j == i)) refl
  where
    go : (v : Bool) → ((u == t) && (j == i)) ≡ v → Some b ≡ size_in (Size u j c ∷ fs) t i
    go true e = rw e (rw e at h)
    go false e = absurd (no (rw e at h))
      where
        no : Some b ≡ None → ⊥
        no k = cc
size_here (Time u c) fs t i b h = absurd (no h)
  where
    no : Some b ≡ None → ⊥
    no k = cc
size_here (Cost u c) fs t i b h = absurd (no h)
  where
    no : Some b ≡ None → ⊥
    no k = cc

size_later : (f : facts.Fact) (fs : List facts.Fact) (t i : ℕ) → None ≡ size_by_fact f t i → size_in (f ∷ fs) t i ≡ size_in fs t i
size_later (Size u j c) fs t i h = go ((u == t) && (j == i)) refl
  where
    go : (v : Bool) → ((u == t) && (j == i)) ≡ v → size_in (Size u j c ∷ fs) t i ≡ size_in fs t i
    go true e = absurd (no (rw e at h))
      where
        no : None ≡ Some c → ⊥
        no k = cc
    go false e = rw e refl
size_later (Time u c) fs t i h = refl
size_later (Cost u c) fs t i h = refl

module _ (fs : List Fact) (i : ℕ) (t : ℕ) where
  -- a loop over facts for a time finds it at a fact that is that time
  pub time_found : (f : Fact) (b : plain.Bound) → i < length fs → f ≡ get_or fs i f → time_in (facts_of (drop i fs)) t ≡ time_in (facts_of fs) t → Some b ≡ time_by_fact (fact_of f) t
      → Some b ≡ time_in (facts_of fs) t
  time_found f b low e kept h = time_here (fact_of f) (facts_of (drop (i + 1) fs)) t b h ∙ (sym (ap (λ (gs : List facts.Fact). time_in gs t) (facts_of-drop fs i f low e)) ∙ kept)

  -- if a fact isn't the time, the facts after it decide
  pub time_passed : (f : Fact) → i < length fs → f ≡ get_or fs i f → time_in (facts_of (drop i fs)) t ≡ time_in (facts_of fs) t → None ≡ time_by_fact (fact_of f) t
      → time_in (facts_of (drop (i + 1) fs)) t ≡ time_in (facts_of fs) t
  time_passed f low e kept h = sym (time_later (fact_of f) (facts_of (drop (i + 1) fs)) t h) ∙ (sym (ap (λ (gs : List facts.Fact). time_in gs t) (facts_of-drop fs i f low e)) ∙ kept)

  -- where no fact is left there is no time
  pub time_none : length fs ≤ i → time_in (facts_of (drop i fs)) t ≡ time_in (facts_of fs) t → None ≡ time_in (facts_of fs) t
  time_none low kept = sym (ap (λ (gs : List Fact). time_in (facts_of gs) t) (drop_all i fs low)) ∙ kept

  -- a loop over facts for a size finds it at a fact that is that size
  pub size_found : (j : ℕ) (f : Fact) (b : plain.Bound) → i < length fs → f ≡ get_or fs i f → size_in (facts_of (drop i fs)) t j ≡ size_in (facts_of fs) t j → Some b ≡ size_by_fact (fact_of f) t j
      → Some b ≡ size_in (facts_of fs) t j
  size_found j f b low e kept h = size_here (fact_of f) (facts_of (drop (i + 1) fs)) t j b h ∙ (sym (ap (λ (gs : List facts.Fact). size_in gs t j) (facts_of-drop fs i f low e)) ∙ kept)

  -- if a fact isn't the size, the facts after it decide
  pub size_passed : (j : ℕ) (f : Fact) → i < length fs → f ≡ get_or fs i f → size_in (facts_of (drop i fs)) t j ≡ size_in (facts_of fs) t j → None ≡ size_by_fact (fact_of f) t j
      → size_in (facts_of (drop (i + 1) fs)) t j ≡ size_in (facts_of fs) t j
  size_passed j f low e kept h = sym (size_later (fact_of f) (facts_of (drop (i + 1) fs)) t j h) ∙ (sym (ap (λ (gs : List facts.Fact). size_in gs t j) (facts_of-drop fs i f low e)) ∙ kept)

  -- where no fact is left there is no size
  pub size_none : (j : ℕ) → length fs ≤ i → size_in (facts_of (drop i fs)) t j ≡ size_in (facts_of fs) t j → None ≡ size_in (facts_of fs) t j
  size_none j low kept = sym (ap (λ (gs : List Fact). size_in (facts_of gs) t j) (drop_all i fs low)) ∙ kept
