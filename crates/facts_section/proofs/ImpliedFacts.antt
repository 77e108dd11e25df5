-- All facts are met where those are met that are left when implied facts are dropped, and where the needed ones are.
use Rattle.std.proofs.Common.{◌≡◌, ◌&&◌, ◌||◌, ◌∙◌, Bool, true, false, List, [], ◌∷◌, ◌++◌, refl, sym, ap, subst, arith}
use Rattle.std.proofs.Common.{if◌then◌else◌}
use Rattle.std.specs.Prelude.{ℤ, ◌+ℤ◌, ◌≤ℤ◌, int_le, length, nat_eq, nat_le}
use Rattle.std.specs.List.{All, list_any}
use Rattle.std.proofs.lemmas.Bool.{and_parts, eqb-true}
use Rattle.std.proofs.lemmas.Int.{ints}
use Rattle.std.proofs.lemmas.List.{append-nil, append_assoc}
use Rattle.std.proofs.lemmas.List.Elements.{All-append, All-cons, All-head, All-tail}
use Rattle.refined_programs.proofs.refinement.Members.{All-first, All-second}
use Rattle.location_facts.specs.declared.fact.LocFact.{LocFact}
use Rattle.facts_section.specs.Copies.{IsMetBy, value_at}
use Rattle.facts_section.specs.Needed.{completes, is_implied, needed_among, without_implied}

-- the first of the elements that pass a test, with the property that all elements have
record PassingElement {A : Type 0} (P : A → Type 0) (test : A → Bool) : Type 0 where
  pub element : A
  pub has : P element
  pub passes : test element ≡ true

first-passing : {A : Type 0} (P : A → Type 0) (test : A → Bool) (xs : List A) → All P xs → list_any test xs ≡ true
    → PassingElement P test
first-passing P test [] all any = cc
first-passing {A} P test (x ∷ xs) all any = go (test x) refl (first-passing P test xs (All-tail P x xs all))
  where
    go : (v : Bool) → test x ≡ v → (list_any test xs ≡ true → PassingElement P test) → PassingElement P test
    go true e later = record { element = x; has = All-head P x xs all; passes = e }
    go false e later = later (sym (ap (λ (v : Bool). v || list_any test xs) e) ∙ any)

module _ (env : List ℤ) where
  -- a fact is met that follows from two that are
  implied-met : (f : LocFact) (facts : List LocFact) → All (λ g. IsMetBy g env) facts → is_implied f facts ≡ true
      → IsMetBy f env
  implied-met f facts all test =
      let one = first-passing (λ (g : LocFact). IsMetBy g env)
      (λ (g : LocFact). nat_eq g.plus f.plus && list_any (completes f g) facts) facts all test in
      let g = one.element in
      let parts = and_parts (nat_eq g.plus f.plus) (list_any (completes f g) facts) one.passes in
      let two = first-passing (λ (h : LocFact). IsMetBy h env) (completes f g) facts all parts.1 in
      let h = two.element in
      let ends = and_parts (nat_eq g.minus h.plus && nat_eq h.minus f.minus) (int_le f.least (g.least +ℤ h.least))
      two.passes in
      let places = and_parts (nat_eq g.minus h.plus) (nat_eq h.minus f.minus) ends.0 in
      let first = ap (value_at env) (eqb-true g.plus f.plus parts.0) in
      let middle = ap (value_at env) (eqb-true g.minus h.plus places.0) in
      let last = ap (value_at env) (eqb-true h.minus f.minus places.1) in
      omega (arith, ints, one.has, two.has, first, middle, last, ends.1)

  -- all facts are met where those are that are left
  pub left-suffice : (left facts : List LocFact) → All (λ g. IsMetBy g env) (without_implied left facts)
      → All (λ g. IsMetBy g env) (left ++ facts)
  left-suffice left [] all = subst (λ (xs : List LocFact). All (λ g. IsMetBy g env) xs) (sym (append-nil left)) all
  left-suffice left (f ∷ facts) all =
      go (is_implied f (left ++ facts)) refl all (left-suffice left facts) (left-suffice (left ++ f ∷ []) facts)
    where
      Met : List LocFact → Type 0
      Met xs = All (λ g. IsMetBy g env) xs

      go : (v : Bool) → is_implied f (left ++ facts) ≡ v
          → Met (if v then without_implied left facts else without_implied (left ++ f ∷ []) facts)
          → (Met (without_implied left facts) → Met (left ++ facts))
          → (Met (without_implied (left ++ f ∷ []) facts) → Met ((left ++ f ∷ []) ++ facts))
          → Met (left ++ f ∷ facts)
      go true e met without with_it =
          let others = without met in
          All-append (λ g. IsMetBy g env) left (f ∷ facts) (All-first (λ g. IsMetBy g env) left facts others)
          (All-cons (λ g. IsMetBy g env) f facts (implied-met f (left ++ facts) others e)
          (All-second (λ g. IsMetBy g env) left facts others))
      go false e met without with_it =
          subst (λ (xs : List LocFact). Met xs) (append_assoc left (f ∷ []) facts) (with_it met)

-- what all facts have those have that are left
pub left-keep_property : (P : LocFact → Type 0) (left facts : List LocFact) → All P (left ++ facts)
    → All P (without_implied left facts)
left-keep_property P left [] all = subst (λ (xs : List LocFact). All P xs) (append-nil left) all
left-keep_property P left (f ∷ facts) all =
    go (is_implied f (left ++ facts)) refl (left-keep_property P left facts) (left-keep_property P (left ++ f ∷ []) facts)
  where
    go : (v : Bool) → is_implied f (left ++ facts) ≡ v → (All P (left ++ facts) → All P (without_implied left facts))
        → (All P ((left ++ f ∷ []) ++ facts) → All P (without_implied (left ++ f ∷ []) facts))
        → All P (if v then without_implied left facts else without_implied (left ++ f ∷ []) facts)
    go true e without with_it =
        without (All-append P left facts (All-first P left (f ∷ facts) all)
        (All-tail P f facts (All-second P left (f ∷ facts) all)))
    go false e without with_it =
        with_it (subst (λ (xs : List LocFact). All P xs) (sym (append_assoc left (f ∷ []) facts)) all)

-- all facts are met where those are that are needed
pub needed-suffice : (env : List ℤ) (facts : List LocFact) → All (λ g. IsMetBy g env) (needed_among facts)
    → All (λ g. IsMetBy g env) facts
needed-suffice env facts = go (nat_le (length facts) 32)
  where
    go : (v : Bool) → All (λ g. IsMetBy g env) (if v then facts else without_implied [] facts)
        → All (λ g. IsMetBy g env) facts
    go true all = all
    go false all = left-suffice env [] facts all

-- what all facts have those have that are needed
pub needed-keep_property : (P : LocFact → Type 0) (facts : List LocFact) → All P facts → All P (needed_among facts)
needed-keep_property P facts all = go (nat_le (length facts) 32)
  where
    go : (v : Bool) → All P (if v then facts else without_implied [] facts)
    go true = all
    go false = left-keep_property P [] facts all
