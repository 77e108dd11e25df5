-- Where the strongest facts of a list are met all of its facts are.
use Rattle.std.proofs.Common.{◌≡◌, ℕ, zero, suc, ◌&&◌, Bool, true, false, List, [], ◌∷◌, filter}
use Rattle.std.proofs.Common.{Option, Some, None, refl, sym, ◌∙◌, ap, subst, arith, if◌then◌else◌, eq-eqb}
use Rattle.std.specs.Prelude.{ℤ, ◌≤ℤ◌, nat_eq, int_lt, not}
use Rattle.std.specs.List.{All, Contains, list_any}
use Rattle.std.proofs.lemmas.Bool.{eqb-true, and_parts}
use Rattle.std.proofs.lemmas.Int.{ints}
use Rattle.std.proofs.lemmas.List.Elements.{All-contains, All-contains_itself, All-filter, All-weaker}
use Rattle.std.proofs.lemmas.List.Folds.{list_any_none}
use Rattle.refined_programs.proofs.refinement.model.Cases.{none_some, some_same}
use Rattle.location_facts.specs.declared.fact.LocFact.{LocFact}
use Rattle.location_facts.specs.Strengthening.{greater, greatest_least}
use Rattle.location_facts.proofs.Strongest.{greatest-is}
use Rattle.facts_section.specs.Copies.{IsMetBy, value_at}
use Rattle.facts_section.specs.Needed.{is_weaker, strongest_among}

-- a number that may be there is there, and at least n
record Reaches (o : Option ℤ) (n : ℤ) : Type 0 where
  pub number : ℤ
  pub is_there : o ≡ Some number
  pub most : n ≤ℤ number

-- the greater of two numbers reaches the first one
greater-own : (a : ℤ) (best : Option ℤ) → Reaches (Some (greater a best)) a
greater-own a None = record { number = a; is_there = refl; most = omega (arith, ints) }
greater-own a (Some b) = go (int_lt a b) refl
  where
    go : (v : Bool) → int_lt a b ≡ v → Reaches (Some (greater a (Some b))) a
    go true e = rw e (record { number = b; is_there = refl; most = omega (arith, ints, e) })
    go false e = rw e (record { number = a; is_there = refl; most = omega (arith, ints) })

-- and what the other one reaches
greater-other : (a n : ℤ) (best : Option ℤ) → Reaches best n → Reaches (Some (greater a best)) n
greater-other a n None h = absurd (none_some h.number h.is_there)
greater-other a n (Some b) h = go (int_lt a b) refl
  where
    same : h.number ≡ b
    same = sym (some_same b h.number h.is_there)

    go : (v : Bool) → int_lt a b ≡ v → Reaches (Some (greater a (Some b))) n
    go true e = rw e (record { number = b; is_there = refl; most = omega (arith, ints, same, h.most) })
    go false e = rw e (record { number = a; is_there = refl; most = omega (arith, ints, same, h.most, e) })

module _ (i j : ℕ) where
  -- the greatest least of a list reaches what is reached before it
  still-reached : (n : ℤ) (best : Option ℤ) (facts : List LocFact) → Reaches best n
      → Reaches (greatest_least i j best facts) n
  still-reached n best [] h = h
  still-reached n best (f ∷ facts) h =
      go (nat_eq f.plus i && nat_eq f.minus j) refl (λ old reached. still-reached n old facts reached)
    where
      go : (v : Bool) → nat_eq f.plus i && nat_eq f.minus j ≡ v
          → ((old : Option ℤ) → Reaches old n → Reaches (greatest_least i j old facts) n)
          → Reaches (greatest_least i j best (f ∷ facts)) n
      go true e ih = rw e (ih (Some (greater f.least best)) (greater-other f.least n best h))
      go false e ih = rw e (ih best h)

  -- and the least of each fact with these places
  own-reached : (best : Option ℤ) (facts : List LocFact) (f : LocFact) → Contains facts f → f.plus ≡ i → f.minus ≡ j
      → Reaches (greatest_least i j best facts) f.least
  own-reached best [] f (k, low, at) plus minus = absurd (omega (arith, low))
  own-reached best (g ∷ facts) f (zero, low, at) plus minus =
      subst (λ (x : LocFact). Reaches (greatest_least i j best (g ∷ facts)) x.least) at
      (rw tested (still-reached g.least (Some (greater g.least best)) facts (greater-own g.least best)))
    where
      tested : (nat_eq g.plus i && nat_eq g.minus j) ≡ true
      tested =
          let p : nat_eq g.plus i ≡ true = eq-eqb g.plus i (ap (λ (x : LocFact). x.plus) at ∙ plus) in
          let m : nat_eq g.minus j ≡ true = eq-eqb g.minus j (ap (λ (x : LocFact). x.minus) at ∙ minus) in
          rw p (rw m refl)
  own-reached best (g ∷ facts) f (suc k, low, at) plus minus =
      own-reached (if nat_eq g.plus i && nat_eq g.minus j then Some (greater g.least best) else best) facts f
      (k, omega (arith, low), at) plus minus

-- an element that passes a test is in the filtered list
filter-contains : {X : Type 0} (p : X → Bool) (xs : List X) (x : X) → Contains xs x → p x ≡ true → Contains
    (filter p xs) x
filter-contains p [] x (k, low, at) passes = absurd (omega (arith, low))
filter-contains {X} p (y ∷ xs) x (zero, low, at) passes = rw here (0, omega arith, at)
  where
    here : p y ≡ true
    here = ap p at ∙ passes
filter-contains {X} p (y ∷ xs) x (suc k, low, at) passes =
    go (p y) refl (filter-contains p xs x (k, omega (arith, low), at) passes)
  where
    behind : Contains (filter p xs) x → Contains (y ∷ filter p xs) x
    behind (j, l, e) = (suc j, omega (arith, l), e)

    go : (v : Bool) → p y ≡ v → Contains (filter p xs) x → Contains (filter p (y ∷ xs)) x
    go true e ih = rw e (behind ih)
    go false e ih = rw e ih

module _ (facts : List LocFact) (env : List ℤ) where
  -- a fact with the greatest least of its difference is weaker than none
  says-most : (g : LocFact) → greatest_least g.plus g.minus None facts ≡ Some g.least
      → list_any (is_weaker g) facts ≡ false
  says-most g most = list_any_none (is_weaker g) facts
      (All-weaker (Contains facts) (λ h. is_weaker g h ≡ false) each facts (All-contains_itself facts))
    where
      less : (h : LocFact) → Contains facts h → is_weaker g h ≡ true → ⊥
      less h member test =
          let parts = and_parts (nat_eq g.plus h.plus && nat_eq g.minus h.minus) (int_lt g.least h.least) test in
          let places = and_parts (nat_eq g.plus h.plus) (nat_eq g.minus h.minus) parts.0 in
          let reached = own-reached g.plus g.minus None facts h member (sym (eqb-true g.plus h.plus places.0))
          (sym (eqb-true g.minus h.minus places.1)) in
          let same = some_same g.least reached.number (sym most ∙ reached.is_there) in
          omega (arith, ints, parts.1, reached.most, same)

      each : (h : LocFact) → Contains facts h → is_weaker g h ≡ false
      each h member = go (is_weaker g h) refl
        where
          go : (v : Bool) → is_weaker g h ≡ v → v ≡ false
          go true e = absurd (less h member e)
          go false e = refl

  -- a fact of the list is met where the strongest facts are
  one-met : All (λ f. IsMetBy f env) (strongest_among facts) → (f : LocFact) → Contains facts f → IsMetBy f env
  one-met met f member =
      let reached = own-reached f.plus f.minus None facts f member refl refl in
      let found = greatest-is f.plus f.minus reached.number facts reached.is_there in
      let g = found.fact in
      let most : greatest_least g.plus g.minus None facts ≡ Some g.least =
      ap (λ (i : ℕ). greatest_least i g.minus None facts) found.plus
      ∙ (ap (λ (j : ℕ). greatest_least f.plus j None facts) found.minus
      ∙ (reached.is_there ∙ ap (λ (k : ℤ). Some k) (sym found.is_least))) in
      let strong : Contains (strongest_among facts) g =
      filter-contains (λ f. not (list_any (is_weaker f) facts)) facts g found.member (ap not (says-most g most)) in
      let here = All-contains (λ f. IsMetBy f env) (strongest_among facts) g met strong in
      let plus = ap (λ (i : ℕ). value_at env i) found.plus in
      let minus = ap (λ (j : ℕ). value_at env j) found.minus in
      omega (arith, ints, here, plus, minus, found.is_least, reached.most)

  -- all facts of a list are met where the strongest ones are
  pub strongest-suffice : All (λ f. IsMetBy f env) (strongest_among facts) → All (λ f. IsMetBy f env) facts
  strongest-suffice met =
      All-weaker (Contains facts) (λ f. IsMetBy f env) (one-met met) facts (All-contains_itself facts)

  -- and the other way round
  pub strongest-met : All (λ f. IsMetBy f env) facts → All (λ f. IsMetBy f env) (strongest_among facts)
  strongest-met met = All-filter (λ f. not (list_any (is_weaker f) facts)) (λ f. IsMetBy f env) facts met
