-- Proofs of the worked values of relations, steps, places and rules.
use Rattle.std.proofs.Common.{◌≡◌, ℕ, zero, suc, List, [], ◌∷◌, ℤ, pos, Some, None, refl, sym, ◌∙◌, ap, arith}
use Rattle.std.proofs.lemmas.Int.{ints}
use Rattle.std.proofs.lemmas.List.Elements.{All-nil, All-cons, All-head, All-tail}
use Rattle.model.specs.Terms.{Variable}
use Rattle.model.specs.Programs.{Rule, rule_at, AtLeast, Atom, Always, Compare, AtomHolds, GuardHolds}
use Rattle.model.specs.Paths.{HasEdge, HasPath, any_rule, Here, Onward}
use Rattle.model.specs.Worked.{RelationsHold, StepsLead, PlacesAndRulesCount, with_free, bare_rule, with_rules}

-- the worked values of the relations hold
pub relations : RelationsHold
relations = record {
  at_least = (omega (arith, ints), omega (arith, ints), λ h. omega (arith, ints, h));
  more_than = (omega (arith, ints), λ h. omega (arith, ints, h), λ h. omega (arith, ints, h));
  at_most = (omega (arith, ints), omega (arith, ints), λ h. omega (arith, ints, h));
  less_than = (omega (arith, ints), λ h. omega (arith, ints, h), λ h. omega (arith, ints, h));
  equal_to = (refl, λ h. omega (arith, ints, h), λ h. omega (arith, ints, h));
}

-- the guard at A and C
abbrev guard_at : ℤ → ℤ → Type 0
guard_at a c = GuardHolds (a ∷ c ∷ []) with_free.guard

-- the guard holds at 3 and 2
guard_holds : guard_at (pos 3) (pos 2)
guard_holds =
    let P = AtomHolds (pos 3 ∷ pos 2 ∷ []) in
    let compare : Atom = Compare (Variable 0) AtLeast (Variable 1) in
    let more : AtomHolds (pos 3 ∷ pos 2 ∷ []) compare = omega (arith, ints) in
    All-cons P Always (compare ∷ []) tt (All-cons P compare [] more (All-nil P))

-- the guard fails at 3 and 4
guard_fails_at : guard_at (pos 3) (pos 4) → ⊥
guard_fails_at h =
    let P = AtomHolds (pos 3 ∷ pos 4 ∷ []) in
    let compare : Atom = Compare (Variable 0) AtLeast (Variable 1) in
    let more : AtomHolds (pos 3 ∷ pos 4 ∷ []) compare = All-head P compare [] (All-tail P Always (compare ∷ []) h) in
    omega (arith, ints, more)

-- the first value of a list
abbrev first_value : List ℤ → ℤ
first_value [] = pos 0
first_value (x ∷ xs) = x

-- the rule leads as worked out, and nowhere else
pub steps_lead : StepsLead
steps_lead = record {
  leads = record { source = refl; left = refl; free_ones = refl; guard = guard_holds; target = refl; values = refl };
  other_source = λ h. omega (arith, h.source);
  more_values = λ h. omega (arith, h.left);
  no_free = λ d h. omega (arith, h.free_ones);
  more_free = λ d h. omega (arith, h.free_ones);
  guard_fails = λ d h. guard_fails_at h.guard;
  other_target = λ h. omega (arith, h.target);
  other_value = λ h. omega (arith, ints, ap first_value h.values);
}

-- an edge of the program with one rule leads from 0 to 1
edge_of_one : (a b : ℕ) → HasEdge (with_rules (bare_rule 0 1 ∷ [])) any_rule a b → (a ≡ 0) × (b ≡ 1)
edge_of_one a b h = go h.number h.rule h.numbered h.source h.target
  where
    go : (n : ℕ) (r : Rule) → rule_at (with_rules (bare_rule 0 1 ∷ [])) n ≡ Some r → r.source ≡ a → r.target ≡ b
        → (a ≡ 0) × (b ≡ 1)
    go zero r e s t = absurd (none_some e)
      where
        none_some : None ≡ Some r → ⊥
        none_some x = cc
    go (suc zero) r e s t = let same : bare_rule 0 1 ≡ r = cc in (sym s ∙ sym (ap (λ (q : Rule). q.source) same), sym t ∙ sym (ap (λ (q : Rule). q.target) same))
    go (suc (suc n)) r e s t = absurd (none_some e)
      where
        none_some : None ≡ Some r → ⊥
        none_some x = cc

-- no path leads from 1 to 0
path_of_one : (a b : ℕ) → HasPath (with_rules (bare_rule 0 1 ∷ [])) any_rule a b → a ≡ 1 → b ≡ 1
path_of_one a b (Here e) h = sym e ∙ h
path_of_one a b (Onward {b = x} path h) e = (edge_of_one x b h).1

-- the worked values of places, rules and cycles hold
pub places_and_rules : PlacesAndRulesCount
places_and_rules = record {
  first_place = refl;
  second_place = refl;
  no_rule = refl;
  first_rule = refl;
  second_rule = refl;
  past_the_rules = refl;
  arity = refl;
  other_arity = refl;
  begins = record { places = refl; at = refl; values = refl };
  begins_with_all = λ c h. omega (arith, h.places);
  begins_at_start = λ h. omega (arith, h.at);
  cycle_of_two = record {
    from = 0;
    to = 1;
    edge = record { number = 1; rule = bare_rule 0 1; numbered = refl; allowed = refl; source = refl; target = refl };
    back = Onward (Here refl) (record { number = 2; rule = bare_rule 1 0; numbered = refl; allowed = refl; source = refl; target = refl });
  };
  no_cycle_of_one = λ h. let ends = edge_of_one h.from h.to h.edge in omega (arith, ends.0, path_of_one h.to h.from h.back ends.1);
}
