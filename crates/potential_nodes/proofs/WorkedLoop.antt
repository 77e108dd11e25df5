-- The worked loop that counts up, which a potential bounds.
use Rattle.std.proofs.Common.{◌≡◌, ℕ, zero, suc, List, [], ◌∷◌, ◌++◌, length, map, Some}
use Rattle.std.proofs.Common.{refl, sym, ◌∙◌, ap, subst, arith}
use Rattle.std.specs.Prelude.{ℤ, pos, ◌-ℤ◌, ◌≤ℤ◌, ◌<ℤ◌, slice_index_or}
use Rattle.std.proofs.lemmas.Int.{ints}
use Rattle.std.proofs.lemmas.List.Elements.{All-head, All-nil, All-cons}
use Rattle.potentials.specs.model.Terms.{Variable, value}
use Rattle.potentials.specs.model.Programs.{Rule, rule_at, LessThan, Compare, Atom, AtomHolds}
use Rattle.potentials.specs.model.Runs.{Config, IsRun, IsStep, Leads}
use Rattle.potentials.specs.model.Worked.{by_rule, two_values}
use Rattle.potentials.specs.model.WorkedRuns.{both}
use Rattle.potentials.proofs.model.Cases.{none_some, some_same}
use Rattle.signed_bounds.specs.Bounds.{PositivePart}
use Rattle.signed_bounds.specs.Safe.{IsSafe, expands_to_squares}
use Rattle.signed_bounds.specs.Within.{WithinHolds}
use Rattle.potential_nodes.specs.Certificates.{RowsHoldAt}
use Rattle.potential_nodes.specs.Ground.{IsGroundOf, IsTrueGround}
use Rattle.potential_nodes.specs.Worked.{loop, entering_loop, counting_up, loop_rows, loop_new_values, loop_ground, gap}
use Rattle.potential_nodes.specs.Worked.{keep, table, pays_once, LoopsAreBounded}
use Rattle.potential_nodes.specs.SignedNodes.{SignedLemma}
use Rattle.potential_nodes.proofs.AcceptanceLaws.{accepted-nodes}

-- the guard of rule 2: A < B
abbrev below : Atom
below = Compare (Variable 0) LessThan (Variable 1)

-- two values without free ones are the values of A and B
with-values : (vs fs : List ℤ) → length vs ≡ 2 → length fs ≡ 0
    → (x : ℤ) × (y : ℤ) × (vs ≡ x ∷ y ∷ []) × (fs ≡ [])
with-values (x ∷ y ∷ []) [] two none = (x, y, refl, refl)
with-values [] fs two none = absurd (omega (arith, two))
with-values (x ∷ []) fs two none = absurd (omega (arith, two))
with-values (x ∷ y ∷ z ∷ vs) fs two none = absurd (omega (arith, two))
with-values (x ∷ y ∷ []) (f ∷ fs) two none = absurd (omega (arith, none))

-- the rows and new values of a step by a rule are true at the values of its variables
step-ground : (t : ℕ) (r : Rule) (c d : Config) (free : List ℤ) → Leads r c free d → length (c.values ++ free) ≡ 2
    → length c.values ≡ 2 → RowsHoldAt (loop_rows t) (c.values ++ free)
    → map (λ u. value u (c.values ++ free)) (loop_new_values t) ≡ d.values
    → IsGroundOf loop_ground c (record { rule = t; free = free }) d
step-ground t r c d free leads variables places rows new_values = record {
  more = [];
  rows = subst (λ (z : List ℤ). RowsHoldAt (loop_rows t) z) (sym (nothing (c.values ++ free))) rows;
  new_values = ap (λ (z : List ℤ). map (λ u. value u z) (loop_new_values t)) (nothing (c.values ++ free)) ∙ new_values;
  variables = variables;
  places = places;
}
  where
    nothing : (xs : List ℤ) → xs ++ [] ≡ xs
    nothing [] = refl
    nothing (x ∷ xs) = ap (λ (ys : List ℤ). x ∷ ys) (nothing xs)

-- the rows and new values of the loop are true of each step
loop-is-true : IsTrueGround loop_ground
loop-is-true = record {
  each = λ start c s d taken. go c d s.rule s.free taken.step.rule taken.step.numbered taken.step.leads;
}
  where
    two : (c : Config) (free : List ℤ) → length c.values ≡ 2 → length free ≡ 0 → length (c.values ++ free) ≡ 2
    two c free e n = let parts = with-values c.values free e n in
        ap (λ (vs : List ℤ). length (vs ++ free)) parts.2 ∙ ap (λ (fs : List ℤ). length (parts.0 ∷ parts.1 ∷ fs)) parts.3

    go : (c d : Config) (t : ℕ) (free : List ℤ) (r : Rule) → rule_at loop t ≡ Some r → Leads r c free d
        → IsGroundOf loop_ground c (record { rule = t; free = free }) d
    go c d zero free r found leads = absurd (none_some r found)
    go c d (suc zero) free r found leads =
        let is = sym (some_same entering_loop r found) in
        let here = subst (λ (q : Rule). Leads q c free d) is leads in
        step-ground 1 entering_loop c d free here (two c free here.left here.free_ones) here.left tt (sym here.values)
    go c d (suc (suc zero)) free r found leads =
        let is = sym (some_same counting_up r found) in
        let here = subst (λ (q : Rule). Leads q c free d) is leads in
        let P = AtomHolds (c.values ++ free) in
        let low = All-head P below [] here.guard in
        step-ground 2 counting_up c d free here (two c free here.left here.free_ones) here.left
        (row (slice_index_or (c.values ++ free) 0 (pos 0)) (slice_index_or (c.values ++ free) 1 (pos 0)) low, tt)
        (sym here.values)
      where
        row : (a b : ℤ) → a <ℤ b → pos 0 ≤ℤ ((b -ℤ a) -ℤ pos 1)
        row a b h = omega (arith, ints, h)
    go c d (suc (suc (suc t))) free r found leads = absurd (none_some r found)

-- from l0(0, 1) rules 1 and 2 lead to l1(1, 1)
enter : IsStep loop (two_values 0 (pos 0) (pos 1)) (by_rule 1) (two_values 1 (pos 0) (pos 1))
enter = record {
  rule = entering_loop;
  numbered = refl;
  leads = record { source = refl; left = refl; free_ones = refl; guard = All-nil (AtomHolds (pos 0 ∷ pos 1 ∷ [])); target = refl; values = refl };
}

count_up : IsStep loop (two_values 1 (pos 0) (pos 1)) (by_rule 2) (two_values 1 (pos 1) (pos 1))
count_up = record {
  rule = counting_up;
  numbered = refl;
  leads = record {
    source = refl;
    left = refl;
    free_ones = refl;
    guard = let P = AtomHolds (pos 0 ∷ pos 1 ∷ []) in All-cons P below [] (omega (arith, ints)) (All-nil P);
    target = refl;
    values = refl;
  };
}

one_round : IsRun loop (both (pos 0) (pos 1)) (by_rule 2 ∷ by_rule 1 ∷ []) (two_values 1 (pos 1) (pos 1))
one_round = (
  two_values 1 (pos 0) (pos 1),
  (two_values 0 (pos 0) (pos 1), record { places = refl; at = refl; values = refl }, enter),
  count_up,
)

-- the lemma on rule 2
abbrev loop_lemma : SignedLemma
loop_lemma = record {
  node = pays_once (table 1 (gap (pos 0)) (keep 1 [] ∷ keep 2 [] ∷ []));
  bound = PositivePart (gap (pos 0));
}

pub loops-bounded : WithinHolds → IsSafe expands_to_squares → LoopsAreBounded
loops-bounded within_holds safe = record {
  ground = loop-is-true;
  bound = accepted-nodes within_holds loop_ground [] loop_lemma loop-is-true safe tt refl;
  no_less = λ h. let sum = h.each (both (pos 0) (pos 1)) (by_rule 2 ∷ by_rule 1 ∷ []) (two_values 1 (pos 1) (pos 1)) one_round in
      omega (arith, sum);
}
