-- Facts at symbols, as they were worked out by hand.
use Rattle.std.proofs.Common.{◌≡◌, [], ◌∷◌, refl, sym, subst, ℤ, pos, negsuc, ◌≤ℤ◌, ◌+ℤ◌, ◌*ℤ◌, slice_index_or, arith}
use Rattle.std.proofs.lemmas.Int.{ints}
use Rattle.model.specs.Runs.{IsRun}
use Rattle.model.specs.Worked.{by_rule, two_values}
use Rattle.model.specs.WorkedRuns.{both, countdown}
use Rattle.model.proofs.WorkedRuns.{step_in}
use Rattle.symbol_facts.specs.Facts.{IsSymbolFact}
use Rattle.symbol_facts.specs.Worked.{CommonFactsAreWorkedOut, FactsOfCountdown, FactsAreWorkedOut, first_place}
use Rattle.symbol_facts.specs.Worked.{square_from}

common_worked : CommonFactsAreWorkedOut
common_worked = record {
  strongest_ones = refl;
  one = refl;
  two = refl;
  three = refl;
  none = refl;
  summands_of = refl;
}

-- the step by rule 1 from l0(-1, 0)
enters_below : IsRun countdown (both (negsuc 0) (pos 0)) (by_rule 1 ∷ []) (two_values 1 (negsuc 0) (pos 0))
enters_below = (
  two_values 0 (negsuc 0) (pos 0),
  record { places = refl; at = refl; values = refl },
  step_in (negsuc 0) (pos 0),
)

no_one : IsSymbolFact countdown (record { symbol = 1; form = []; least = pos 1 }) → ⊥
no_one h =
    let met : pos 1 ≤ℤ pos 0 =
    h.each (both (negsuc 0) (pos 0)) (by_rule 1 ∷ []) (two_values 1 (negsuc 0) (pos 0)) enters_below refl in
    omega (arith, ints, met)

below : IsSymbolFact countdown (record { symbol = 1; form = first_place; least = pos 0 }) → ⊥
below h =
    let met : pos 0 ≤ℤ negsuc 0 =
    h.each (both (negsuc 0) (pos 0)) (by_rule 1 ∷ []) (two_values 1 (negsuc 0) (pos 0)) enters_below refl in
    omega (arith, ints, met)

one : (a : ℤ) → a *ℤ pos 1 ≡ a
one a = omega (arith, ints)

-- a square isn't negative
square : (a : ℤ) → pos 0 ≤ℤ ((pos 1 *ℤ (a *ℤ a)) +ℤ pos 0)
square (pos n) = omega (arith, ints)
square (negsuc n) = omega (arith, ints)

square_value : (a : ℤ) → pos 0 ≤ℤ ((pos 1 *ℤ (a *ℤ (a *ℤ pos 1))) +ℤ pos 0)
square_value a =
    subst (λ (z : ℤ). pos 0 ≤ℤ ((pos 1 *ℤ (a *ℤ z)) +ℤ pos 0)) (sym (one a)) (square a)

-- that of -1 is below 2
square_below : IsSymbolFact countdown (square_from (pos 2)) → ⊥
square_below h =
    let met : pos 2 ≤ℤ pos 1 =
    h.each (both (negsuc 0) (pos 0)) (by_rule 1 ∷ []) (two_values 1 (negsuc 0) (pos 0)) enters_below refl in
    omega (arith, ints, met)

of_countdown : FactsOfCountdown
of_countdown = record {
  by_copies = refl;
  by_nothing = refl;
  trivial = record { each = λ start steps c run at. omega (arith, ints) };
  too_strong = no_one;
  untrue = below;
  square = record { each = λ start steps c run at. square_value (slice_index_or c.values 0 (pos 0)) };
  square_untrue = square_below;
}

pub facts_worked : FactsAreWorkedOut
facts_worked = record { common_facts = common_worked; of_countdown = of_countdown }
