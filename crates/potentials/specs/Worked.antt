-- Worked values of sums, levels, potentials, phases and ranks, on the program that counts A down from at most 9: rule 1
-- enters, and rule 2 changes A to A - 1 and B to -A.
use Rattle.std.specs.Prelude.{◌≡◌, ℕ, ◌==◌, Bool, true, List, [], ◌∷◌, ℤ, pos, negsuc, ◌-ℤ◌, ◌+ℤ◌}
use Rattle.std.specs.Prelude.{slice_index_or}
use Rattle.run_counting.specs.model.Polynomials.{Polynomial}
use Rattle.run_counting.specs.model.Spending.{or_zero}
use Rattle.run_counting.specs.model.Worked.{four_steps, two_values}
use Rattle.run_counting.specs.model.WorkedRuns.{countdown, both}
use Rattle.run_counting.specs.model.WorkedCosts.{paying}
use Rattle.potentials.specs.Sums.{Charge, charges, weighed, once, once_for, cost_for, cost_of_each, HoldsSum, HoldsPeak}
use Rattle.potentials.specs.Potentials.{Keeps, Potential, Goal, level, Pays, Covers}
use Rattle.potentials.specs.Nodes.{IsAtLeastQuotient}
use Rattle.potentials.specs.Phases.{Phases, GoesInPhases, IsAtLeastRoot}
use Rattle.potentials.specs.Ranks.{Ranking, Entries, Ranks}

-- the values A and B
abbrev pub value_a : List ℤ → ℤ
value_a values = slice_index_or values 0 (pos 0)

-- the polynomials A and B, and a charge of each for a rule
abbrev pub polynomial_a : Polynomial
polynomial_a = record { coef = pos 1; vars = 0 ∷ [] } ∷ []

abbrev pub polynomial_b : Polynomial
polynomial_b = record { coef = pos 1; vars = 1 ∷ [] } ∷ []

abbrev pub charge_a : ℕ → Charge
charge_a t = record { rule = t; form = polynomial_a }

abbrev pub charge_b : ℕ → Charge
charge_b t = record { rule = t; form = polynomial_b }

-- from l0(3, 7) by rule 1 and three times by rule 2: A is 3, 2 and 1 before the rounds, and B is 7, -3 and -2, of which
-- only the first counts; a rule that doesn't occur is charged nothing; where entering costs A and each round B, the
-- four steps cost 10, and the rounds 7 of that
pub record SumsAreWorkedOut : Type 0 where
  pub rounds : weighed countdown (charges (charge_a 2 ∷ [])) (both (pos 3) (pos 7)) four_steps ≡ 6
  pub negative : weighed countdown (charges (charge_b 2 ∷ [])) (both (pos 3) (pos 7)) four_steps ≡ 7
  pub together : weighed countdown (charges (charge_b 1 ∷ charge_a 2 ∷ [])) (both (pos 3) (pos 7)) four_steps ≡ 13
  pub other : weighed countdown (charges (charge_a 3 ∷ [])) (both (pos 3) (pos 7)) four_steps ≡ 0
  pub nothing : weighed countdown (charges []) (both (pos 3) (pos 7)) four_steps ≡ 0
  pub steps : weighed paying once (both (pos 3) (pos 7)) four_steps ≡ 4
  pub costs : weighed paying (cost_of_each paying) (both (pos 3) (pos 7)) four_steps ≡ 10
  pub costs_of_rounds : weighed paying (cost_for paying 2) (both (pos 3) (pos 7)) four_steps ≡ 7

-- the potential with the function A at the symbols that pass a test, which every rule keeps without a gain
abbrev pub kept_a : (ℕ → Bool) → Potential
kept_a has = record { has = has; function = λ s values. value_a values; kind = λ t. Keeps; gain = λ t env. pos 0 }

-- the level is A at l1, 0 where A is negative, and 0 at a symbol without a function
pub record LevelsAreWorkedOut : Type 0 where
  pub there : level (kept_a (λ s. s == 1)) (two_values 1 (pos 3) (pos 7)) ≡ 3
  pub negative : level (kept_a (λ s. s == 1)) (two_values 1 (negsuc 1) (pos 7)) ≡ 0
  pub none : level (kept_a (λ s. s == 1)) (two_values 0 (pos 3) (pos 7)) ≡ 0

-- the goal with the same amount for each step by rule 2
abbrev pub each_round : ℤ → Goal
each_round z = record { is_paid = λ t. t == 2; amount = λ t env. z }

-- A at both symbols pays 1 for each round, but not 2, and not if l0 has no function; it covers A at each round, but not
-- A + 1
pub record PotentialsAreWorkedOut : Type 0 where
  pub pays : (start : List ℤ) → Pays countdown start (kept_a (λ s. true)) 1 (each_round (pos 1))
  pub pays_not_two : ¬ (Pays countdown (both (pos 1) (pos 7)) (kept_a (λ s. true)) 1 (each_round (pos 2)))
  pub pays_not_at_once : ¬ (Pays countdown (both (pos 1) (pos 7)) (kept_a (λ s. s == 1)) 1 (each_round (pos 1)))
  pub covers : (start : List ℤ) → Covers countdown start (kept_a (λ s. true)) 1 2 value_a
  pub covers_no_more : ¬ (Covers countdown (both (pos 1) (pos 7)) (kept_a (λ s. true)) 1 2
      (λ env. value_a env +ℤ pos 1))

-- rule 2 occurs at most as often as the positive part of A says, but not always once less; and A is at most that
-- positive part at each of its steps, but not always less
pub record FactsAreWorkedOut : Type 0 where
  pub sum : HoldsSum countdown (once_for 2) (λ start. or_zero (value_a start))
  pub no_less : ¬ (HoldsSum countdown (once_for 2) (λ start. or_zero (value_a start -ℤ pos 1)))
  pub peak : HoldsPeak countdown 2 value_a (λ start. or_zero (value_a start))
  pub no_lower : ¬ (HoldsPeak countdown 2 value_a (λ start. or_zero (value_a start -ℤ pos 1)))

-- 2 is at least 8 / 3 rounded down, but not at least 9 / 3; 3 is at least the root of 15 rounded down, but not that of
-- 16
pub record QuotientsAndRoots : Type 0 where
  pub quotient : IsAtLeastQuotient 3 (λ start. 8) (λ start. 2)
  pub no_quotient : ¬ (IsAtLeastQuotient 3 (λ start. 9) (λ start. 2))
  pub root : IsAtLeastRoot 15 3
  pub no_root : ¬ (IsAtLeastRoot 16 3)

-- two phases with A as both functions, where rule 2 is counted
abbrev pub phases_a : Phases
phases_a = record {
  has = λ s. true;
  first = λ s values. value_a values;
  second = λ s values. value_a values;
  counted = λ t. t == 2;
}

-- runs go in these phases with the denominator 1, but not with 2
pub record PhasesAreWorkedOut : Type 0 where
  pub goes : (start : List ℤ) → GoesInPhases countdown start phases_a 1
  pub goes_not_by_two : ¬ (GoesInPhases countdown (both (pos 1) (pos 7)) phases_a 2)

-- A as a ranking function of rule 2, which both rules keep; and the virtual entry with a weight
abbrev pub ranking_a : Ranking
ranking_a = record {
  has = λ s. true;
  function = λ s values. value_a values;
  is_member = λ t. true;
  den = 1;
  rule = 2;
}

abbrev pub brought : ℕ → Entries
brought w = record { weight = λ e. w; listed = 0 ∷ [] }

-- A ranks rule 2 from l0(3, 7) if the entry brings in 3, but not if it brings in 2
pub record WorkedRanksHold : Type 0 where
  pub ranks : Ranks countdown (both (pos 3) (pos 7)) ranking_a (brought 3)
  pub ranks_not_with_two : ¬ (Ranks countdown (both (pos 3) (pos 7)) ranking_a (brought 2))
