-- Worked values of replays of small programs: tallies, the first bad step, and costs.
use Rattle.std.specs.Prelude.{◌≡◌, ◌-◌, ◌^◌, ℕ, List, [], ◌∷◌, map, ℤ, pos, negsuc}
use Rattle.its_model.specs.model.Terms.{Term, Literal, Addition}
use Rattle.its_model.specs.model.Programs.{Program, Compare, AtLeast}
use Rattle.its_model.specs.model.Runs.{Step}
use Rattle.its_model.specs.model.Worked.{by_rule, four_steps}
use Rattle.its_model.specs.model.WorkedRuns.{countdown, both}
use Rattle.its_model.specs.model.WorkedCosts.{with_cost, paying}
use Rattle.its_model.specs.Steps.{StepFault, OtherRule, AtomFails, PastRange}
use Rattle.its_model.specs.WorkedSteps.{maximum, minimum, A, B, one_more, looping}
use Rattle.run_replay.specs.Replays.{IsRunInRange, IsFirstBadStep, tally_along, IsGreatest, IsSizeAfter}

-- five steps, last step first: by rule 1, and then four times by rule 2
abbrev pub five_steps : List Step
five_steps = by_rule 2 ∷ four_steps

-- the tallies of the program that enters a loop and decreases A, from l0(3, 7)
pub record TalliesAreWorkedOut : Type 0 where
  -- the run leads by l1(3, 7), l1(2, -3) and l1(1, -2) to l1(0, -1): absolute values are tallied, and each rule has its
  -- own row
  pub four : tally_along countdown (both (pos 3) (pos 7)) four_steps
      ≡ record {
        steps = 4;
        counts = 1 ∷ 3 ∷ [];
        greatest = (3 ∷ 7 ∷ []) ∷ (2 ∷ 3 ∷ []) ∷ [];
        costs = 1 ∷ 3 ∷ [];
        spent = 4;
      }
  -- a rule that doesn't occur has zeros; the start values aren't tallied
  pub one : tally_along countdown (both (pos 3) (pos 7)) (by_rule 1 ∷ [])
      ≡ record {
        steps = 1;
        counts = 1 ∷ 0 ∷ [];
        greatest = (3 ∷ 7 ∷ []) ∷ (0 ∷ 0 ∷ []) ∷ [];
        costs = 1 ∷ 0 ∷ [];
        spent = 1;
      }
  pub none : tally_along countdown (both (pos 3) (pos 7)) []
      ≡ record {
        steps = 0;
        counts = 0 ∷ 0 ∷ [];
        greatest = (0 ∷ 0 ∷ []) ∷ (0 ∷ 0 ∷ []) ∷ [];
        costs = 0 ∷ 0 ∷ [];
        spent = 0;
      }
  -- the run leads from l0(-9, 1) to l1(-9, 1): absolute values are tallied, and places aren't exchanged
  pub below_zero : tally_along countdown (both (negsuc 8) (pos 1)) (by_rule 1 ∷ [])
      ≡ record {
        steps = 1;
        counts = 1 ∷ 0 ∷ [];
        greatest = (9 ∷ 1 ∷ []) ∷ (0 ∷ 0 ∷ []) ∷ [];
        costs = 1 ∷ 0 ∷ [];
        spent = 1;
      }

-- a step by rule 1 with the value 0 for its free variable
abbrev pub with_zero : Step
with_zero = record { rule = 1; free = pos 0 ∷ [] }

-- The greatest value at a place needn't be the first one or the last: l0(A, B) -> l0(B, A + 1) leads from l0(1, 5) to
-- l0(5, 2), l0(2, 6) and l0(6, 3). In the four steps of the program that decreases A the greatest first value after
-- rule 2 is 2, neither 3, which is rule 1's, nor 1; if rule 2 doesn't occur it is 0, and 3 isn't a value after rule 2.
pub record GreatestAreWorkedOut : Type 0 where
  pub between : tally_along (looping [] B one_more) (both (pos 1) (pos 5)) (with_zero ∷ with_zero ∷ with_zero ∷ [])
      ≡ record { steps = 3; counts = 3 ∷ []; greatest = (6 ∷ 6 ∷ []) ∷ []; costs = 3 ∷ []; spent = 3 }
  pub first_after_2 : IsGreatest countdown (both (pos 3) (pos 7)) four_steps 2 1 2
  pub not_of_rule_1 : ¬ (IsGreatest countdown (both (pos 3) (pos 7)) four_steps 2 1 3)
  pub not_a_later_one : ¬ (IsGreatest countdown (both (pos 3) (pos 7)) four_steps 2 1 1)
  pub absent : IsGreatest countdown (both (pos 3) (pos 7)) (by_rule 1 ∷ []) 2 1 0
  pub other_rule : ¬ (IsSizeAfter countdown (both (pos 3) (pos 7)) (by_rule 1 ∷ []) 2 1 3)

-- the program l0(A, B) -> l0(B, A) with this cost
abbrev pub swapping_at_cost : Term → Program
swapping_at_cost c = record (looping [] B A) { rules = map (with_cost c) (looping [] B A).rules }

-- the costs of steps: entering and each round are charged at the values before them, and a negative cost counts as 0;
-- the cost of a rule and the cost of all rules are exact up to 2^127
pub record CostsAreTallied : Type 0 where
  -- entering costs 3, the first round 7, and the other two nothing, since B is -3 and -2 before them
  pub paying : tally_along paying (both (pos 3) (pos 7)) four_steps
      ≡ record (tally_along countdown (both (pos 3) (pos 7)) four_steps) { costs = 3 ∷ 7 ∷ []; spent = 10 }
  -- from l0(4, 1), A is 4 before the first step and 1 before the second
  pub before_the_step : (tally_along (swapping_at_cost A) (both (pos 4) (pos 1)) (with_zero ∷ [])).spent ≡ 4
  pub both_steps : (tally_along (swapping_at_cost A) (both (pos 4) (pos 1)) (with_zero ∷ with_zero ∷ [])).costs ≡ 5 ∷ []
  pub negative : (tally_along (swapping_at_cost A) (both (negsuc 3) (pos 1)) (with_zero ∷ with_zero ∷ [])).spent ≡ 1
  pub at_most : (tally_along (swapping_at_cost A) (both maximum (pos 0)) (with_zero ∷ with_zero ∷ [])).spent
      ≡ 2 ^ 127 - 1
  pub at_the_cap : (tally_along (swapping_at_cost A) (both maximum (pos 1)) (with_zero ∷ with_zero ∷ [])).costs
      ≡ 2 ^ 127 ∷ []
  pub beyond : (tally_along (swapping_at_cost A) (both maximum maximum) (with_zero ∷ with_zero ∷ [])).spent ≡ 2 ^ 127

-- the program l0(A, B) -> l0(A + 1, B), and l0(A, B) -> l0(A, B) with the guard A + 1 >= B
abbrev pub counting_up : Program
counting_up = looping [] one_more B

abbrev pub comparing : Program
comparing = looping (Compare one_more AtLeast B ∷ []) A B

-- the program l0(A, B) -> l0(A, B) with the guard A + 1 >= B and the cost B + 1
abbrev pub comparing_at_cost : Program
comparing_at_cost =
    record comparing { rules = map (with_cost (Addition B (Literal (pos 1)))) comparing.rules }

-- the first bad step of these steps, from two start values, has this number and this fault
abbrev pub IsFirst : Program → ℤ → ℤ → List Step → ℕ → StepFault → Type 0
IsFirst p a b steps n f = IsFirstBadStep p (both a b) steps (record { number = n; fault = f })

-- worked values of which steps are a run in range, and of which one is the first bad one
pub record BadStepsAreWorkedOut : Type 0 where
  -- no step is a run in range, and so are rule 1 and three times rule 2 from l0(3, 7); rule 2 a fourth time isn't,
  -- since A is 0
  pub no_step : IsRunInRange countdown (both (pos 3) (pos 7)) []
  pub four : IsRunInRange countdown (both (pos 3) (pos 7)) four_steps
  pub five : ¬ (IsRunInRange countdown (both (pos 3) (pos 7)) five_steps)
  -- the fifth step is the first bad one, by its first atom; not the fourth or the sixth step, and not by the second
  -- atom
  pub fifth : IsFirst countdown (pos 3) (pos 7) five_steps 5 (AtomFails 1)
  pub not_fourth : ¬ (IsFirst countdown (pos 3) (pos 7) five_steps 4 (AtomFails 1))
  pub not_sixth : ¬ (IsFirst countdown (pos 3) (pos 7) five_steps 6 (AtomFails 1))
  pub not_second_atom : ¬ (IsFirst countdown (pos 3) (pos 7) five_steps 5 (AtomFails 2))
  -- if a step after the fifth one is by a rule that doesn't exist, the fifth step is still the first bad one
  pub first_counts : IsFirst countdown (pos 3) (pos 7) (by_rule 9 ∷ five_steps) 5 (AtomFails 1)
  pub not_last : ¬ (IsFirst countdown (pos 3) (pos 7) (by_rule 9 ∷ five_steps) 6 OtherRule)
  -- from l0(10, 7) the second step fails by its last atom
  pub second_atom : IsFirst countdown (pos 10) (pos 7) (by_rule 2 ∷ by_rule 1 ∷ []) 2 (AtomFails 2)
  -- a first step is bad if its rule has another source, if it doesn't exist, or if there is a surplus value
  pub other_symbol : IsFirst countdown (pos 3) (pos 7) (by_rule 2 ∷ []) 1 OtherRule
  pub no_rule : IsFirst countdown (pos 3) (pos 7) (by_rule 3 ∷ []) 1 OtherRule
  pub surplus : IsFirst countdown (pos 3) (pos 7) (record { rule = 1; free = pos 5 ∷ [] } ∷ []) 1 OtherRule
  -- the maximum is in range and the maximum plus 1 isn't, also not in a guard that would hold, at values that are in
  -- range
  pub to_maximum : IsRunInRange counting_up (both (pos 170141183460469231731687303715884105726) (pos 0))
      (with_zero ∷ [])
  pub past_maximum : IsFirst counting_up (pos 170141183460469231731687303715884105726) (pos 0)
      (with_zero ∷ with_zero ∷ []) 2 PastRange
  pub not_a_run : ¬ (IsRunInRange counting_up (both maximum (pos 0)) (with_zero ∷ []))
  pub in_guard : IsFirst comparing maximum (pos 0) (with_zero ∷ []) 1 PastRange
  pub at_minimum : IsRunInRange comparing (both minimum minimum) (with_zero ∷ [])
  -- a cost may be the maximum, or far below 0; a cost that exceeds 128 bits makes a step bad that is good without it,
  -- and it is this step of several that is bad, not the one before or after it
  pub greatest_cost : IsRunInRange (swapping_at_cost A) (both maximum (pos 0)) (with_zero ∷ [])
  pub least_cost : IsRunInRange (swapping_at_cost A) (both minimum (pos 0)) (with_zero ∷ [])
  pub past_cost : IsFirst (swapping_at_cost one_more) maximum (pos 0) (with_zero ∷ []) 1 PastRange
  pub second_cost : IsFirst (swapping_at_cost one_more) (pos 0) maximum (with_zero ∷ with_zero ∷ []) 2 PastRange
  pub not_first_cost : ¬ (IsFirst (swapping_at_cost one_more) (pos 0) maximum (with_zero ∷ with_zero ∷ []) 1 PastRange)
  -- an atom that doesn't hold is reported before a fault of the cost
  pub atom_before_cost : IsFirst comparing_at_cost (pos 0) maximum (with_zero ∷ []) 1 (AtomFails 1)

-- All worked values of this file.
pub record ReplaysAreWorkedOut : Type 0 where
  pub tallies : TalliesAreWorkedOut
  pub greatest : GreatestAreWorkedOut
  pub costs : CostsAreTallied
  pub steps : BadStepsAreWorkedOut
