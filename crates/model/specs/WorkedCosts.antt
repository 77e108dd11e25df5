-- Worked values of costs: of steps, of runs, and bounds on them that hold or don't.
use Rattle.std.specs.Prelude.{◌≡◌, [], ◌∷◌, pos, negsuc, Some, None}
use Rattle.model.specs.Terms.{Term, Variable, Subtraction}
use Rattle.model.specs.Programs.{Rule, Program}
use Rattle.model.specs.Bounds.{Constant, Input}
use Rattle.model.specs.Spending.{cost_at, cost, spent, spent_all}
use Rattle.model.specs.Facts.{HoldsCost}
use Rattle.model.specs.Worked.{with_free, four_steps}
use Rattle.model.specs.WorkedRuns.{entering, looping, over_two_places, countdown, both}

-- a rule with this cost
abbrev pub with_cost : Term → Rule → Rule
with_cost c r = record {
  source = r.source;
  target = r.target;
  left = r.left;
  free = r.free;
  names = r.names;
  updates = r.updates;
  guard = r.guard;
  cost = Some c;
}

-- the program that enters a loop and decreases A; entering costs A, and each round costs B, which is -A after each
-- round
abbrev pub paying : Program
paying = over_two_places (with_cost (Variable 0) entering ∷ with_cost (Variable 1) looping ∷ [])

-- the rule l0(A) -> l1(A + C) with the guard A >= C and the cost A - C, as a program; C is free
abbrev pub paying_the_rest : Program
paying_the_rest = record {
  symbols = record { name = 108 ∷ 48 ∷ []; arity = 1 } ∷ record { name = 108 ∷ 49 ∷ []; arity = 1 } ∷ [];
  start = 0;
  start_names = (65 ∷ []) ∷ [];
  rules = with_cost (Subtraction (Variable 0) (Variable 1)) with_free ∷ [];
}

-- a step costs 1 if no cost is written, else the cost's value, or nothing if that is negative; free variables have
-- their values of the step; a step by a number without a rule costs nothing
pub record StepsCost : Type 0 where
  pub none_written : cost_at None (pos 3 ∷ []) ≡ 1
  pub written : cost_at (Some (Variable 0)) (pos 3 ∷ []) ≡ 3
  pub nothing : cost_at (Some (Variable 0)) (pos 0 ∷ []) ≡ 0
  pub negative : cost_at (Some (Variable 0)) (negsuc 2 ∷ []) ≡ 0
  pub free_variable : cost paying_the_rest 1 (pos 7 ∷ pos 2 ∷ []) ≡ 5
  pub of_second_rule : cost paying 2 (pos 3 ∷ pos 7 ∷ []) ≡ 7
  pub of_plain_rule : cost countdown 2 (pos 3 ∷ pos 7 ∷ []) ≡ 1
  pub of_the_entry : cost paying 0 (pos 3 ∷ pos 7 ∷ []) ≡ 0
  pub past_the_rules : cost paying 3 (pos 3 ∷ pos 7 ∷ []) ≡ 0

-- From l0(3, 7), by rule 1 and then three times by rule 2, entering costs 3, the first round 7 (the value of B before
-- it), and the other two nothing, since B is -3 and -2 before them. Without costs each step costs 1.
pub record RunsSpend : Type 0 where
  pub entering : spent paying 1 (both (pos 3) (pos 7)) four_steps ≡ 3
  pub rounds : spent paying 2 (both (pos 3) (pos 7)) four_steps ≡ 7
  pub all : spent_all paying (both (pos 3) (pos 7)) four_steps ≡ 10
  pub negative_start : spent_all paying (both (pos 3) (negsuc 6)) four_steps ≡ 3
  pub entry : spent paying 0 (both (pos 3) (pos 7)) four_steps ≡ 0
  pub no_step : spent_all paying (both (pos 3) (pos 7)) [] ≡ 0
  -- a step from l0(7) with C = 2 costs 5
  pub free_value : spent paying_the_rest 1 (pos 7 ∷ []) (record { rule = 1; free = pos 2 ∷ [] } ∷ []) ≡ 5
  pub all_free_value : spent_all paying_the_rest (pos 7 ∷ []) (record { rule = 1; free = pos 2 ∷ [] } ∷ []) ≡ 5
  pub plain : spent countdown 2 (both (pos 3) (pos 7)) four_steps ≡ 3
  pub all_plain : spent_all countdown (both (pos 3) (pos 7)) four_steps ≡ 4

-- what the rules of the program with costs spend on all runs: entering at most the absolute value of A, all rounds
-- together at most that of B; without costs the rounds spend at most 9
pub record CostsHold : Type 0 where
  pub entering : HoldsCost paying 1 (Input 0)
  pub rounds : HoldsCost paying 2 (Input 1)
  pub entry : HoldsCost paying 0 (Constant 0)
  pub plain : HoldsCost countdown 2 (Constant 9)
  -- 2 doesn't bound what entering spends, 6 doesn't bound what the rounds spend, and the absolute value of the other
  -- start value bounds neither
  pub entering_less : ¬ (HoldsCost paying 1 (Constant 2))
  pub entering_by_other : ¬ (HoldsCost paying 1 (Input 1))
  pub rounds_less : ¬ (HoldsCost paying 2 (Constant 6))
  pub rounds_by_other : ¬ (HoldsCost paying 2 (Input 0))
  pub plain_less : ¬ (HoldsCost countdown 2 (Constant 2))
