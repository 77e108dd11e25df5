-- Worked values of which outcome a cost has: by its rows, of several missing sizes, and where a limit is exceeded. For
-- the program that enters a loop for a cost of A, and pays B for each round; for k(A) -> l(A) with a cost of 5 and of
-- A - 1, where A >= 1, A >= 2 and A >= 3; and for k() -> l() with a cost of C * C, where that holds of B instead.
use Rattle.std.specs.Prelude.{◌≡◌, ℕ, suc, zero, List, [], ◌∷◌, ℤ, pos, Option, Some, None}
use Rattle.model.specs.Bounds.{Bound, Constant, Input}
use Rattle.model.specs.Programs.{Atom, AtLeast, Compare, Rule, Program}
use Rattle.model.specs.Terms.{Term, Literal, Variable, Subtraction, Multiplication}
use Rattle.model.specs.WorkedCosts.{with_cost}
use Rattle.farkas_cert.specs.declared.scaled.Scaled.{Scaled}
use Rattle.cert_types.specs.cert_rules.AcceptsSizes.{Side}
use Rattle.cert_types.specs.cert_rules.Gaps.{ScaledPoint}
use Rattle.cert_types.specs.cert_rules.Nodes.{SideBound, Linear, CostBy, EmptyCost, NeverCost, SideBoundCost}
use Rattle.cert_types.specs.cert_rules.WorkedSettings.{rule_over, program_with}
use Rattle.cert_types.specs.declared.answer.GuardFeasibility.TheVariants as feasible
use Rattle.cert_types.specs.declared.answer.LimitHit.{LimitHit}
use Rattle.cert_types.specs.declared.answer.Question.TheVariants as asked
use Rattle.cert_types.specs.declared.proof.EmptyNode.{EmptyNode}
use Rattle.local_size.specs.LocalAnswers.{Local, HasHitLimit}
use Rattle.outcome.specs.Reports.{SizeUnbounded, SizeHitLimit, SizeMissing}
use Rattle.bound_fixpoint.specs.Keys.{key}
use Rattle.cost_bounds.specs.CostOutcomes.{CostOutcome, CostQuestion, BoundedBy, NotBounded}
use Rattle.cost_bounds.specs.CostOutcomes.{FeasibleTo, StepTo, IsCostOf}
use Rattle.cost_bounds.specs.WorkedCosts.{by_A, known_as, no_size, once, own_size, paying_over, up_to}
use Rattle.worked_reasons.specs.Programs.{limit_hit_at}

-- no rule ever occurs
abbrev pub never : ℕ → Option Bound
never t = Some (Constant 0)

-- the question of the cost of entering, if no rule ever occurs, and if each rule occurs once
abbrev pub never_entering : CostQuestion
never_entering = paying_over never no_size 1

abbrev pub entering_once : CostQuestion
entering_once = paying_over once own_size 1

-- the answers on the cost of one step: there is none; the cost is at most A; and a limit is hit
abbrev pub Unanswered : Local → Type 0
Unanswered step = ⊥

abbrev pub AtMostA : Local → Type 0
AtMostA step = step ≡ up_to by_A

abbrev pub Exceeds : LimitHit → Local → Type 0
Exceeds x step = step ≡ HasHitLimit x

-- rows without a point come first, even if the rule never occurs; then a time of 0, whatever the answer on one step is,
-- even if the linear program for a point exceeds a limit. That limit is no reason by itself: if one step has a bound,
-- so has the cost; and if the limit is the answer on one step, its question is the cost and not the point
pub record RowsAreWorkedOut : Type 0 where
  pub empty : (node : EmptyNode)
      → FeasibleTo never_entering Unanswered (feasible.Empty node) (BoundedBy (EmptyCost node.multipliers.items))
  pub not_never : (node : EmptyNode)
      → ¬ (FeasibleTo never_entering Unanswered (feasible.Empty node) (BoundedBy NeverCost))
  pub never_with_point : (z : Scaled) → FeasibleTo never_entering Unanswered (feasible.Point z) (BoundedBy NeverCost)
  pub never_past_limit : (x : LimitHit)
      → FeasibleTo never_entering Unanswered (feasible.OutOfLimits x) (BoundedBy NeverCost)
  pub not_limit : (x : LimitHit)
      → ¬ (FeasibleTo never_entering Unanswered (feasible.OutOfLimits x) (NotBounded (SizeHitLimit x)))
  pub bounded_past_limit : (x : LimitHit)
      → FeasibleTo entering_once AtMostA (feasible.OutOfLimits x) (BoundedBy (SideBoundCost by_A))
  pub not_empty : (x : LimitHit) (multipliers : List ℕ)
      → ¬ (FeasibleTo entering_once AtMostA (feasible.OutOfLimits x) (BoundedBy (EmptyCost multipliers)))
  pub limit_of_point : (x : LimitHit) → FeasibleTo entering_once (Exceeds x) (feasible.OutOfLimits x)
      (NotBounded (SizeHitLimit (record { question = asked.Cost 1; cause = x.cause })))
  pub not_of_point : (x : LimitHit) → x.question ≡ asked.Empty 1
      → ¬ (FeasibleTo entering_once (Exceeds x) (feasible.OutOfLimits x) (NotBounded (SizeHitLimit x)))

-- A + B as an upper bound on the cost of a round
abbrev pub by_both : SideBound
by_both = Linear 1 (record { coefs = pos 1 ∷ pos 1 ∷ []; constant = pos 0 }) (0 ∷ 0 ∷ [])

-- the sizes of the first place after rule 1; of both places after it; and of these and the first after rule 2
abbrev pub one_size : ℕ → ℕ → Option Bound
one_size (suc zero) (suc zero) = Some (Input 0)
one_size t i = None

abbrev pub sizes_of_first : ℕ → ℕ → Option Bound
sizes_of_first (suc zero) (suc i) = Some (Input i)
sizes_of_first t i = None

abbrev pub all_but_last : ℕ → ℕ → Option Bound
all_but_last (suc zero) (suc i) = Some (Input i)
all_but_last (suc (suc zero)) (suc zero) = Some (Input 0)
all_but_last t i = None

-- a round that reads both places, after entering and after a round: of the sizes that are missing the first is
-- reported, by the rule before and then by the place
pub record MissingSizesAreWorkedOut : Type 0 where
  pub all : StepTo (paying_over once no_size 2) (up_to by_both) (NotBounded (SizeMissing (key 1 1)))
  pub second_place : StepTo (paying_over once one_size 2) (up_to by_both) (NotBounded (SizeMissing (key 1 2)))
  pub not_second_rule : ¬ (StepTo (paying_over once one_size 2) (up_to by_both) (NotBounded (SizeMissing (key 2 1))))
  pub second_rule : StepTo (paying_over once sizes_of_first 2) (up_to by_both) (NotBounded (SizeMissing (key 2 1)))
  pub last : StepTo (paying_over once all_but_last 2) (up_to by_both) (NotBounded (SizeMissing (key 2 2)))
  pub not_its_first : ¬ (StepTo (paying_over once all_but_last 2) (up_to by_both) (NotBounded (SizeMissing (key 2 1))))
  pub none : StepTo (paying_over once own_size 2) (up_to by_both) (BoundedBy (SideBoundCost by_both))

-- the variable with this number is at least 1, at least 2 and at least 3
abbrev pub three_above : ℕ → List Atom
three_above v =
    Compare (Variable v) AtLeast (Literal (pos 1)) ∷ Compare (Variable v) AtLeast (Literal (pos 2))
    ∷ Compare (Variable v) AtLeast (Literal (pos 3)) ∷ []

-- k(A) -> l(A) with a cost, if A is at least 1, 2 and 3
abbrev pub rule_above : Term → Rule
rule_above c = with_cost c (rule_over 0 1 0 (Variable 0) (three_above 0))

abbrev pub program_above : Term → Program
program_above c = program_with (rule_above c ∷ [])

-- A - 1, and 5, as costs
abbrev pub one_less : Term
one_less = Subtraction (Variable 0) (Literal (pos 1))

abbrev pub five : Term
five = Literal (pos 5)

-- 5 as the upper bound of one step
abbrev pub by_five : SideBound
by_five = Linear 1 (record { coefs = pos 0 ∷ []; constant = pos 5 }) (0 ∷ 0 ∷ 0 ∷ [])

-- k() -> l() for a cost of C * C, where B is at least these numbers, with C and B free
abbrev pub squaring_free : Rule
squaring_free = record {
  source = 0;
  target = 1;
  left = 0;
  free = 2;
  names = [];
  updates = [];
  guard = three_above 1;
  cost = Some (Multiplication (Variable 0) (Variable 0));
}

abbrev pub squared_free : Program
squared_free = record {
  symbols = record { name = 107 ∷ []; arity = 0 } ∷ record { name = 108 ∷ []; arity = 0 } ∷ [];
  start = 0;
  start_names = [];
  rules = squaring_free ∷ [];
}

-- the outcome of rule 1's cost within one pivot, where each rule occurs once
abbrev pub IsOutcome : Program → CostOutcome → Type 0
IsOutcome p o = IsCostOf p 1 (known_as once no_size) 1 o

-- within one pivot the linear program for a point of the rows exceeds the limit. A cost of 5 has both sides all the
-- same, and is bounded. Of a cost of A - 1 the upper side has the bound A, and the lower side exceeds the limit: the
-- cost isn't bounded, though an upper bound of one step is found. Of a cost of C * C neither side has a form: whether
-- it is unbounded isn't known, and the limit is reported, by the question of the cost and not by that of the point
pub record LimitsOfCostsAreWorkedOut : Type 0 where
  pub both_sides : IsOutcome (program_above five) (BoundedBy (SideBoundCost by_five))
  pub not_of_five : (x : LimitHit) → ¬ (IsOutcome (program_above five) (NotBounded (SizeHitLimit x)))
  pub low_side : IsOutcome (program_above one_less) (NotBounded (SizeHitLimit (limit_hit_at 1 (asked.Cost 1))))
  pub not_up_alone : (by : CostBy) → ¬ (IsOutcome (program_above one_less) (BoundedBy by))
  pub neither_side : IsOutcome squared_free (NotBounded (SizeHitLimit (limit_hit_at 1 (asked.Cost 1))))
  pub not_of_rows : ¬ (IsOutcome squared_free (NotBounded (SizeHitLimit (limit_hit_at 1 (asked.Empty 1)))))
  pub not_unbounded : (side : Side) (ray : List ℤ) (kept : ScaledPoint)
      → ¬ (IsOutcome squared_free (NotBounded (SizeUnbounded side ray kept)))

-- all worked values of the outcomes of costs
pub record CostOutcomesAreWorkedOut : Type 0 where
  pub rows : RowsAreWorkedOut
  pub missing : MissingSizesAreWorkedOut
  pub limits : LimitsOfCostsAreWorkedOut
