-- Which outcome a cost has: by its rows, of several missing sizes, and where a limit is exceeded.
use Rattle.std.proofs.Common.{◌≡◌, inl, inr, ℕ, List, [], ◌∷◌, refl, sym, ◌∙◌, ap, subst, arith}
use Rattle.std.specs.Prelude.{ℤ, pos, negsuc}
use Rattle.cert_types.specs.cert_program.bound_table.Below.{below}
use Rattle.cert_types.specs.cert_program.bound_table.InForce.{rewritten}
use Rattle.cert_types.specs.cert_program.bound_table.Rewriting.{simplified, passes_until_same, at_node, parts_passed}
use Rattle.model.specs.Costs.{HasCost, cost_rule}
use Rattle.model.specs.Programs.{Rule}
use Rattle.model.specs.Terms.{Term, Variable, Multiplication}
use Rattle.its_model.specs.linear_forms.Causes.{budget}
use Rattle.its_model.specs.linear_forms.Forms.{at}
use Rattle.its_model.specs.linear_forms.Questions.{listed, program_of_question}
use Rattle.guard_prep.specs.Prepared.{prepared}
use Rattle.guard_prep.specs.Tightening.{divisor_of}
use Rattle.simplex_core.specs.Tableau.{first_tableau, equation, cost, pivot}
use Rattle.simplex_core.specs.HitsLimit.{IsScaledDual, IsScaledSolution, HitsLimit}
use Rattle.cert_types.specs.cert_rules.AcceptsSizes.{Side, Up, Low}
use Rattle.cert_types.specs.cert_rules.Gaps.{ScaledPoint}
use Rattle.cert_types.specs.cert_rules.Nodes.{ResultVariable, SideBound, Linear, LocalBound}
use Rattle.cert_types.specs.cert_rules.Nodes.{CostBy, EmptyCost, NeverCost, SideBoundCost}
use Rattle.cert_types.specs.declared.answer.GuardFeasibility.TheVariants as feasible
use Rattle.cert_types.specs.declared.answer.LimitHit.{LimitHit}
use Rattle.cert_types.specs.declared.answer.Question.TheVariants as asked
use Rattle.cert_types.specs.rule_forms.Kinds.{Kind, Number, Argument, Affine, Plus}
use Rattle.rank_search.specs.rule_questions.EmptyAnswers.{empty_program}
use Rattle.local_size.specs.LocalAnswers.{Local, HasBound, HasHitLimit, HasSideBounds, SideHasResult}
use Rattle.local_size.specs.Places.{local_forms, value_on}
use Rattle.local_size.specs.Sides.{SideBoundFound, NoneFound, HasResult, solved_side_bound}
use Rattle.outcome.specs.Reports.{SizeUnbounded, SizeHitLimit, SizeMissing, SizeLarge}
use Rattle.bound_fixpoint.specs.Keys.{key}
use Rattle.cost_bounds.specs.CostOutcomes.{BoundedBy, NotBounded, FeasibleTo, StepTo}
use Rattle.cost_bounds.specs.WorkedCosts.{by_A, known_as, no_size, once, up_to}
use Rattle.cost_bounds.proofs.OneCost.{costs-one}
use Rattle.worked_reasons.specs.CostOutcomes.{entering_once, AtMostA, Exceeds, by_five}
use Rattle.worked_reasons.specs.CostOutcomes.{rule_above, program_above, one_less, five, squaring_free, squared_free}
use Rattle.worked_reasons.specs.CostOutcomes.{IsOutcome, RowsAreWorkedOut, MissingSizesAreWorkedOut}
use Rattle.worked_reasons.specs.CostOutcomes.{LimitsOfCostsAreWorkedOut, CostOutcomesAreWorkedOut}
use Rattle.worked_reasons.specs.Programs.{limit_hit_at}
use Rattle.worked_reasons.proofs.DoubleRuns.{asked_of}
use Rattle.worked_reasons.proofs.Runs.{budget_run}
use Rattle.worked_reasons.proofs.SmallRuns.{small_budget_run}
use Rattle.worked_reasons.proofs.WholeEnds.{dual_run, solution_run}

-- entering, with a bound of A on one step, costs A
at_most_A : StepTo entering_once (up_to by_A) (BoundedBy (SideBoundCost by_A))
unfolding rewritten simplified passes_until_same at_node parts_passed below
at_most_A = inl (record { before = refl; after = refl }, refl)

-- different outcomes aren't equal
never_is_not_empty : {multipliers : List ℕ} → BoundedBy NeverCost ≡ BoundedBy (EmptyCost multipliers) → ⊥
never_is_not_empty e = cc

limit_is_not_never : {x : LimitHit} → NotBounded (SizeHitLimit x) ≡ BoundedBy NeverCost → ⊥
limit_is_not_never e = cc

empty_is_not_composed : {multipliers : List ℕ} → BoundedBy (EmptyCost multipliers) ≡ BoundedBy (SideBoundCost by_A) → ⊥
empty_is_not_composed e = cc

empty_is_not_large : {multipliers : List ℕ} {n : ℕ} → BoundedBy (EmptyCost multipliers) ≡ NotBounded (SizeLarge n) → ⊥
empty_is_not_large e = cc

not_empty : (x : LimitHit) (multipliers : List ℕ)
    → FeasibleTo entering_once AtMostA (feasible.OutOfLimits x) (BoundedBy (EmptyCost multipliers)) → ⊥
not_empty x multipliers (step, same, k) =
    composed (subst (λ (s : Local). StepTo entering_once s (BoundedBy (EmptyCost multipliers))) same k)
  where
    composed : StepTo entering_once (up_to by_A) (BoundedBy (EmptyCost multipliers)) → ⊥
    composed (inl h) = empty_is_not_composed h.1
    composed (inr h) = empty_is_not_large h.1

-- equal outcomes with a limit have the same question
limits_same : {x y : LimitHit} → NotBounded (SizeHitLimit x) ≡ NotBounded (SizeHitLimit y) → x ≡ y
limits_same e = cc

not_of_point : (x : LimitHit) → x.question ≡ asked.Empty 1
    → FeasibleTo entering_once (Exceeds x) (feasible.OutOfLimits x) (NotBounded (SizeHitLimit x)) → ⊥
not_of_point x question (step, same, k) =
    let is = limits_same (subst (λ (s : Local). StepTo entering_once s (NotBounded (SizeHitLimit x))) same k) in
    differ (sym question ∙ ap (λ (y : LimitHit). y.question) is)
  where
    differ : asked.Empty 1 ≡ asked.Cost 1 → ⊥
    differ e = cc

rows : RowsAreWorkedOut
rows = record {
  empty = λ node. refl;
  not_never = λ node e. never_is_not_empty e;
  never_with_point = λ z. refl;
  never_past_limit = λ x. refl;
  not_limit = λ x e. limit_is_not_never e;
  bounded_past_limit = λ x. (up_to by_A, refl, at_most_A);
  not_empty = not_empty;
  limit_of_point = λ x. (HasHitLimit x, refl, refl);
  not_of_point = not_of_point;
}

-- equal outcomes with a missing size have the same place
missing_same : {m n : ResultVariable} → NotBounded (SizeMissing m) ≡ NotBounded (SizeMissing n) → m ≡ n
missing_same e = cc

not_second_rule : NotBounded (SizeMissing (key 2 1)) ≡ NotBounded (SizeMissing (key 1 2)) → ⊥
not_second_rule e =
    let same : 2 ≡ 1 = ap (λ (m : ResultVariable). m.rule) (missing_same e) in
    absurd (omega (arith, same))

not_its_first : NotBounded (SizeMissing (key 2 1)) ≡ NotBounded (SizeMissing (key 2 2)) → ⊥
not_its_first e =
    let same : 1 ≡ 2 = ap (λ (m : ResultVariable). m.place) (missing_same e) in
    absurd (omega (arith, same))

missing : MissingSizesAreWorkedOut
unfolding rewritten simplified passes_until_same at_node parts_passed below
missing = record {
  all = refl;
  second_place = refl;
  not_second_rule = λ e. not_second_rule e;
  second_rule = refl;
  last = refl;
  not_its_first = λ e. not_its_first e;
  none = inl (record { before = refl; after = refl }, refl);
}

-- a dual shows that there is no form of the kind within one pivot, and a solution gives one
none_by : (r : Rule) (side : Side) (kind : Kind) (zs : List ℤ) → IsScaledDual (asked_of r side kind) 1 zs 1
    → HasResult (local_forms (prepared r)) (value_on side (prepared r) 1) 1 kind
    (NoneFound (listed (local_forms (prepared r)).unknowns (at zs)))
none_by r side kind zs dual = (zs, (1, dual, refl))

abbrev solved_by : Rule → Side → Kind → List ℤ → SideBound
solved_by r side kind zs = solved_side_bound (local_forms (prepared r)) (value_on side (prepared r) 1) kind zs 1

side_bound_by : (r : Rule) (side : Side) (kind : Kind) (zs : List ℤ) → IsScaledSolution (asked_of r side kind) 1 zs 1
    → HasResult (local_forms (prepared r)) (value_on side (prepared r) 1) 1 kind
    (SideBoundFound (solved_by r side kind zs))
side_bound_by r side kind zs solution = (zs, (1, solution, refl))

-- the cost rule of a rule with this cost, where A is at least 1, 2 and 3
abbrev costing : Term → Rule
costing c = cost_rule (rule_above c) c

abbrev above_costs : (c : Term) → HasCost (program_above c) 1
above_costs c = record { rule = rule_above c; numbered = refl; cost = c; written = refl }

-- a point of the rows takes more than one pivot, the first of which gives fractions, with a cost of 5
five_point : HitsLimit (empty_program (prepared (costing five))) 1 (budget 1)
unfolding program_of_question first_tableau equation cost pivot divisor_of
five_point = small_budget_run (pos 1 ∷ []) (empty_program (prepared (costing five))) 1 refl refl

abbrev five_up : List ℤ
five_up = pos 5 ∷ pos 0 ∷ pos 0 ∷ pos 0 ∷ pos 0 ∷ pos 0 ∷ []

abbrev five_low : List ℤ
five_low = pos 0 ∷ pos 5 ∷ pos 0 ∷ pos 0 ∷ pos 0 ∷ pos 0 ∷ []

five_up_number : IsScaledSolution (asked_of (costing five) Up Number) 1 five_up 1
unfolding program_of_question first_tableau equation cost pivot divisor_of
five_up_number = solution_run (asked_of (costing five) Up Number) 1 1 five_up (6 ∷ 0 ∷ []) refl

five_low_number : IsScaledSolution (asked_of (costing five) Low Number) 1 five_low 1
unfolding program_of_question first_tableau equation cost pivot divisor_of
five_low_number = solution_run (asked_of (costing five) Low Number) 1 1 five_low (6 ∷ 1 ∷ []) refl

-- 5 bounds the cost, and -5 its negation
abbrev five_bounds : LocalBound
five_bounds = record {
  up = by_five;
  low = Linear 1 (record { coefs = pos 0 ∷ []; constant = negsuc 4 }) (0 ∷ 0 ∷ 0 ∷ []);
}

five_sides : HasSideBounds (prepared (costing five)) 1 1 five_bounds
unfolding divisor_of
five_sides = record {
  asked = refl;
  up = inl (tt, side_bound_by (costing five) Up Number five_up five_up_number);
  low = inl (tt, side_bound_by (costing five) Low Number five_low five_low_number);
}

both_sides : IsOutcome (program_above five) (BoundedBy (SideBoundCost by_five))
unfolding rewritten simplified passes_until_same at_node parts_passed below divisor_of
both_sides = record {
  costs = above_costs five;
  feasibility = feasible.OutOfLimits (limit_hit_at 1 (asked.Empty 1));
  answered = (refl, five_point);
  first = (HasBound five_bounds, inr five_sides, inl (record { before = refl; after = refl }, refl));
}

-- a point of the rows with a cost of A - 1 takes more than one pivot, too
less_point : HitsLimit (empty_program (prepared (costing one_less))) 1 (budget 1)
unfolding program_of_question first_tableau equation cost pivot divisor_of
less_point = small_budget_run (pos 1 ∷ []) (empty_program (prepared (costing one_less))) 1 refl refl

-- no number bounds the cost, but A does
abbrev less_dual : List ℤ
less_dual = pos 1 ∷ pos 0 ∷ []

abbrev less_numbers : List ℤ
less_numbers = pos 0 ∷ pos 0 ∷ pos 0 ∷ pos 0 ∷ pos 1 ∷ []

less_number : IsScaledDual (asked_of (costing one_less) Up Number) 1 less_dual 1
unfolding program_of_question first_tableau equation cost pivot divisor_of
less_number = dual_run (asked_of (costing one_less) Up Number) 1 1 less_dual refl

less_argument : IsScaledSolution (asked_of (costing one_less) Up (Argument 1 Plus)) 1 less_numbers 1
unfolding program_of_question first_tableau equation cost pivot divisor_of
less_argument = solution_run (asked_of (costing one_less) Up (Argument 1 Plus)) 1 1 less_numbers (5 ∷ 4 ∷ []) refl

less_up : SideHasResult (prepared (costing one_less)) 1 1 Up
    (SideBoundFound (solved_by (costing one_less) Up (Argument 1 Plus) less_numbers))
less_up = inr (
  (
    listed (local_forms (prepared (costing one_less))).unknowns (at less_dual),
    none_by (costing one_less) Up Number less_dual less_number,
  ),
  inl (tt, side_bound_by (costing one_less) Up (Argument 1 Plus) less_numbers less_argument),
)

-- a number that bounds the negation of the cost takes more than one pivot
less_low : HitsLimit (asked_of (costing one_less) Low Number) 1 (budget 1)
unfolding program_of_question first_tableau equation cost pivot divisor_of
less_low = budget_run (asked_of (costing one_less) Low Number) 1 refl refl

low_side : IsOutcome (program_above one_less) (NotBounded (SizeHitLimit (limit_hit_at 1 (asked.Cost 1))))
unfolding divisor_of
low_side = record {
  costs = above_costs one_less;
  feasibility = feasible.OutOfLimits (limit_hit_at 1 (asked.Empty 1));
  answered = (refl, less_point);
  first = (
    HasHitLimit (limit_hit_at 1 (asked.Local 1 1)),
    inl (record {
      asked = refl;
      question = refl;
      first = inr (
        inl (solved_by (costing one_less) Up (Argument 1 Plus) less_numbers, less_up),
        inl (tt, less_low),
      );
    }),
    refl,
  );
}

-- the cost rule with a cost of C * C
abbrev squared_rule : Rule
squared_rule = cost_rule squaring_free (Multiplication (Variable 0) (Variable 0))

abbrev squared_costs : HasCost squared_free 1
squared_costs = record {
  rule = squaring_free;
  numbered = refl;
  cost = Multiplication (Variable 0) (Variable 0);
  written = refl;
}

squared_point : HitsLimit (empty_program (prepared squared_rule)) 1 (budget 1)
unfolding program_of_question first_tableau equation cost pivot divisor_of
squared_point = small_budget_run (pos 1 ∷ []) (empty_program (prepared squared_rule)) 1 refl refl

-- no form bounds this cost on a side
abbrev up_dual : List ℤ
up_dual = pos 1 ∷ pos 1 ∷ pos 1 ∷ pos 0 ∷ []

abbrev low_dual : List ℤ
low_dual = pos 1 ∷ pos 1 ∷ negsuc 0 ∷ pos 0 ∷ []

squared_up : IsScaledDual (asked_of squared_rule Up Affine) 1 up_dual 1
unfolding program_of_question first_tableau equation cost pivot divisor_of
squared_up = dual_run (asked_of squared_rule Up Affine) 1 1 up_dual refl

squared_low : IsScaledDual (asked_of squared_rule Low Affine) 1 low_dual 1
unfolding program_of_question first_tableau equation cost pivot divisor_of
squared_low = dual_run (asked_of squared_rule Low Affine) 1 1 low_dual refl

abbrev ray_by : List ℤ → List ℤ
ray_by zs = listed (local_forms (prepared squared_rule)).unknowns (at zs)

no_up : SideHasResult (prepared squared_rule) 1 1 Up (NoneFound (ray_by up_dual))
no_up = none_by squared_rule Up Affine up_dual squared_up

no_low : SideHasResult (prepared squared_rule) 1 1 Low (NoneFound (ray_by low_dual))
no_low = none_by squared_rule Low Affine low_dual squared_low

neither_side : IsOutcome squared_free (NotBounded (SizeHitLimit (limit_hit_at 1 (asked.Cost 1))))
unfolding divisor_of
neither_side = record {
  costs = squared_costs;
  feasibility = feasible.OutOfLimits (limit_hit_at 1 (asked.Empty 1));
  answered = (refl, squared_point);
  first = (
    HasHitLimit (limit_hit_at 1 (asked.Empty 1)),
    inr (record {
      asked = refl;
      lacks = (Up, (ray_by up_dual, (no_up, inr (ray_by low_dual, no_low))));
      limit_hit = refl;
    }),
    refl,
  );
}

-- a cost of 5 has no limit hit as its outcome
not_of_five : (x : LimitHit) → IsOutcome (program_above five) (NotBounded (SizeHitLimit x)) → ⊥
not_of_five x h =
    let e = costs-one.each (program_above five) 1 (known_as once no_size) 1 (BoundedBy (SideBoundCost by_five))
    (NotBounded (SizeHitLimit x)) both_sides h in
    (let none : ⊥ = cc in none)

not_up_alone : (by : CostBy) → IsOutcome (program_above one_less) (BoundedBy by) → ⊥
not_up_alone by h =
    let e = costs-one.each (program_above one_less) 1 (known_as once no_size) 1
    (NotBounded (SizeHitLimit (limit_hit_at 1 (asked.Cost 1)))) (BoundedBy by) low_side h in
    (let none : ⊥ = cc in none)

not_of_rows : IsOutcome squared_free (NotBounded (SizeHitLimit (limit_hit_at 1 (asked.Empty 1)))) → ⊥
not_of_rows h =
    let e = limits_same (costs-one.each squared_free 1 (known_as once no_size) 1
    (NotBounded (SizeHitLimit (limit_hit_at 1 (asked.Cost 1)))) (NotBounded (SizeHitLimit (limit_hit_at 1 (asked.Empty 1))))
    neither_side h) in
    differ (ap (λ (y : LimitHit). y.question) e)
  where
    differ : asked.Cost 1 ≡ asked.Empty 1 → ⊥
    differ e = cc

not_unbounded : (side : Side) (ray : List ℤ) (kept : ScaledPoint)
    → IsOutcome squared_free (NotBounded (SizeUnbounded side ray kept)) → ⊥
not_unbounded side ray kept h =
    let e = costs-one.each squared_free 1 (known_as once no_size) 1
    (NotBounded (SizeHitLimit (limit_hit_at 1 (asked.Cost 1)))) (NotBounded (SizeUnbounded side ray kept)) neither_side h in
    (let none : ⊥ = cc in none)

limits : LimitsOfCostsAreWorkedOut
limits = record {
  both_sides = both_sides;
  not_of_five = not_of_five;
  low_side = low_side;
  not_up_alone = not_up_alone;
  neither_side = neither_side;
  not_of_rows = λ h. not_of_rows h;
  not_unbounded = not_unbounded;
}

pub cost_outcomes_worked : CostOutcomesAreWorkedOut
cost_outcomes_worked = record { rows = rows; missing = missing; limits = limits }
