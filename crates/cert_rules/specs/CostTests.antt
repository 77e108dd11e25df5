-- Tests of nodes on costs.
use Rattle.std.specs.Prelude.{ℕ, ◌&&◌, Bool, true, false, List, [], ◌∷◌, Option, Some, None, is_some}
use Rattle.run_counting.specs.model.Programs.{Program, Rule, rule_at}
use Rattle.run_counting.specs.model.Paths.{pre}
use Rattle.rule_forms.specs.linear_forms.Certificates.{minus_one}
use Rattle.cert_rules.specs.Nodes.{CostBy, EmptyCost, NeverCost, SideBoundCost, CostNode}
use Rattle.cert_rules.specs.Known.{known, is_zero_bound, Table}
use Rattle.cert_rules.specs.Setting.{Setting, costs_of}
use Rattle.cert_rules.specs.AcceptsSizes.{Up, left_of}
use Rattle.cert_rules.specs.AcceptsCosts.{cost_result_variable, side_bound_cost}
use Rattle.cert_rules.specs.Reasons.{Shape, NotEmpty, NotZero, SideBoundUp, for_each}
use Rattle.cert_rules.specs.Checks.{needed_at_cost}
use Rattle.cert_rules.specs.Tests.{Test, test}
use Rattle.cert_rules.specs.NumberTests.{are_multipliers, implies}
use Rattle.cert_rules.specs.RankTests.{test_time, test_size, test_small}
use Rattle.cert_rules.specs.SizeTests.{has_side_bound_shape, accepts_side_bound}

-- the rule exists, and has a cost
abbrev pub is_costly : Option Rule → Bool
is_costly None = false
is_costly (Some r) = is_some r.cost

-- the rule with this number has a cost
abbrev pub has_cost : Program → ℕ → Bool
has_cost p t = is_costly (rule_at p t)

-- whether there is a multiplier for each cost row, or the numbers of a side bound over them are right
abbrev pub has_cost_numbers : Setting → ℕ → CostBy → Bool
has_cost_numbers s t (EmptyCost multipliers) = are_multipliers (costs_of s) t multipliers
has_cost_numbers s t NeverCost = true
has_cost_numbers s t (SideBoundCost side_bound) = has_side_bound_shape (costs_of s) t (left_of s.program t) side_bound

-- the tests: that the cost rows add up to -1; that the rule has a time, and that it is 0; or that the side bound is
-- accepted, the rule has a time, each place that the side bound reads has a size after the rules that can come before,
-- and the composed bound is small
abbrev pub cost_tests_by : Setting → Table → ℕ → CostBy → List Test
cost_tests_by s table t (EmptyCost multipliers) =
    test NotEmpty (implies (s.cost_rows t) multipliers minus_one) ∷ []
cost_tests_by s table t NeverCost =
    test_time table t ∷ test NotZero (is_zero_bound (known (table.time t))) ∷ []
cost_tests_by s table t (SideBoundCost side_bound) =
    test (SideBoundUp t 0) (accepts_side_bound (costs_of s) (cost_result_variable t) Up side_bound) ∷
    test_time table t ∷
    for_each (test_size table) (needed_at_cost s t side_bound (pre s.program t))
    (test_small s (side_bound_cost s table t side_bound) ∷ [])

-- the shape, and then how the cost is shown
abbrev pub cost_tests : Setting → Table → CostNode → List Test
cost_tests s table node =
    test Shape (has_cost s.program node.rule && has_cost_numbers s node.rule node.by) ∷
    cost_tests_by s table node.rule node.by
