-- The tests of nodes on costs decide acceptance.
use Rattle.std.proofs.Common.{◌≡◌, ℕ, ◌&&◌, Option, Some, None, is_some, refl, sym, ap, ◌∙◌}
use Rattle.std.specs.Bool.{Decides}
use Rattle.std.proofs.lemmas.Bool.Decides.{Decides-and, Decides-like}
use Rattle.run_counting.specs.model.Terms.{Term}
use Rattle.run_counting.specs.model.Programs.{Program, Rule, rule_at}
use Rattle.run_counting.specs.model.Paths.{pre}
use Rattle.run_counting.specs.model.Costs.{HasCost}
use Rattle.rule_forms.specs.linear_forms.Certificates.{minus_one}
use Rattle.cert_rules.specs.Nodes.{CostBy, EmptyCost, NeverCost, SideBoundCost, CostNode}
use Rattle.cert_rules.specs.Known.{Table}
use Rattle.cert_rules.specs.Setting.{Setting, costs_of}
use Rattle.cert_rules.specs.AcceptsSizes.{Up, left_of}
use Rattle.cert_rules.specs.AcceptsCosts.{HasCostNumbers, HasCostShape, cost_result_variable, side_bound_cost}
use Rattle.cert_rules.specs.Checks.{needed_at_cost, cost_checks_by, cost_checks}
use Rattle.cert_rules.specs.CostTests.{is_costly, has_cost, has_cost_numbers, cost_tests_by, cost_tests}
use Rattle.cert_rules.proofs.TestLists.{AllDecide}
use Rattle.cert_rules.proofs.NumberTests.{decides-yes, decides-no, decides-multipliers, decides-implies}
use Rattle.cert_rules.proofs.RankTests.{decides-known, small-last, sizes-decide}
use Rattle.cert_rules.proofs.SizeTests.{decides-side_bound_shape, decides-side_bound}

-- the test whether a rule has a cost is right
decides-cost : (p : Program) (t : ℕ) → Decides (has_cost p t) (HasCost p t)
decides-cost p t = go (rule_at p t) refl
  where
    go : (o : Option Rule) → rule_at p t ≡ o → Decides (is_costly o) (HasCost p t)
    go None e = decides-no (λ h. no h.rule (sym e ∙ h.numbered))
      where
        no : (r : Rule) → None ≡ Some r → ⊥
        no r k = cc
    go (Some r) e = by r.cost refl
      where
        same : (q : Rule) → Some r ≡ Some q → r ≡ q
        same q k = cc

        no : (c : Term) → None ≡ Some c → ⊥
        no c k = cc

        by : (o : Option Term) → r.cost ≡ o → Decides (is_some o) (HasCost p t)
        by (Some c) f = decides-yes (record { rule = r; numbered = e; cost = c; written = f })
        by None f = decides-no (λ h. no h.cost
            (sym f ∙ ap (λ (q : Rule). q.cost) (same h.rule (sym e ∙ h.numbered)) ∙ h.written))

-- the test whether the numbers by which a cost is shown have the right shape is right
decides-cost_numbers : (s : Setting) (t : ℕ) (by : CostBy) → Decides (has_cost_numbers s t by) (HasCostNumbers s t by)
decides-cost_numbers s t (EmptyCost ms) = decides-multipliers (costs_of s) t ms
decides-cost_numbers s t NeverCost = decides-yes tt
decides-cost_numbers s t (SideBoundCost side_bound) = decides-side_bound_shape (costs_of s) t (left_of s.program t) side_bound

decides-cost_shape : (s : Setting) (node : CostNode)
    → Decides (has_cost s.program node.rule && has_cost_numbers s node.rule node.by) (HasCostShape s node)
decides-cost_shape s node =
    Decides-like (has_cost s.program node.rule && has_cost_numbers s node.rule node.by)
    (λ h. record { cost = h.0; numbers = h.1 }) (λ h. (h.cost, h.numbers))
    (Decides-and _ _ (decides-cost s.program node.rule) (decides-cost_numbers s node.rule node.by))

-- the tests of how a cost is shown decide its checks
by-decides : (s : Setting) (table : Table) (t : ℕ) (by : CostBy)
    → AllDecide (cost_checks_by s table t by) (cost_tests_by s table t by)
by-decides s table t (EmptyCost ms) = (refl, (decides-implies (s.cost_rows t) ms minus_one, tt))
by-decides s table t NeverCost = (refl, (decides-known (table.time t), (refl, (((λ e. e), (λ e. e)), tt))))
by-decides s table t (SideBoundCost side_bound) = (
  refl,
  (
    decides-side_bound (costs_of s) (cost_result_variable t) Up side_bound,
    (
      refl,
      (
        decides-known (table.time t),
        sizes-decide s table (needed_at_cost s t side_bound (pre s.program t)) _ _
            (small-last s table (side_bound_cost s table t side_bound)),
      ),
    ),
  ),
)

-- the tests of a node on a cost decide its checks
pub cost-decides : (s : Setting) (table : Table) (node : CostNode) → AllDecide (cost_checks s table node) (cost_tests s table node)
cost-decides s table node = (refl, (decides-cost_shape s node, by-decides s table node.rule node.by))
