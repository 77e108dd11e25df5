-- The answer on a cost, for each way in which it is certified.
use Rattle.std.specs.Prelude.{◌≡◌, ℕ, Result, MatchResult}
use Rattle.bound_expr.specs.Views.{bound_of}
use Rattle.bound_expr.specs.declared.bound.Bound as code
use Rattle.model.specs.Bounds.{Bound}
use Rattle.cert_types.specs.cert_rules.AcceptsCosts.{stated_cost}
use Rattle.cert_types.specs.cert_rules.Checks.{cost_checks_by}
use Rattle.cert_types.specs.cert_rules.Known.{Table}
use Rattle.cert_types.specs.cert_rules.Nodes.{CostBy}
use Rattle.cert_types.specs.cert_rules.Reasons.{AllPass}
use Rattle.cert_types.specs.cert_rules.Setting.{Setting}
use Rattle.cert_context.specs.CheckContexts.{IsCheckContext, program, setting}
use Rattle.cert_context.specs.NodeAnswers.{Refuses}
use Rattle.cert_context.specs.declared.refusal.NodeFault.{NodeFault}
use Rattle.cost_nodes.specs.CostRules.{IsPreparedCostRule}
use Rattle.check_sizes.specs.declared.cost_rows.CostRule.{CostRule}

-- the setting in which a cost is checked
abbrev pub cost_setting : CostRule → Setting
cost_setting c = setting c.context.now

-- the prepared rows are those of the cost rule of a rule of the program
pub record IsCostRule (c : CostRule) : Type 0 where
  pub context : IsCheckContext c.context.now
  pub rows : IsPreparedCostRule (program c.context.now) c.rule c.prepared.now

-- all checks of how a cost is shown pass, and this cost is stated
pub record ComposesCost (s : Setting) (table : Table) (t : ℕ) (by : CostBy) (b : Bound) : Type 0 where
  pub passed : AllPass (cost_checks_by s table t by)
  pub result_is : b ≡ stated_cost s table t by

-- the certified cost is stated, or the first check that fails is reported
abbrev pub AnswersCost : CostRule → Table → CostBy → Result code.Bound NodeFault → Type 0
AnswersCost c table by r =
    MatchResult r (λ b. ComposesCost (cost_setting c) table c.rule by (bound_of b))
    (λ f. Refuses (cost_checks_by (cost_setting c) table c.rule by) f)
