-- The prepared rows of the cost rules of a program's rules.
use Rattle.std.specs.Prelude.{◌≡◌, ℕ, ◌+◌, ◌<◌, List, length, Option, None, MatchOption, slice_index_or}
use Rattle.guard_prep.specs.declared.rule_rows.RuleRows.{RuleRows}
use Rattle.model.specs.Costs.{HasCost}
use Rattle.model.specs.Programs.{Program}
use Rattle.cost_nodes.specs.CostRules.{IsPreparedCostRule}

-- the answer has the prepared rows of the cost rule of rule t, if the rule has a cost, and else none
abbrev pub StatesCost : Program → ℕ → Option RuleRows → Type 0
StatesCost p t o = MatchOption o (¬ (HasCost p t)) (λ m. IsPreparedCostRule p t m)

-- the list has this answer for each rule of the program, in order
pub record ArePreparedCostRules (p : Program) (prepared_rules : List (Option RuleRows)) : Type 0 where
  pub long : length prepared_rules ≡ length p.rules
  pub each : (i : ℕ) → i < length prepared_rules → StatesCost p (i + 1) (slice_index_or prepared_rules i None)
