use Rattle.std.proofs.Common.{sym, ◌∙◌}
use Rattle.its_reader.proofs.CostEnds.{cost_is_over, cost_is_on}
use Rattle.its_reader.proofs.draft.RuleDraft.end_part_in_cost.Goals as goal

pub returns-in_ok-refusal : goal.returns-in_ok-refusal
returns-in_ok-refusal c = cost_is_over (sym c.cost_ends.ensures ∙ c.if-cost_ends.true) c.inner_of.ensures
    c.in_ok-refusal.ensures

pub returns-else-cost_ends : goal.returns-else-cost_ends
returns-else-cost_ends c = cost_is_on (sym c.cost_ends.ensures ∙ c.if-cost_ends.false) c.inner_of.ensures
