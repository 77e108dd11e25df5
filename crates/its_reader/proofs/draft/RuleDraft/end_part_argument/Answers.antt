use Rattle.std.proofs.Common.{sym, ◌∙◌}
use Rattle.its_reader.proofs.PartEndLaws.{argument_over, argument_on}
use Rattle.its_reader.proofs.draft.RuleDraft.end_part_argument.Goals as goal

pub returns-in_ok-refusal : goal.returns-in_ok-refusal
returns-in_ok-refusal c = argument_over (sym c.expression_ends.ensures ∙ c.if-expression_ends.true)
    c.in_ok-refusal.ensures

pub returns-else-expression_ends : goal.returns-else-expression_ends
returns-else-expression_ends c = argument_on (sym c.expression_ends.ensures ∙ c.if-expression_ends.false)
