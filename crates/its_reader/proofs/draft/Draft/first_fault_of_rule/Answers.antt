use Rattle.std.proofs.Common.{ap, ◌∙◌}
use Rattle.text_core.specs.Reading.{first_among}
use Rattle.its_text.specs.Grammar.{programs}
use Rattle.its_reader.specs.Faults.{maybe_fault}
use Rattle.its_text.specs.Kinds.{Limit, TooManyRules}
use Rattle.its_text.specs.StateFaults.{fault_if}
use Rattle.its_reader.proofs.draft.Draft.first_fault_of_rule.Goals as goal

pub returns : goal.returns
returns c = c.first_where.ensures ∙ ap
    (λ v. first_among programs (maybe_fault c.args.best) (fault_if v (Limit TooManyRules) c.args.lookahead.at))
    c.exceeds_rule_limit-full.ensures
