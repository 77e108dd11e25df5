use Rattle.std.proofs.Common.{ap, ◌∙◌}
use Rattle.text_core.specs.Reading.{first_among}
use Rattle.its_text.specs.Grammar.{programs}
use Rattle.its_reader.specs.Faults.{maybe_fault}
use Rattle.its_reader.specs.FaultTests.{step_faults}
use Rattle.its_reader.proofs.draft.RuleDraft.first_fault_going_on.Goals as goal

pub returns : goal.returns
returns c = c.first_fault_of_next.ensures ∙ ap
    (λ o. first_among programs (maybe_fault c.args.best)
    (step_faults c.args.self.now c.args.expression.now c.args.truth c.args.lookahead.at o)) c.inner_of.ensures
