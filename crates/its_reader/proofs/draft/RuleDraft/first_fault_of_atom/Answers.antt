use Rattle.std.proofs.Common.{ap, ◌∙◌}
use Rattle.text_core.specs.Reading.{first_among}
use Rattle.its_text.specs.Grammar.{programs}
use Rattle.its_reader.specs.Faults.{maybe_fault}
use Rattle.its_reader.specs.FaultTests.{step_faults, truth_in}
use Rattle.its_reader.proofs.FaultTestLaws.{one_more}
use Rattle.its_reader.specs.Views.{maybe_of}
use Rattle.its_text.specs.Kinds.{Limit, LongName}
use Rattle.its_text.specs.StateFaults.{fault_if, long_name}
use Rattle.its_reader.specs.Tests.{inner_next}
use Rattle.expr_reader.specs.GuardParts.{piece_in}
use Rattle.its_reader.proofs.draft.RuleDraft.first_fault_of_atom.Goals as goal

pub returns : goal.returns
returns c = one_more (maybe_fault c.args.best) _ _
    (fault_if (long_name (maybe_of c.args.lookahead.next)) (Limit LongName) c.args.lookahead.at)
    (step_faults c.args.self.now c.args.self.now.guard.expression
    (truth_in c.args.self.now.guard (inner_next (maybe_of c.args.lookahead.next))
    (inner_next (maybe_of c.args.lookahead.behind))) c.args.lookahead.at
    (inner_next (maybe_of c.args.lookahead.next))) c.first_with_long_name-first.ensures
    (c.first_fault_going_on.ensures ∙ ap
    (λ v. first_among programs (maybe_fault c.first_with_long_name-first.result)
    (step_faults c.args.self.now c.args.self.now.guard.expression v c.args.lookahead.at
    (inner_next (maybe_of c.args.lookahead.next))))
    (c.begins_truth-truth.ensures
    ∙ (ap (λ o. truth_in c.args.self.now.guard o (piece_in c.inner_of-behind.result)) c.inner_of-next.ensures
    ∙ ap (λ o. truth_in c.args.self.now.guard (inner_next (maybe_of c.args.lookahead.next)) o)
    c.inner_of-behind.ensures)))
