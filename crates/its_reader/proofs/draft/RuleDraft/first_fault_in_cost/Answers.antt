use Rattle.std.proofs.Common.{ap, ◌∙◌}
use Rattle.text_core.specs.Reading.{first_among}
use Rattle.its_text.specs.Grammar.{programs}
use Rattle.its_text.specs.Kinds.{Limit, LongName}
use Rattle.its_text.specs.StateFaults.{fault_if, long_name}
use Rattle.its_reader.specs.Views.{maybe_of}
use Rattle.its_reader.specs.Faults.{maybe_fault}
use Rattle.its_reader.specs.FaultTests.{going_if, is_costing}
use Rattle.its_reader.proofs.FaultTestLaws.{one_more}
use Rattle.its_reader.proofs.draft.RuleDraft.first_fault_in_cost.Goals as goal

pub returns : goal.returns
returns c = one_more (maybe_fault c.args.best) _ _
    (fault_if (long_name (maybe_of c.args.lookahead.next)) (Limit LongName) c.args.lookahead.at)
    (going_if (is_costing c.args.state) c.args.self.now c.args.lookahead.at (maybe_of c.args.lookahead.next))
    c.first_with_long_name-named.ensures
    (c.first_fault_if_going.ensures ∙ ap
    (λ v. first_among programs (maybe_fault c.first_with_long_name-named.result)
    (going_if v c.args.self.now c.args.lookahead.at (maybe_of c.args.lookahead.next))) c.is_costing.ensures)
