use Rattle.its_reader.specs.Faults.{maybe_fault}
use Rattle.its_reader.proofs.FaultTestLaws.{one_more}
use Rattle.its_reader.specs.Views.{maybe_of}
use Rattle.its_text.specs.Kinds.{Limit, LongName}
use Rattle.its_text.specs.StateFaults.{fault_if, long_name}
use Rattle.its_reader.specs.FaultTests.{rule_faults}
use Rattle.its_reader.proofs.draft.Draft.first_fault_of_named_rule.Goals as goal

pub returns : goal.returns
returns c = one_more (maybe_fault c.args.best) _ _
    (rule_faults c.args.self.now c.args.lookahead.at (maybe_of c.args.lookahead.next))
    (fault_if (long_name (maybe_of c.args.lookahead.next)) (Limit LongName) c.args.lookahead.at)
    c.first_fault_of_rule-first.ensures c.first_with_long_name.ensures
