use Rattle.its_reader.specs.Faults.{maybe_fault}
use Rattle.its_reader.specs.Faults.{maybe_kind}
use Rattle.its_reader.proofs.JudgeLaws.{judges}
use Rattle.its_reader.proofs.draft.Draft.judge.Goals as goal

pub returns : goal.returns
returns c = judges c.args.stand.state c.in_ok-part_ended.part_ended.state c.args.stand.last c.args.lookahead.at
    (maybe_fault c.args.stand.best) _ _ c.args.self.now _ _ _ (maybe_kind c.in_ok-part_ended.part_ended.refusal)
    c.in_ok-part_ended.ensures c.first_with-ended.ensures c.first_fault_ahead-best.ensures
