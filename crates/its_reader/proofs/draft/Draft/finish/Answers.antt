use Rattle.std.proofs.Common.{ap}
use Rattle.its_reader.specs.Standing.{started_of}
use Rattle.its_reader.proofs.FinishLaws.{finishes_made, finishes_ruleless, finishes_unstarted}
use Rattle.its_reader.proofs.draft.Draft.finish.Goals as goal

pub returns-then-self : goal.returns-then-self
returns-then-self c = finishes_made c.args.self c.args.len c.in-Some.start.name.now c.in-Some.start.at
    c.into_program.result (ap started_of c.in-Some.is) c.if-self.true c.into_program.ensures

pub returns-else-self : goal.returns-else-self
returns-else-self c = finishes_ruleless c.args.self c.args.len c.missing.result c.if-self.false c.missing.ensures

pub returns-in-None : goal.returns-in-None
returns-in-None c = finishes_unstarted c.args.self c.args.len c.missing-in-None.result (ap started_of c.in-None.is)
    c.missing-in-None.ensures
