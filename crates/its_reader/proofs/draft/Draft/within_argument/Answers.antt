use Rattle.its_reader.proofs.RightPromises.{arguing_promise}
use Rattle.its_reader.proofs.draft.Draft.within_argument.Goals as goal

pub returns : goal.returns
returns c = arguing_promise _ _ c.args.self.now _ _ c.in_ok-reached.ensures.each
