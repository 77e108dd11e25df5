use Rattle.its_reader.proofs.RightPromises.{within_promise}
use Rattle.its_reader.proofs.draft.Draft.behind_com.Goals as goal

pub returns : goal.returns
returns c = within_promise _ c.args.self.now _ _ c.name_target.ensures.each
