use Rattle.its_reader.proofs.LeftLaws.{parted_promise}
use Rattle.its_reader.proofs.draft.Draft.behind_left_comma.Goals as goal

pub returns : goal.returns
returns c = parted_promise _ c.args.self.now _ _ c.in_ok-reached.ensures.each
