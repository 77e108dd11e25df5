use Rattle.its_reader.proofs.CostLaws.{costing_promise}
use Rattle.its_reader.proofs.draft.Draft.within_cost.Goals as goal

pub returns : goal.returns
returns c = costing_promise _ c.args.self.now _ _ c.in_ok-reached.ensures.each
