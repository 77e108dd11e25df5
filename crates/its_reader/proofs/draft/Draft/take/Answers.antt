use Rattle.its_reader.specs.Views.{token_of}
use Rattle.its_reader.proofs.TurnLaws.{turns, turned_alike}
use Rattle.its_reader.proofs.draft.Draft.take.Goals as goal

pub returns : goal.returns
returns c = turned_alike c.turned_by.ensures
    (turns _ _ _ _ _ _ _ _ (token_of c.args.token) _ _ c.in_ok-judged.ensures c.in_ok-reached.ensures)
