use Rattle.std.proofs.Common.{sym, ◌∙◌}
use Rattle.its_reader.proofs.RightPromises.{opened_right_closes, opened_right_promise}
use Rattle.its_reader.proofs.draft.Draft.behind_right_bracket.Goals as goal

pub returns-in_ok-close_target : goal.returns-in_ok-close_target
returns-in_ok-close_target c = opened_right_closes c.args.wrap _ c.args.self.now _ c.behind_right.result
    c.behind_right.ensures (sym c.is_close_bracket.ensures ∙ c.if-is_close_bracket.true) c.in_ok-close_target.ensures

pub returns-in_ok-reached : goal.returns-in_ok-reached
returns-in_ok-reached c = opened_right_promise _ _ c.args.self.now _ _
    (sym c.is_close_bracket.ensures ∙ c.if-is_close_bracket.false) c.in_ok-reached.ensures.each
