use Rattle.std.proofs.Common.{sym, ◌∙◌}
use Rattle.its_reader.proofs.RightPromises.{argued_closes, argued_promise}
use Rattle.its_reader.proofs.draft.Draft.behind_argument.Goals as goal

pub returns-in_ok-close_target : goal.returns-in_ok-close_target
returns-in_ok-close_target c = argued_closes c.args.wrap _ c.args.self.now _ c.behind_right.result
    c.behind_right.ensures (sym c.is_close_bracket.ensures ∙ c.if-is_close_bracket.true) c.in_ok-close_target.ensures

pub returns-else-is_close_bracket : goal.returns-else-is_close_bracket
returns-else-is_close_bracket c = argued_promise _ _ c.args.self.now _ c.is_comma.result
    (sym c.is_close_bracket.ensures ∙ c.if-is_close_bracket.false) c.is_comma.ensures c.leads_if.ensures
