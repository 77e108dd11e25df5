use Rattle.std.proofs.Common.{sym, ◌∙◌}
use Rattle.its_reader.proofs.TailPromises.{square_closes, square_goes_on}
use Rattle.its_reader.proofs.draft.Draft.behind_square.Goals as goal

pub returns-in_ok-end_rule : goal.returns-in_ok-end_rule
returns-in_ok-end_rule c = square_closes _ _ c.args.self.now _
    (sym c.is_square_close.ensures ∙ c.if-is_square_close.true) c.in_ok-end_rule.ensures

pub returns-in_ok-taken : goal.returns-in_ok-taken
returns-in_ok-taken c = square_goes_on _ _ c.args.self.now _ _
    (sym c.is_square_close.ensures ∙ c.if-is_square_close.false) c.in_ok-taken.ensures
