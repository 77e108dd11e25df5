use Rattle.std.proofs.Common.{sym, ◌∙◌}
use Rattle.its_reader.proofs.TailPromises.{square_closed, square_open}
use Rattle.its_reader.proofs.draft.Draft.behind_squared.Goals as goal

pub returns-in_ok-end_rule : goal.returns-in_ok-end_rule
returns-in_ok-end_rule c = square_closed (sym c.is_square_close.ensures ∙ c.if-is_square_close.true)
    c.in_ok-end_rule.ensures

pub returns-else-is_square_close : goal.returns-else-is_square_close
returns-else-is_square_close c = square_open (sym c.is_square_close.ensures ∙ c.if-is_square_close.false)
