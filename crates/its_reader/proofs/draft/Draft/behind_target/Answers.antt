use Rattle.std.proofs.Common.{sym, ◌∙◌}
use Rattle.its_reader.proofs.TailPromises.{targeted_marks, targeted_squares, targeted_ends}
use Rattle.its_reader.proofs.draft.Draft.behind_target.Goals as goal

pub returns-then-is_guard_mark : goal.returns-then-is_guard_mark
returns-then-is_guard_mark c = targeted_marks _ _ c.args.self.now
    (sym c.is_guard_mark.ensures ∙ c.if-is_guard_mark.true)

pub returns-then-is_square_open : goal.returns-then-is_square_open
returns-then-is_square_open c = targeted_squares _ _ c.args.self.now
    (sym c.is_square_open.ensures ∙ c.if-is_square_open.true)

pub returns : goal.returns
returns c = targeted_ends _ _ c.args.self.now _ _ (sym c.is_guard_mark.ensures ∙ c.if-is_guard_mark.false)
    (sym c.is_square_open.ensures ∙ c.if-is_square_open.false) c.in_ok-reached.ensures
