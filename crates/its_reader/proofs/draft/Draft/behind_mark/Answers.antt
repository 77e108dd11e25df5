use Rattle.std.proofs.Common.{sym, ◌∙◌}
use Rattle.its_reader.proofs.TailPromises.{marked_ends, marked_goes_on}
use Rattle.its_reader.proofs.draft.Draft.behind_mark.Goals as goal

pub returns-in_ok-ruled : goal.returns-in_ok-ruled
returns-in_ok-ruled c = marked_ends _ _ c.args.self.now _ _ (sym c.ends_mark.ensures ∙ c.if-ends_mark.true)
    c.in_ok-ruled.ensures

pub returns-in_ok-taken : goal.returns-in_ok-taken
returns-in_ok-taken c = marked_goes_on _ _ c.args.self.now _ _ (sym c.ends_mark.ensures ∙ c.if-ends_mark.false)
    c.in_ok-taken.ensures
