use Rattle.std.proofs.Common.{sym, ◌∙◌}
use Rattle.size_bounds.proofs.StoredBounds.{entry_read, entry_past}
use Rattle.size_bounds.proofs.table.stored_at.Goals as goal

pub returns-then-position-bounds : goal.returns-then-position-bounds
returns-then-position-bounds c = sym (entry_past c.args.bounds.now c.args.position c.if-position-bounds.true)

pub returns-in-Some : goal.returns-in-Some
returns-in-Some c =
    sym (entry_read c.args.bounds.now c.args.position c.index-bounds-position.result c.if-position-bounds.false c.index-bounds-position.is ∙ c.in-Some.is)

pub returns-in-None : goal.returns-in-None
returns-in-None c =
    sym (entry_read c.args.bounds.now c.args.position c.index-bounds-position.result c.if-position-bounds.false c.index-bounds-position.is ∙ c.in-None.is)
