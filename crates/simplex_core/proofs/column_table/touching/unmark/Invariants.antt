use Rattle.simplex_core.specs.ColumnListing.{Unmarks}
use Rattle.simplex_core.proofs.column_table.touching.unmark.Given as goal

-- the marks of the columns before this one are removed
abbrev pub invariant-loop-place : goal.invariant-loop-place
invariant-loop-place l = Unmarks l.fn.marks.items l.marks.items l.touched l.place
