use Rattle.simplex_core.specs.ColumnListing.{AreMarked}
use Rattle.simplex_core.proofs.column_table.touching.touched_of.Given as goal

-- the listed columns before this one have been processed
abbrev pub invariant-loop-place : goal.invariant-loop-place
invariant-loop-place l = AreMarked l.columns l.row l.listed l.place l.marks.items l.touched.items
