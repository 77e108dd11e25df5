use Rattle.std.specs.Prelude.{◌≡◌, length}
use Rattle.simplex_core.specs.ColumnListing.{AreListed}
use Rattle.simplex_core.proofs.column_table.lists.first_lists.Given as goal

-- the columns before this one are listed
abbrev pub invariant-loop-position : goal.invariant-loop-position
invariant-loop-position l = record {
  size : length l.lists.items ≡ l.rows;
  listed : AreListed l.columns l.lists.items l.rows l.position;
}
