use Rattle.std.proofs.Common.{length}
use Rattle.bound_table.proofs.sorting.+sort.Given as goal

abbrev pub decreases-sort : goal.decreases-sort
decreases-sort l = length l.parts.items
