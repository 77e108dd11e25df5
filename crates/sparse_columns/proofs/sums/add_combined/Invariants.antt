use Rattle.std.proofs.Common.{◌≡◌, ℕ, ◌+◌, ◌≤◌, length}
use Rattle.std.specs.Prelude.{◌+ℤ◌, ◌*ℤ◌}
use Rattle.sparse_columns.specs.Numbers.{number_of}
use Rattle.sparse_columns.proofs.sums.add_combined.Given as goal

-- what has been put plus what the remaining cells add is what was there plus what all cells add, and there are places
-- for the remaining cells
abbrev pub invariant-merging : goal.invariant-merging
invariant-merging g l = record {
  held : (i : ℕ) → g.S.Sums.held l.sums i +ℤ (number_of l.left_rest i *ℤ l.left_factor +ℤ number_of l.right_rest i *ℤ l.right_factor)
      ≡ g.S.Sums.held l.fn.sums i +ℤ (number_of l.left i *ℤ l.left_factor +ℤ number_of l.right i *ℤ l.right_factor);
  places : length l.left_rest + length l.right_rest ≤ g.S.Sums.places l.sums;
}

abbrev pub decreases-merging : goal.decreases-merging
decreases-merging g l = length l.left_rest + length l.right_rest
