use Rattle.std.proofs.Common.{◌≡◌, ℕ, ◌+◌, ◌≤◌, drop}
use Rattle.std.specs.Prelude.{◌+ℤ◌, ◌*ℤ◌}
use Rattle.sparse_columns.specs.Numbers.{number_of}
use Rattle.sparse_columns.proofs.sums.add_multiples.Given as goal

-- what has been put plus the multiples of the remaining numbers is what was there plus the multiples of all, and each
-- cell before this one took at most one place
abbrev pub invariant-loop-cell : goal.invariant-loop-cell
invariant-loop-cell g l = record {
  held : (i : ℕ) → g.S.Sums.held l.sums i +ℤ number_of (drop l.cell-index l.cells) i *ℤ l.factor
      ≡ g.S.Sums.held l.fn.sums i +ℤ number_of l.cells i *ℤ l.factor;
  places : g.S.Sums.places l.fn.sums ≤ g.S.Sums.places l.sums + l.cell-index;
}
