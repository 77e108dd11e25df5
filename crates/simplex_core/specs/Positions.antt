-- The positions of numbers in a tableau.
use Rattle.std.specs.Prelude.{ℕ, ◌+◌, ◌<◌, ◌≤◌}

-- row i and column j are in the tableau: a cost row has no right side
pub record InTable (rows columns i j : ℕ) : Type 0 where
  pub row : i < rows + 3
  pub column : j < columns + rows + 1
  pub cost : rows ≤ i → j < columns + rows
