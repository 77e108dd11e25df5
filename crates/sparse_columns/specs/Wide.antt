-- The numbers of a column while it is computed.
use Rattle.std.specs.Prelude.{ℕ, ℤ, pos, ◌+ℤ◌, List, [], ◌∷◌}
use Rattle.sparse_columns.specs.declared.wide.Wide.{Wide}
use Rattle.sparse_columns.specs.Numbers.{alone}

-- the number in row i: the sum of those in this row
abbrev pub wide_number : List Wide → ℕ → ℤ
wide_number [] i = pos 0
wide_number (w ∷ ws) i = alone w.row w.number i +ℤ wide_number ws i
