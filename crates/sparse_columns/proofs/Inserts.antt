-- Inserting a cell at its place.
use Rattle.std.proofs.Common.{◌≡◌, ℕ, zero, suc, arith, List, [], ◌∷◌, ◌++◌, take, drop}
use Rattle.std.specs.Prelude.{◌+ℤ◌}
use Rattle.std.proofs.lemmas.Int.{ints}
use Rattle.sparse_columns.specs.declared.cell.Cell.{Cell}
use Rattle.sparse_columns.specs.Numbers.{alone, number_of}

-- the number in a row after a cell is inserted
pub number_of-insert : (cs : List Cell) (p : ℕ) (c : Cell) (i : ℕ) → number_of (take p cs ++ (c ∷ drop p cs)) i ≡ number_of cs i +ℤ alone c.row c.number i
number_of-insert [] zero c i = omega (arith, ints)
number_of-insert [] (suc p) c i = omega (arith, ints)
number_of-insert (x ∷ xs) zero c i = omega (arith, ints)
number_of-insert (x ∷ xs) (suc p) c i = let more = number_of-insert xs p c i in omega (arith, ints, more)
