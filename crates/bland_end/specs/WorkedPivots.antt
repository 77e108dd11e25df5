-- Worked values of two tableaux with the same basis, with the rows in another order and over other scales.
use Rattle.std.specs.Prelude.{◌≡◌, ℕ, zero, suc, ℤ, pos, negsuc}
use Rattle.linear_forms.specs.LinearProgram.{LinearProgram}
use Rattle.simplex_core.specs.Tableau.{Tableau, first_tableau, pivot}
use Rattle.bland_end.specs.Bases.{HaveSameBasis}
use Rattle.bland_end.specs.Pivoted.{ComesByPivots}
use Rattle.bland_end.specs.Worked.{sums, solved_for}

-- the numbers of x + 2*y = 2, y + z = 1 and x + z = 1
abbrev pub three_rows : ℕ → ℕ → ℤ
three_rows zero zero = pos 1
three_rows zero (suc zero) = pos 2
three_rows zero (suc (suc j)) = pos 0
three_rows (suc zero) zero = pos 0
three_rows (suc zero) (suc j) = pos 1
three_rows (suc (suc i)) zero = pos 1
three_rows (suc (suc i)) (suc zero) = pos 0
three_rows (suc (suc i)) (suc (suc j)) = pos 1

abbrev pub three_sides : ℕ → ℤ
three_sides zero = pos 2
three_sides (suc i) = pos 1

-- these equations, in which each unknown has the first cost 1
abbrev pub three_equations : LinearProgram
three_equations = record {
  rows = 3;
  columns = 3;
  entry = three_rows;
  right = three_sides;
  first = λ j. pos 1;
  second = λ j. pos 0;
}

-- the tableau with rows solved for x, y and z in this order, and the one with rows for y, z and x
abbrev pub in_order : Tableau
in_order = pivot (pivot (pivot (first_tableau three_equations) 0 0) 1 1) 2 2

abbrev pub turned : Tableau
turned = pivot (pivot (pivot (first_tableau three_equations) 0 1) 1 2) 2 0

-- pivots lead to both tableaux, and they have the same basis; x is 2/3 in the first row of one, over the scale 3, and
-- in the last row of the other, over 6; the first costs of the basis are 5/3, negated in the cost row, in both; and no
-- pivots lead to a tableau whose rows don't have their scales at their basic unknowns
pub record PivotsAreWorkedOut : Type 0 where
  pub first : ComesByPivots three_equations in_order
  pub second : ComesByPivots three_equations turned
  pub same : HaveSameBasis three_equations in_order turned
  pub rows : (in_order.basis 0 ≡ 0) × (turned.basis 2 ≡ 0)
  pub right : (in_order.entry 0 6 ≡ pos 2) × (turned.entry 2 6 ≡ pos 4)
  pub scales : (in_order.scale 0 ≡ pos 3) × (turned.scale 2 ≡ pos 6)
  pub costs : (in_order.entry 4 6 ≡ negsuc 4) × (turned.entry 4 6 ≡ negsuc 39)
  pub cost_scales : (in_order.scale 4 ≡ pos 3) × (turned.scale 4 ≡ pos 24)
  pub none : ¬ ComesByPivots (sums 2 3) (solved_for 0 2)
