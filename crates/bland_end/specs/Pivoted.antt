-- Tableaux that pivots lead to, by whatever rule.
use Rattle.std.specs.Prelude.{ℕ, ◌<◌, pos, ◌<ℤ◌}
use Rattle.linear_forms.specs.LinearProgram.{LinearProgram}
use Rattle.simplex_core.specs.Tableau.{Tableau, unknowns, first_tableau, pivot}

-- pivots lead from the first tableau of a program to this one: each is at an entry above 0, in any row and in the
-- column of any unknown
pub data ComesByPivots (p : LinearProgram) : Tableau → Type 0 where
  AtFirst : ComesByPivots p (first_tableau p)
  AfterPivot : {t : Tableau} (r c : ℕ) → r < p.rows → c < unknowns p → pos 0 <ℤ t.entry r c → ComesByPivots p t
      → ComesByPivots p (pivot t r c)
