-- The basis of a tableau, as a set of unknowns.
use Rattle.std.specs.Prelude.{◌≡◌, ℕ, ◌<◌}
use Rattle.linear_forms.specs.LinearProgram.{LinearProgram}
use Rattle.simplex_core.specs.Tableau.{Tableau}

-- unknown j is basic: one of the tableau's rows is solved for it
abbrev pub IsBasic : LinearProgram → Tableau → ℕ → Type 0
IsBasic p t j = (i : ℕ) × (i < p.rows) × (t.basis i ≡ j)

-- the same unknowns are basic in both tableaux, in whatever order of the rows
pub record HaveSameBasis (p : LinearProgram) (t u : Tableau) : Type 0 where
  pub there : (j : ℕ) → IsBasic p t j → IsBasic p u j
  pub back : (j : ℕ) → IsBasic p u j → IsBasic p t j
