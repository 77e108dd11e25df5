-- Bland's rule terminates: no basis occurs twice, so there are fewer pivots than bases.
use Rattle.std.specs.Prelude.{◌≡◌, ℕ, ◌+◌, ◌<◌, ◌≤◌, pos, ◌*ℤ◌, ◌<ℤ◌, Some, Err, Result}
use Rattle.linear_forms.specs.LinearProgram.{LinearProgram}
use Rattle.simplex_core.specs.declared.problem.Solved.{Solved}
use Rattle.simplex_core.specs.declared.problem.SolveError.TheVariants.{Budget}
use Rattle.simplex_core.specs.Tableau.{Tableau, unknowns, cost_row}
use Rattle.simplex_core.specs.Bland.{tableau_at}
use Rattle.simplex_core.specs.Outcome.{IsAnswer}
use Rattle.bland_end.specs.Bases.{HaveSameBasis}
use Rattle.bland_end.specs.Pivoted.{ComesByPivots}
use Rattle.bland_end.specs.Counting.{bases_of}
use Rattle.bland_end.specs.declared.whole.WholeError.{WholeError}
use Rattle.bland_end.specs.Whole.{IsWholeEnd, IsSameWholeEnd}

-- a basis determines its tableau up to the order and the scales of the rows: two tableaux that pivots lead to and that
-- have the same basis have the same fractions in the rows that are solved for the same unknown, including the right
-- sides, and in the three cost rows; their scales are above 0, so that cross products compare fractions; and pivots
-- lead to each tableau of the sequence
pub record BasesDecideTableaux : Type 0 where
  pub scales : (p : LinearProgram) (t : Tableau) (i : ℕ) → ComesByPivots p t → i < p.rows + 3 → pos 0 <ℤ t.scale i
  pub rows : (p : LinearProgram) (t u : Tableau) (i k c : ℕ) → ComesByPivots p t → ComesByPivots p u
      → HaveSameBasis p t u → i < p.rows → k < p.rows → t.basis i ≡ u.basis k → c ≤ unknowns p
      → t.entry i c *ℤ u.scale k ≡ u.entry k c *ℤ t.scale i
  pub costs : (p : LinearProgram) (t u : Tableau) (q c : ℕ) → ComesByPivots p t → ComesByPivots p u
      → HaveSameBasis p t u → q < 3 → c ≤ unknowns p
      → t.entry (cost_row p q) c *ℤ u.scale (cost_row p q) ≡ u.entry (cost_row p q) c *ℤ t.scale (cost_row p q)
  pub sequence : (p : LinearProgram) (k : ℕ) (t : Tableau) → tableau_at p k ≡ Some t → ComesByPivots p t

-- no two tableaux of the sequence have the same basis
pub record NoBasisComesTwice : Type 0 where
  pub each : (p : LinearProgram) (a b : ℕ) (t u : Tableau) → a < b → tableau_at p a ≡ Some t → tableau_at p b ≡ Some u
      → ¬ HaveSameBasis p t u

-- a tableau of the sequence comes after fewer pivots than there are bases
pub record PivotsAreFew : Type 0 where
  pub each : (p : LinearProgram) (k : ℕ) (t : Tableau) → tableau_at p k ≡ Some t → k < bases_of p

-- if as many pivots are allowed as there are bases, no answer is that they don't suffice
pub record BasesSuffice : Type 0 where
  pub each : (p : LinearProgram) (allowed k : ℕ) → bases_of p ≤ allowed → ¬ IsAnswer p allowed (Err (Budget k))

-- a program has one end of its sequence, or one reason why the end isn't reached, unless memory runs out: the contract
-- of `solve_whole` determines its result
pub record EndsAreOne : Type 0 where
  pub each : (p : LinearProgram) (a b : Result Solved WholeError) → IsWholeEnd p a → IsWholeEnd p b
      → IsSameWholeEnd a b
