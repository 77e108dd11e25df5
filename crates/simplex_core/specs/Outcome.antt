-- The answer of `solve`: the end of the sequence of tableaux, or the limit that it exceeds.
use Rattle.std.specs.Prelude.{◌≡◌, ℕ, ◌<◌, ◌≤◌, ℤ, pos, ◌*ℤ◌, ◌<ℤ◌, unsigned_abs, List, length, slice_get}
use Rattle.std.specs.Prelude.{slice_index, Some, None, false, true, Result, MatchResult, ◌≢◌, ◌⊎◌}
use Rattle.frac128.specs.declared.frac.Frac.{Frac}
use Rattle.frac128.specs.Fraction.{IsFraction}
use Rattle.frac128.specs.Lowest.{IsLowest}
use Rattle.simplex_core.specs.declared.problem.Solved.{Solved}
use Rattle.simplex_core.specs.declared.problem.Solved.TheVariants.{Optimal, Infeasible}
use Rattle.simplex_core.specs.declared.problem.SolveError.{SolveError}
use Rattle.simplex_core.specs.declared.problem.SolveError.TheVariants.{Range, Budget, Wide, Memory}
use Rattle.linear_forms.specs.LinearProgram.{LinearProgram, IsSolution, IsLeast, IsDual}
use Rattle.simplex_core.specs.Tableau.{Tableau, unknowns, cost_row}
use Rattle.simplex_core.specs.Bland.{is_infeasible, entering, dual_of, next, tableau_at}
use Rattle.simplex_core.specs.Problem.{table_size, widest}
use Rattle.simplex_core.specs.Positions.{InTable}
use Rattle.simplex_core.specs.Sizes.{number_limit}

-- in lowest terms, z over s has a numerator and a denominator below 2^31 in absolute value
pub record IsSmallRatio (z s : ℤ) : Type 0 where
  pub each : (n d : ℤ) → pos 0 <ℤ d → IsLowest n d → n *ℤ s ≡ z *ℤ d → (unsigned_abs n < number_limit)
      × (unsigned_abs d < number_limit)

-- each number of the tableau is in range; a cost row has no right side
pub record IsInRange (p : LinearProgram) (t : Tableau) : Type 0 where
  pub each : (i j : ℕ) → InTable p.rows p.columns i j → IsSmallRatio (t.entry i j) (t.scale i)

-- after k pivots the tableau is t, and each one before it was in range
pub record ComesAfter (p : LinearProgram) (k : ℕ) (t : Tableau) : Type 0 where
  pub is : tableau_at p k ≡ Some t
  pub before : (i : ℕ) (u : Tableau) → i < k → tableau_at p i ≡ Some u → IsInRange p u

-- the list holds the numbers of the point x over d
pub record HoldsPoint (n : ℕ) (at : List Frac) (x : ℕ → ℤ) (d : ℤ) : Type 0 where
  pub length_is : length at ≡ n
  pub each : (j : ℕ) (f : Frac) → slice_get at j ≡ Some f → IsFraction f (x j) d

-- the number of a tableau's basic solution in column j: the right side of the row that is solved for column j, or 0 if
-- none is
abbrev pub IsBasicValue : LinearProgram → Tableau → ℕ → Frac → Type 0
IsBasicValue p t j f =
    ((i : ℕ) × (i < p.rows) × (t.basis i ≡ j) × IsFraction f (t.entry i (unknowns p)) (t.scale i))
    ⊎ ((f.num ≡ pos 0) × ((i : ℕ) → i < p.rows → t.basis i ≢ j))

-- the sequence ends as optimal within the allowed pivots: the list is a solution of least cost, which is the last
-- tableau's basic solution, and the basis is the last tableau's
pub record EndsOptimally (p : LinearProgram) (allowed : ℕ) (at : List Frac) (basis : List ℕ) (k : ℕ) : Type 0 where
  pub within : k ≤ allowed
  pub last : Tableau
  pub reached : ComesAfter p k last
  pub in_range : IsInRange p last
  pub feasible : is_infeasible p last ≡ false
  pub done : entering p last ≡ None
  pub rows : length basis ≡ p.rows
  pub basis_is : (i : ℕ) → i < p.rows → slice_index basis i ≡ last.basis i
  pub x : ℕ → ℤ
  pub d : ℤ
  pub holds : HoldsPoint p.columns at x d
  pub solution : IsSolution p x d
  pub least : IsLeast p x d
  pub basic : (j : ℕ) (f : Frac) → slice_get at j ≡ Some f → IsBasicValue p last j f

-- the sequence ends as infeasible within the allowed pivots: the list is the last tableau's dual, and holds a dual of
-- the program over a scale above 0
pub record EndsInfeasibly (p : LinearProgram) (allowed : ℕ) (dual : List Frac) (k : ℕ) : Type 0 where
  pub within : k ≤ allowed
  pub last : Tableau
  pub reached : ComesAfter p k last
  pub in_range : IsInRange p last
  pub infeasible : is_infeasible p last ≡ true
  pub read : HoldsPoint p.rows dual (dual_of p last) (last.scale (cost_row p 0))
  pub y : ℕ → ℤ
  pub d : ℤ
  pub positive : pos 0 <ℤ d
  pub holds : HoldsPoint p.rows dual y d
  pub certified : IsDual p y

-- after k pivots, within the allowed ones, a number of the tableau is out of range, and none was out of range before
pub record ExceedsNumberRange (p : LinearProgram) (allowed k : ℕ) : Type 0 where
  pub within : k ≤ allowed
  pub last : Tableau
  pub reached : ComesAfter p k last
  pub out : ¬ IsInRange p last

-- the allowed number of pivots has been made, and the sequence continues
pub record ExceedsPivotLimit (p : LinearProgram) (allowed : ℕ) : Type 0 where
  pub last : Tableau
  pub reached : ComesAfter p allowed last
  pub in_range : IsInRange p last
  pub following : Tableau
  pub goes_on : next p last ≡ Some following

-- how the sequence within the allowed pivots ends
abbrev pub IsEnd : LinearProgram → ℕ → Solved → Type 0
IsEnd p allowed (Optimal at basis k) = EndsOptimally p allowed at.items basis.items k
IsEnd p allowed (Infeasible dual k) = EndsInfeasibly p allowed dual.items k

-- the limit that the sequence hits within the allowed pivots; memory may run out at any time
abbrev pub IsLimitHit : LinearProgram → ℕ → SolveError → Type 0
IsLimitHit p allowed (Range k) = ExceedsNumberRange p allowed k
IsLimitHit p allowed (Budget k) = (k ≡ allowed) × ExceedsPivotLimit p allowed
IsLimitHit p allowed (Wide n) = ⊥
IsLimitHit p allowed Memory = Unit {0}

-- an answer that isn't an end: the table would be too wide, or it isn't and the sequence hits a limit
abbrev pub IsStop : LinearProgram → ℕ → SolveError → Type 0
IsStop p allowed (Range k) = (table_size p ≤ widest) × IsLimitHit p allowed (Range k)
IsStop p allowed (Budget k) = (table_size p ≤ widest) × IsLimitHit p allowed (Budget k)
IsStop p allowed (Wide n) = (widest < table_size p) × (n ≡ table_size p)
IsStop p allowed Memory = Unit {0}

-- the answer of the sequence within the allowed pivots
abbrev pub IsAnswer : LinearProgram → ℕ → Result Solved SolveError → Type 0
IsAnswer p allowed result = MatchResult result (λ s. (table_size p ≤ widest) × IsEnd p allowed s) (IsStop p allowed)
