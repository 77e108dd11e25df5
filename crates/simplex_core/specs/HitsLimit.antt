-- Which limit a linear program exceeds, and the answer in integers if it exceeds none.
use Rattle.std.specs.Prelude.{◌≡◌, ℕ, ◌<◌, ◌≤◌, List, length, ◌⊎◌, ℤ, pos}
use Rattle.frac128.specs.declared.frac.Frac.{Frac}
use Rattle.linear_forms.specs.Forms.{at}
use Rattle.linear_forms.specs.Causes.{Cause, range, budget, wide, scale, cause_of}
use Rattle.linear_forms.specs.Limits.{certificate_limit, point_limit}
use Rattle.linear_forms.specs.LinearProgram.{LinearProgram, IsSolution, IsLeast, IsDual}
use Rattle.simplex_core.specs.declared.answers.Answer.{Answer}
use Rattle.simplex_core.specs.declared.answers.Answer.TheVariants.{Solution, Dual, OutOfLimits}
use Rattle.simplex_core.specs.Problem.{table_size, widest}
use Rattle.simplex_core.specs.Outcome.{EndsOptimally, EndsInfeasibly, ExceedsNumberRange, ExceedsPivotLimit}
use Rattle.simplex_core.specs.Scaling.{AreScaled, AreWithin, ExceedsSolution, ExceedsDual}

-- the sequence ends as optimal, and the solution's integers are too large
pub record ScaledSolutionExceeds (p : LinearProgram) (allowed : ℕ) : Type 0 where
  pub at : List Frac
  pub basis : List ℕ
  pub k : ℕ
  pub ends : EndsOptimally p allowed at basis k
  pub exceeds : ExceedsSolution at

-- the sequence ends as infeasible, and the dual's integers are too large
pub record ScaledDualExceeds (p : LinearProgram) (allowed : ℕ) : Type 0 where
  pub dual : List Frac
  pub k : ℕ
  pub ends : EndsInfeasibly p allowed dual k
  pub exceeds : ExceedsDual dual

-- a linear program hits this limit within a number of pivots: its table has this many numbers, which is too wide; or it
-- hasn't, and after this many pivots a number is out of range; or the allowed number of pivots doesn't suffice; or the
-- integers of the answer are too large
abbrev pub HitsLimit : LinearProgram → ℕ → Cause → Type 0
HitsLimit p allowed (wide n) = (widest < table_size p) × (n ≡ table_size p)
HitsLimit p allowed (range k) = (table_size p ≤ widest) × ExceedsNumberRange p allowed k
HitsLimit p allowed (budget n) = (table_size p ≤ widest) × (n ≡ allowed) × ExceedsPivotLimit p allowed
HitsLimit p allowed scale = (table_size p ≤ widest) × (ScaledSolutionExceeds p allowed ⊎ ScaledDualExceeds p allowed)

-- the numbers over the denominator are the solution of least cost at which the sequence ends, scaled by its least
-- common denominator; they and the denominator are within the limit
pub record IsScaledSolution (p : LinearProgram) (allowed : ℕ) (numbers : List ℤ) (den : ℕ) : Type 0 where
  pub fits : table_size p ≤ widest
  pub point : List Frac
  pub basis : List ℕ
  pub k : ℕ
  pub ends : EndsOptimally p allowed point basis k
  pub scaled : AreScaled point numbers den
  pub within : AreWithin certificate_limit (length numbers) numbers
  pub den_within : den ≤ certificate_limit
  pub columns : length numbers ≡ p.columns
  pub solution : IsSolution p (at numbers) (pos den)
  pub least : IsLeast p (at numbers) (pos den)

-- the numbers are the dual at which the sequence ends as infeasible, scaled by its least common denominator; they are
-- within the limit
pub record IsScaledDual (p : LinearProgram) (allowed : ℕ) (numbers : List ℤ) (den : ℕ) : Type 0 where
  pub fits : table_size p ≤ widest
  pub dual : List Frac
  pub k : ℕ
  pub ends : EndsInfeasibly p allowed dual k
  pub scaled : AreScaled dual numbers den
  pub within : AreWithin point_limit (length numbers) numbers
  pub rows : length numbers ≡ p.rows
  pub certified : IsDual p (at numbers)

-- the answer in integers, within a number of pivots
abbrev pub IsWholeAnswer : LinearProgram → ℕ → Answer → Type 0
IsWholeAnswer p allowed (Solution s) = IsScaledSolution p allowed s.numbers.items s.den
IsWholeAnswer p allowed (Dual s) = IsScaledDual p allowed s.numbers.items s.den
IsWholeAnswer p allowed (OutOfLimits cause) = HitsLimit p allowed (cause_of cause)

-- the answers are the same
abbrev pub IsSameWholeAnswer : Answer → Answer → Type 0
IsSameWholeAnswer (Solution s) (Solution t) = (s.numbers.items ≡ t.numbers.items) × (s.den ≡ t.den)
IsSameWholeAnswer (Solution s) (Dual t) = ⊥
IsSameWholeAnswer (Solution s) (OutOfLimits c) = ⊥
IsSameWholeAnswer (Dual s) (Solution t) = ⊥
IsSameWholeAnswer (Dual s) (Dual t) = (s.numbers.items ≡ t.numbers.items) × (s.den ≡ t.den)
IsSameWholeAnswer (Dual s) (OutOfLimits c) = ⊥
IsSameWholeAnswer (OutOfLimits c) (Solution t) = ⊥
IsSameWholeAnswer (OutOfLimits c) (Dual t) = ⊥
IsSameWholeAnswer (OutOfLimits c) (OutOfLimits d) = cause_of c ≡ cause_of d

-- one program has one answer in integers for a number of pivots: it hits a limit, of one cause, or has a solution, or
-- has none; and if the numbers over the least common denominator aren't within the limits, they aren't over any other
pub record WholeAnswersAreOne : Type 0 where
  pub each : (p : LinearProgram) (allowed : ℕ) (a b : Answer) → IsWholeAnswer p allowed a → IsWholeAnswer p allowed b
      → IsSameWholeAnswer a b
  pub causes : (p : LinearProgram) (allowed : ℕ) (c d : Cause) → HitsLimit p allowed c → HitsLimit p allowed d → c ≡ d
