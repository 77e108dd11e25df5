-- The laws that the crate's functions state: what the certificates and the answers of `solve` mean.
use Rattle.std.specs.Prelude.{◌≡◌, ◌≢◌, ℕ, ◌<◌, ℤ, pos, ◌*ℤ◌, ◌<ℤ◌, Some, true, false, Ok, Vec}
use Rattle.std.specs.declared.alloc.Global.{Global}
use Rattle.frac128.specs.declared.frac.Frac.{Frac}
use Rattle.int_laws.specs.Sums.{sum_to}
use Rattle.simplex_core.specs.declared.problem.Solved.{Solved}
use Rattle.simplex_core.specs.declared.problem.Solved.TheVariants.{Optimal, Infeasible}
use Rattle.linear_forms.specs.LinearProgram.{LinearProgram, IsSolution, IsLeast, IsDual, HasSolution, CostsAtMost}
use Rattle.linear_forms.specs.LinearProgram.{CostsTheSame}
use Rattle.simplex_core.specs.Tableau.{Tableau, artificial, unknowns}
use Rattle.simplex_core.specs.Bland.{has_artificial, tableau_at}
use Rattle.simplex_core.specs.Outcome.{IsAnswer}

-- a program with a dual has no solution
pub record DualExcludesSolutions : Type 0 where
  pub each : (p : LinearProgram) (dual : ℕ → ℤ) → IsDual p dual → ¬ HasSolution p

-- no solution has lower first costs than a point with prices, nor, at the same first costs, lower
-- second costs
pub record LeastCostsLeast : Type 0 where
  pub first : (p : LinearProgram) (x : ℕ → ℤ) (d : ℤ) (y : ℕ → ℤ) (e : ℤ) → pos 0 <ℤ d → IsLeast p x d
      → IsSolution p y e
      → CostsAtMost p.columns p.first x d y e
  pub second : (p : LinearProgram) (x : ℕ → ℤ) (d : ℤ) (y : ℕ → ℤ) (e : ℤ) → pos 0 <ℤ d → IsLeast p x d
      → IsSolution p y e
      → CostsTheSame p.columns p.first x d y e → CostsAtMost p.columns p.second x d y e

-- the end is `Infeasible`
abbrev pub SaysInfeasible : Solved → Type 0
SaysInfeasible (Optimal at basis k) = ⊥
SaysInfeasible (Infeasible dual k) = Unit {0}

-- an answer `Optimal` means that there is a solution, and an answer `Infeasible` that there is none; so if there is
-- none and no limit is hit, the answer is `Infeasible`
pub record OutcomeDecidesSolutions : Type 0 where
  pub optimal : (p : LinearProgram) (allowed : ℕ) (at : Vec Frac Global) (basis : Vec ℕ Global) (k : ℕ)
      → IsAnswer p allowed (Ok (Optimal at basis k)) → HasSolution p
  pub infeasible : (p : LinearProgram) (allowed : ℕ) (dual : Vec Frac Global) (k : ℕ)
      → IsAnswer p allowed (Ok (Infeasible dual k)) → ¬ HasSolution p
  pub exactly : (p : LinearProgram) (allowed : ℕ) (s : Solved) → IsAnswer p allowed (Ok s) → ¬ HasSolution p
      → SaysInfeasible s

-- x over d is the basic solution of a tableau, with the artificial unknowns: the right side of each row at the unknown
-- that it is solved for, and 0 at each other one
pub record IsBasicPoint (p : LinearProgram) (t : Tableau) (x : ℕ → ℤ) (d : ℤ) : Type 0 where
  pub denominator : pos 0 <ℤ d
  pub basic : (i : ℕ) → i < p.rows → x (t.basis i) *ℤ t.scale i ≡ t.entry i (unknowns p) *ℤ d
  pub other : (j : ℕ) → ((i : ℕ) → i < p.rows → t.basis i ≢ j) → x j ≡ pos 0

-- at each tableau of the sequence the test of the artificial unknowns succeeds exactly if their sum is above 0
pub record ArtificialSumsAreWorkedOut : Type 0 where
  pub over : (p : LinearProgram) (k : ℕ) (t : Tableau) (x : ℕ → ℤ) (d : ℤ) → tableau_at p k ≡ Some t
      → IsBasicPoint p t x d → has_artificial p t ≡ true
      → pos 0 <ℤ sum_to p.rows (λ i. x (artificial p i))
  pub none : (p : LinearProgram) (k : ℕ) (t : Tableau) (x : ℕ → ℤ) (d : ℤ) → tableau_at p k ≡ Some t
      → IsBasicPoint p t x d → has_artificial p t ≡ false
      → sum_to p.rows (λ i. x (artificial p i)) ≡ pos 0
