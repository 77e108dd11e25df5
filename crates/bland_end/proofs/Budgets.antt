-- As many pivots as there are bases suffice; the number of bases of a problem.
use Rattle.std.proofs.Common.{◌≡◌, ℕ, ◌+◌, ◌≤◌, arith, refl, Some, Err}
use Rattle.linear_forms.specs.LinearProgram.{LinearProgram}
use Rattle.simplex_core.specs.declared.problem.SolveError.TheVariants.{Budget}
use Rattle.simplex_core.specs.Outcome.{IsAnswer, IsStop}
use Rattle.simplex_core.specs.declared.problem.Problem.{Problem}
use Rattle.simplex_core.specs.Problem.{program_of}
use Rattle.bland_end.specs.Counting.{choose, bases_of, below_limit}
use Rattle.bland_end.proofs.Counts.{pivots-few}
use Rattle.bland_end.proofs.Binomials.{some-limit}

-- if as many pivots are allowed as there are bases, no answer is that they don't suffice
pub never-budget : (p : LinearProgram) (allowed k : ℕ) → bases_of p ≤ allowed → ¬ IsAnswer p allowed (Err (Budget k))
never-budget p allowed k l (fits, (same, hits_limit)) =
    let few = pivots-few p allowed hits_limit.last hits_limit.reached.is in absurd (omega (arith, l, few))

-- if the number of bases itself is allowed, no answer is that the pivots don't suffice
pub no-stop : (p : LinearProgram) (k j : ℕ) → below_limit (bases_of p) ≡ Some k → ¬ IsStop p k (Budget j)
no-stop p k j e stop =
    let same = (some-limit (bases_of p) k e).0 in never-budget p k j (omega (arith, same)) stop

-- the number of bases of a problem's program
pub problem-bases : (q : Problem) → choose (q.cols + q.rows) q.rows ≡ bases_of (program_of q)
unfolding program_of
problem-bases q = refl
