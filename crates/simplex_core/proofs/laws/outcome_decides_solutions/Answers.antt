use Rattle.std.specs.Prelude.{ℕ, Ok}
use Rattle.simplex_core.specs.declared.problem.Solved.{Solved}
use Rattle.simplex_core.specs.declared.problem.Solved.TheVariants.{Optimal, Infeasible}
use Rattle.linear_forms.specs.LinearProgram.{HasSolution, LinearProgram}
use Rattle.simplex_core.specs.Outcome.{IsAnswer}
use Rattle.simplex_core.specs.Laws.{SaysInfeasible}
use Rattle.simplex_core.proofs.Certificates.{dual-excludes}
use Rattle.simplex_core.proofs.laws.outcome_decides_solutions.Goals as goal

-- if there is no solution, the end is `Infeasible`
ends-infeasibly : (p : LinearProgram) (allowed : ℕ) (s : Solved) → IsAnswer p allowed (Ok s) → ¬ HasSolution p → SaysInfeasible s
ends-infeasibly p allowed (Optimal at basis k) answer none = none (record { x = answer.1.x; d = answer.1.d; solution = answer.1.solution })
ends-infeasibly p allowed (Infeasible dual k) answer none = tt

pub returns : goal.returns
returns c = record {
  optimal = λ p allowed at basis k answer. record { x = answer.1.x; d = answer.1.d; solution = answer.1.solution };
  infeasible = λ p allowed dual k answer. dual-excludes p answer.1.y answer.1.certified;
  exactly = ends-infeasibly;
}
