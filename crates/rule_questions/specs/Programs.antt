-- The linear programs of questions: the problems that represent them, and when they exceed no limit.
use Rattle.std.specs.Prelude.{ℕ}
use Rattle.poly_terms.specs.linear_forms.Causes.{Cause}
use Rattle.poly_terms.specs.linear_forms.LinearProgram.{LinearProgram}
use Rattle.poly_terms.specs.linear_forms.ProgramLaws.{Agree}
use Rattle.poly_terms.specs.linear_forms.Questions.{Question, program_of_question}
use Rattle.lp_builder.specs.simplex_core.declared.problem.Problem.{Problem}
use Rattle.lp_builder.specs.simplex_core.Problem.{program_of, IsProper}
use Rattle.lp_builder.specs.simplex_core.HitsLimit.{HitsLimit}

-- a problem satisfies the precondition of the solver, and its linear program agrees with that of a question
pub record IsProblemOf (q : Question) (p : Problem) : Type 0 where
  pub proper : IsProper p
  pub agrees : Agree (program_of p) (program_of_question q)

-- a linear program hits no limit within a number of pivots
pub record NothingHitsLimit (p : LinearProgram) (pivots : ℕ) : Type 0 where
  pub each : (c : Cause) → ¬ (HitsLimit p pivots c)
