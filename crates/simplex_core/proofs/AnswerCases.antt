-- From the end of the sequence to the answer.
use Rattle.std.proofs.Common.{ℕ, ◌≤◌, Bool, true, false, Ok, Err, Result}
use Rattle.std.specs.Prelude.{MatchBool, MatchResult}
use Rattle.simplex_core.specs.declared.problem.Solved.{Solved}
use Rattle.simplex_core.specs.declared.problem.SolveError.{SolveError}
use Rattle.simplex_core.specs.declared.problem.SolveError.TheVariants.{Range, Budget, Wide, Memory}
use Rattle.linear_forms.specs.LinearProgram.{LinearProgram}
use Rattle.simplex_core.specs.Problem.{table_size, widest}
use Rattle.simplex_core.specs.Outcome.{IsEnd, IsLimitHit, IsAnswer}

-- the cases of a test, each replaced by a consequence
pub match-map : (b : Bool) (P Q R S : Type 0) → (P → R) → (Q → S) → MatchBool b P Q → MatchBool b R S
match-map true P Q R S f g h = f h
match-map false P Q R S f g h = g h

-- the sequence's answer is the answer of `solve`, if the table isn't too wide
pub answer : (p : LinearProgram) (allowed : ℕ) (result : Result Solved SolveError) → table_size p ≤ widest
    → MatchResult result (IsEnd p allowed) (IsLimitHit p allowed) → IsAnswer p allowed result
answer p allowed (Ok s) fits h = (fits, h)
answer p allowed (Err (Range k)) fits h = (fits, h)
answer p allowed (Err (Budget k)) fits h = (fits, h)
answer p allowed (Err (Wide n)) fits h = absurd h
answer p allowed (Err Memory) fits h = tt
