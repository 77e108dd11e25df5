-- When two answers to a linear program are the same, and whether they exceed the same limit.
use Rattle.std.specs.Prelude.{◌≡◌, ℕ, List, length, slice_get, Some, Result, Ok, Err, ◌⊎◌}
use Rattle.frac128.specs.declared.frac.Frac.{Frac}
use Rattle.linear_forms.specs.Causes.{Cause}
use Rattle.linear_forms.specs.LinearProgram.{LinearProgram}
use Rattle.linear_forms.specs.ProgramLaws.{Agree}
use Rattle.simplex_core.specs.declared.problem.Solved.{Solved}
use Rattle.simplex_core.specs.declared.problem.Solved.TheVariants.{Optimal, Infeasible}
use Rattle.simplex_core.specs.declared.problem.SolveError.{SolveError}
use Rattle.simplex_core.specs.declared.problem.SolveError.TheVariants.{Range, Budget, Wide, Memory}
use Rattle.simplex_core.specs.declared.answers.Answer.{Answer}
use Rattle.simplex_core.specs.Outcome.{IsAnswer}
use Rattle.simplex_core.specs.HitsLimit.{HitsLimit, IsWholeAnswer}

-- the lists have the same fractions
pub record AreSameFractions (fs gs : List Frac) : Type 0 where
  pub lengths : length fs ≡ length gs
  pub each : (k : ℕ) (f g : Frac) → slice_get fs k ≡ Some f → slice_get gs k ≡ Some g → (f.num ≡ g.num)
      × (f.den ≡ g.den)

-- the ends are the same: the same solution with the same basis, or the same dual, after as many pivots
abbrev pub IsSameEnd : Solved → Solved → Type 0
IsSameEnd (Optimal at basis k) (Optimal at' basis' k') = AreSameFractions at.items at'.items
    × (basis.items ≡ basis'.items) × (k ≡ k')
IsSameEnd (Optimal at basis k) (Infeasible dual k') = ⊥
IsSameEnd (Infeasible dual k) (Optimal at basis k') = ⊥
IsSameEnd (Infeasible dual k) (Infeasible dual' k') = AreSameFractions dual.items dual'.items × (k ≡ k')

-- memory ran out
abbrev pub IsMemory : SolveError → Type 0
IsMemory (Range k) = ⊥
IsMemory (Budget k) = ⊥
IsMemory (Wide n) = ⊥
IsMemory Memory = Unit {0}

-- two answers are the same, or one of them is that memory ran out
abbrev pub IsSameAnswer : Result Solved SolveError → Result Solved SolveError → Type 0
IsSameAnswer (Ok s) (Ok s') = IsSameEnd s s'
IsSameAnswer (Ok s) (Err e) = IsMemory e
IsSameAnswer (Err e) (Ok s) = IsMemory e
IsSameAnswer (Err e) (Err e') = (e ≡ e') ⊎ (IsMemory e ⊎ IsMemory e')

-- one program has one answer for a number of pivots, unless memory runs out
pub record AnswersAreOne : Type 0 where
  pub each : (p : LinearProgram) (allowed : ℕ) (a b : Result Solved SolveError) → IsAnswer p allowed a
      → IsAnswer p allowed b → IsSameAnswer a b

-- programs that agree have the same answers, hit limits of the same causes, and have the same answers in integers
pub record AgreeingProgramsAnswerTheSame : Type 0 where
  pub each : (p q : LinearProgram) (allowed : ℕ) (a : Result Solved SolveError) → Agree p q → IsAnswer p allowed a
      → IsAnswer q allowed a
  pub hits_limit : (p q : LinearProgram) (allowed : ℕ) (c : Cause) → Agree p q → HitsLimit p allowed c → HitsLimit q allowed c
  pub whole : (p q : LinearProgram) (allowed : ℕ) (a : Answer) → Agree p q → IsWholeAnswer p allowed a
      → IsWholeAnswer q allowed a
