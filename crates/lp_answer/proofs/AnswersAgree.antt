-- Linear programs that agree have the same ends, and the same reasons why an end isn't reached.
use Rattle.std.proofs.Common.{◌≡◌, ℕ, ◌+◌, ◌^◌, ◌<◌, ◌≤◌, ap, ◌∙◌, subst}
use Rattle.std.specs.Prelude.{Result, Ok, Err}
use Rattle.simplex_core.specs.linear_forms.LinearProgram.{LinearProgram}
use Rattle.simplex_core.specs.linear_forms.ProgramLaws.{Agree}
use Rattle.simplex_core.specs.declared.problem.Solved.{Solved}
use Rattle.simplex_core.specs.declared.problem.SolveError.{SolveError}
use Rattle.simplex_core.specs.declared.problem.SolveError.TheVariants as stop
use Rattle.simplex_core.specs.Outcome.{IsAnswer}
use Rattle.simplex_core.proofs.Agreement.{answers-agree}
use Rattle.bland_end.specs.declared.whole.WholeError.{WholeError}
use Rattle.bland_end.specs.declared.whole.WholeError.TheVariants.{Range, Wide, TooMany, Memory}
use Rattle.bland_end.specs.Counting.{choose, bases_of}
use Rattle.bland_end.specs.Whole.{IsWholeEnd}
use Rattle.lp_answer.specs.declared.answer.LpAnswer.{LpAnswer}
use Rattle.lp_answer.specs.declared.answer.LpAnswer.TheVariants.{Ended, Stopped}
use Rattle.lp_answer.specs.Answers.{IsAnswerTo}

module _ (p q : LinearProgram) (agree : Agree p q) where
  -- they have equally many bases
  bases-same : bases_of p ≡ bases_of q
  bases-same =
      ap (λ (n : ℕ). choose (n + p.rows) p.rows) agree.columns ∙ ap (λ (m : ℕ). choose (q.columns + m) m) agree.rows

  -- they have the same answers within equally many pivots
  answer-same : (a : Result Solved SolveError) → IsAnswer p (bases_of p) a → IsAnswer q (bases_of q) a
  answer-same a h = subst (λ (n : ℕ). IsAnswer q n a) bases-same (answers-agree p q (bases_of p) a agree h)

  few-same : bases_of p < 2 ^ 32 → bases_of q < 2 ^ 32
  few-same l = subst (λ (n : ℕ). n < 2 ^ 32) bases-same l

  -- linear programs that agree have the same ends
  end-same : (r : Result Solved WholeError) → IsWholeEnd p r → IsWholeEnd q r
  end-same (Ok s) h = let a = answer-same (Ok s) (h.1, h.2) in (few-same h.0, a.0, a.1)
  end-same (Err (Range k)) h = let a = answer-same (Err (stop.Range k)) (h.1, h.2) in (few-same h.0, a.0, a.1)
  end-same (Err (Wide n)) h = let a = answer-same (Err (stop.Wide n)) (h.1, h.2) in (few-same h.0, a.0, a.1)
  end-same (Err TooMany) h = subst (λ (n : ℕ). 2 ^ 32 ≤ n) bases-same h
  end-same (Err Memory) h = tt

  -- an answer to one of two linear programs that agree is one to the other
  pub lp_answers-agree : (a : LpAnswer) → IsAnswerTo p a → IsAnswerTo q a
  lp_answers-agree (Ended text) h =
      record { end = h.end; reached = end-same (Ok h.end) h.reached; result_is = h.result_is }
  lp_answers-agree (Stopped text) h =
      record { reason = h.reason; stopped = end-same (Err h.reason) h.stopped; result_is = h.result_is }
