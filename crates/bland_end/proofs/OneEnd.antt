-- A program has one end, or one reason why its end isn't reached.
use Rattle.std.proofs.Common.{◌≡◌, ap, arith, refl, sym, ◌∙◌, ◌⊎◌, inl, inr}
use Rattle.std.specs.Prelude.{Result, Ok, Err}
use Rattle.linear_forms.specs.LinearProgram.{LinearProgram}
use Rattle.simplex_core.specs.declared.problem.Solved.{Solved}
use Rattle.simplex_core.specs.declared.problem.SolveError.{SolveError}
use Rattle.simplex_core.specs.declared.problem.SolveError.TheVariants as stop
use Rattle.simplex_core.specs.Outcome.{IsAnswer}
use Rattle.simplex_core.specs.Agreement.{IsSameAnswer}
use Rattle.simplex_core.proofs.OneAnswer.{answers-same}
use Rattle.bland_end.specs.declared.whole.WholeError.{WholeError}
use Rattle.bland_end.specs.declared.whole.WholeError.TheVariants.{Range, Wide, TooMany, Memory}
use Rattle.bland_end.specs.Counting.{bases_of}
use Rattle.bland_end.specs.Whole.{IsWholeEnd, IsWholeStop, IsSameWholeEnd}

module _ (p : LinearProgram) where
  -- `solve` has one answer within as many pivots as there are bases
  answer : (a b : Result Solved SolveError) → IsAnswer p (bases_of p) a → IsAnswer p (bases_of p) b → IsSameAnswer a b
  answer = answers-same p (bases_of p)

  -- two ends are the same, and a program with an end has no reason but that memory ran out
  end-or_reason : (s : Solved) (e : WholeError) → IsWholeEnd p (Ok s) → IsWholeStop p e → IsSameWholeEnd (Ok s) (Err e)
  end-or_reason s (Range k) h g = answer (Ok s) (Err (stop.Range k)) (h.1, h.2) (g.1, g.2)
  end-or_reason s (Wide n) h g = answer (Ok s) (Err (stop.Wide n)) (h.1, h.2) (g.1, g.2)
  end-or_reason s TooMany h g = let l = h.0 in absurd (omega (arith, l, g))
  end-or_reason s Memory h g = tt

  -- two reasons are the same
  reasons-same : (d e : WholeError) → IsWholeStop p d → IsWholeStop p e → IsSameWholeEnd (Err d) (Err e)
  reasons-same Memory e h g = inr (inl tt)
  reasons-same (Range k) Memory h g = inr (inr tt)
  reasons-same (Wide n) Memory h g = inr (inr tt)
  reasons-same TooMany Memory h g = inr (inr tt)
  reasons-same (Range k) (Range j) h g =
      one (answer (Err (stop.Range k)) (Err (stop.Range j)) (h.1, h.2) (g.1, g.2))
    where
      one : (stop.Range k ≡ stop.Range j) ⊎ (⊥ ⊎ ⊥) → IsSameWholeEnd (Err (Range k)) (Err (Range j))
      one (inl e) = inl cc
      one (inr (inl v)) = absurd v
      one (inr (inr v)) = absurd v
  reasons-same (Wide n) (Wide m) h g = let e = h.2 in let f = g.2 in inl (ap Wide (e ∙ sym f))
  reasons-same (Range k) (Wide n) h g = let l = h.1 in let m = g.1 in absurd (omega (arith, l, m))
  reasons-same (Wide n) (Range k) h g = let l = h.1 in let m = g.1 in absurd (omega (arith, l, m))
  reasons-same (Range k) TooMany h g = let l = h.0 in absurd (omega (arith, l, g))
  reasons-same (Wide n) TooMany h g = let l = h.0 in absurd (omega (arith, l, g))
  reasons-same TooMany (Range k) h g = let l = g.0 in absurd (omega (arith, l, h))
  reasons-same TooMany (Wide n) h g = let l = g.0 in absurd (omega (arith, l, h))
  reasons-same TooMany TooMany h g = inl refl

  pub whole_ends-same : (a b : Result Solved WholeError) → IsWholeEnd p a → IsWholeEnd p b → IsSameWholeEnd a b
  whole_ends-same (Ok s) (Ok t) h g = answer (Ok s) (Ok t) (h.1, h.2) (g.1, g.2)
  whole_ends-same (Ok s) (Err e) h g = end-or_reason s e h g
  whole_ends-same (Err d) (Ok t) h g = end-or_reason t d g h
  whole_ends-same (Err d) (Err e) h g = reasons-same d e h g
