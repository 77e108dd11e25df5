-- A linear program whose sequence of tableaux ends with integers within the limits exceeds no limit.
use Rattle.std.proofs.Common.{ℕ, arith, inl, inr, List}
use Rattle.std.specs.Prelude.{ℤ}
use Rattle.simplex_core.specs.linear_forms.Causes.{Cause, range, budget, wide, scale}
use Rattle.simplex_core.specs.linear_forms.LinearProgram.{LinearProgram}
use Rattle.simplex_core.specs.HitsLimit.{HitsLimit, ScaledSolutionExceeds, ScaledDualExceeds, IsScaledSolution, IsScaledDual}
use Rattle.simplex_core.proofs.OneAnswer.{optimal-stops, infeasible-stops, optimal-same, infeasible-same, ends-apart}
use Rattle.simplex_core.proofs.OneAnswer.{range-apart, budget-apart, optimal-last, infeasible-last}
use Rattle.simplex_core.proofs.OneWholeAnswer.{over-same}

module _ (p : LinearProgram) (allowed : ℕ) (numbers : List ℤ) (den : ℕ) where
  -- a solution that is scaled within the limits doesn't exceed them
  solution-scaled : IsScaledSolution p allowed numbers den → ScaledSolutionExceeds p allowed → ⊥
  solution-scaled s t =
      let same = (optimal-same p allowed s.k t.k s.point t.at s.basis t.basis s.ends t.ends).0 in
      t.exceeds numbers den (over-same s.point t.at numbers den same s.scaled.over)
      (record {
        each = λ j l. s.within.each j (let a = same.lengths in let b = s.scaled.lengths in omega (arith, l, a, b));
      })
      s.den_within

  -- a dual that is scaled within the limit doesn't exceed it
  dual-scaled : IsScaledDual p allowed numbers den → ScaledDualExceeds p allowed → ⊥
  dual-scaled s t =
      let same = (infeasible-same p allowed s.k t.k s.dual t.dual s.ends t.ends).0 in
      t.exceeds numbers den (over-same s.dual t.dual numbers den same s.scaled.over)
      (record {
        each = λ j l. s.within.each j (let a = same.lengths in let b = s.scaled.lengths in omega (arith, l, a, b));
      })

  -- a linear program with a scaled solution hits no limit
  pub solved-hits_no_limit : IsScaledSolution p allowed numbers den → (c : Cause) → HitsLimit p allowed c → ⊥
  solved-hits_no_limit s (range m) t =
      range-apart p allowed s.k m s.ends.last s.ends.in_range (optimal-stops p allowed s.k s.point s.basis s.ends) t.1
  solved-hits_no_limit s (budget m) t =
      budget-apart p allowed s.k s.ends.last (optimal-last p s.ends.last s.ends.feasible s.ends.done)
      (optimal-stops p allowed s.k s.point s.basis s.ends) t.2
  solved-hits_no_limit s (wide n) t = let l = t.0 in let f = s.fits in omega (arith, l, f)
  solved-hits_no_limit s scale (w, inl t) = solution-scaled s t
  solved-hits_no_limit s scale (w, inr t) = ends-apart p allowed s.k t.k s.point s.basis t.dual s.ends t.ends

  -- a linear program with a scaled dual hits no limit
  pub refuted-hits_no_limit : IsScaledDual p allowed numbers den → (c : Cause) → HitsLimit p allowed c → ⊥
  refuted-hits_no_limit s (range m) t =
      range-apart p allowed s.k m s.ends.last s.ends.in_range (infeasible-stops p allowed s.k s.dual s.ends) t.1
  refuted-hits_no_limit s (budget m) t =
      budget-apart p allowed s.k s.ends.last (infeasible-last p s.ends.last s.ends.infeasible)
      (infeasible-stops p allowed s.k s.dual s.ends) t.2
  refuted-hits_no_limit s (wide n) t = let l = t.0 in let f = s.fits in omega (arith, l, f)
  refuted-hits_no_limit s scale (w, inl t) = ends-apart p allowed t.k s.k t.at t.basis s.dual t.ends s.ends
  refuted-hits_no_limit s scale (w, inr t) = dual-scaled s t
