-- A program has one answer in integers for a number of pivots.
use Rattle.std.proofs.Common.{◌≡◌, ℕ, ◌<◌, ◌≤◌, ap, arith, refl, sym, ◌∙◌, subst, inl, inr, List, length}
use Rattle.std.specs.Prelude.{ℤ, pos, ◌*ℤ◌, ◌<ℤ◌, unsigned_abs}
use Rattle.std.specs.Int.{◌∣◌}
use Rattle.std.proofs.Math.Nat.{dvd_antisymm}
use Rattle.std.proofs.lemmas.List.{ext_get_or}
use Rattle.frac128.specs.declared.frac.Frac.{Frac}
use Rattle.int_laws.proofs.OrderLaws.{mul-cancel_ℤ}
use Rattle.int_laws.proofs.RingLaws.{mul_comm_ℤ}
use Rattle.linear_forms.specs.Forms.{at}
use Rattle.linear_forms.specs.Causes.{Cause, range, budget, wide, scale, cause_of}
use Rattle.linear_forms.specs.LinearProgram.{LinearProgram}
use Rattle.simplex_core.specs.declared.answers.Answer.{Answer}
use Rattle.simplex_core.specs.declared.answers.Answer.TheVariants.{Solution, Dual, OutOfLimits}
use Rattle.simplex_core.specs.Problem.{table_size, widest}
use Rattle.simplex_core.specs.Outcome.{EndsOptimally, EndsInfeasibly}
use Rattle.simplex_core.specs.Scaling.{IsCommon, AreOver, AreScaled}
use Rattle.simplex_core.specs.Agreement.{AreSameFractions}
use Rattle.simplex_core.specs.HitsLimit.{HitsLimit, ScaledSolutionExceeds, ScaledDualExceeds, IsWholeAnswer, IsScaledSolution, IsScaledDual}
use Rattle.simplex_core.specs.HitsLimit.{IsSameWholeAnswer}
use Rattle.simplex_core.proofs.Positions.{slice_get-there}
use Rattle.simplex_core.proofs.OneAnswer.{optimal-stops, infeasible-stops, range-stops, budget-stops, stops-same}
use Rattle.simplex_core.proofs.OneAnswer.{optimal-same, infeasible-same, ends-apart, range-apart, budget-apart}
use Rattle.simplex_core.proofs.OneAnswer.{optimal-last, infeasible-last}

-- integers over a denominator that are given fractions are also equal ones
pub over-same : (fs gs : List Frac) (numbers : List ℤ) (den : ℕ) → AreSameFractions fs gs → AreOver fs (length fs) numbers den → AreOver gs (length gs) numbers den
over-same fs gs numbers den same over = record {
  positive = over.positive;
  each = λ j g l i.
      let m : j < length fs = omega (arith, l, same.lengths) in
      let found = slice_get-there fs j m in
      let parts = same.each j found.0 g found.1 i in
      subst (λ (d : ℤ). at numbers j *ℤ d ≡ g.num *ℤ pos den) parts.1 (subst (λ (n : ℤ). at numbers j *ℤ found.0.den ≡ n *ℤ pos den) parts.0 (over.each j found.0 m found.1));
}

-- a common denominator of given fractions is also one of equal ones
common-same : (fs gs : List Frac) (n : ℕ) → AreSameFractions fs gs → IsCommon fs (length fs) n → IsCommon gs (length gs) n
common-same fs gs n same c = record {
  each = λ j g l i.
      let m : j < length fs = omega (arith, l, same.lengths) in
      let found = slice_get-there fs j m in
      subst (λ (d : ℤ). unsigned_abs d ∣ n) (same.each j found.0 g found.1 i).1 (c.each j found.0 m found.1);
}

-- the equality of fraction lists is symmetric
same-back : (fs gs : List Frac) → AreSameFractions fs gs → AreSameFractions gs fs
same-back fs gs same = record {
  lengths = sym same.lengths;
  each = λ k f g i j. let parts = same.each k g f j i in (sym parts.0, sym parts.1);
}

-- fractions can be scaled in only one way
pub scaled-once : (fs gs : List Frac) (xs ys : List ℤ) (d e : ℕ) → AreSameFractions fs gs → AreScaled fs xs d → AreScaled gs ys e → (xs ≡ ys) × (d ≡ e)
scaled-once fs gs xs ys d e same a b = (
  ext_get_or (pos 0) xs ys (a.lengths ∙ (same.lengths ∙ sym b.lengths)) (λ j l.
      let m : j < length gs = omega (arith, l, a.lengths, same.lengths) in
      let found = slice_get-there gs j m in
      let f = found.0 in
      one (at xs j) (at ys j) f.den f.num f.positive ((over-same fs gs xs d same a.over).each j f m found.1) (b.over.each j f m found.1)),
  dens,
)
  where
    dens : d ≡ e
    dens = dvd_antisymm (a.least.least e (common-same gs fs e (same-back fs gs same) b.least.common)) (b.least.least d (common-same fs gs d same a.least.common))

    one : (v w f n : ℤ) → pos 0 <ℤ f → v *ℤ f ≡ n *ℤ pos d → w *ℤ f ≡ n *ℤ pos e → v ≡ w
    one v w f n l p q = mul-cancel_ℤ f v w l (mul_comm_ℤ f v ∙ (p ∙ (ap (λ (k : ℕ). n *ℤ pos k) dens ∙ (sym q ∙ mul_comm_ℤ w f))))

-- a solution that is scaled within the limits doesn't exceed them
solution-hits_limit : (p : LinearProgram) (allowed : ℕ) (numbers : List ℤ) (den : ℕ) → IsScaledSolution p allowed numbers den → ScaledSolutionExceeds p allowed → ⊥
solution-hits_limit p allowed numbers den s t =
    let same = (optimal-same p allowed s.k t.k s.point t.at s.basis t.basis s.ends t.ends).0 in
    t.exceeds numbers den (over-same s.point t.at numbers den same s.scaled.over)
    (record { each = λ j l. s.within.each j (let a = same.lengths in let b = s.scaled.lengths in omega (arith, l, a, b)) }) s.den_within

-- a dual that is scaled within the limit doesn't exceed it
dual-hits_limit : (p : LinearProgram) (allowed : ℕ) (numbers : List ℤ) (den : ℕ) → IsScaledDual p allowed numbers den → ScaledDualExceeds p allowed → ⊥
dual-hits_limit p allowed numbers den s t =
    let same = (infeasible-same p allowed s.k t.k s.dual t.dual s.ends t.ends).0 in
    t.exceeds numbers den (over-same s.dual t.dual numbers den same s.scaled.over)
    (record { each = λ j l. s.within.each j (let a = same.lengths in let b = s.scaled.lengths in omega (arith, l, a, b)) })

-- if the sequence ends as optimal, the only limit that it can hit is that of scaling
optimal-apart : (p : LinearProgram) (allowed k : ℕ) (fs : List Frac) (basis : List ℕ) → table_size p ≤ widest → EndsOptimally p allowed fs basis k → (c : Cause) → HitsLimit p allowed c
    → (c ≡ scale) × ScaledSolutionExceeds p allowed
optimal-apart p allowed k fs basis fits a (range m) t = absurd (range-apart p allowed k m a.last a.in_range (optimal-stops p allowed k fs basis a) t.1)
optimal-apart p allowed k fs basis fits a (budget m) t = absurd (budget-apart p allowed k a.last (optimal-last p a.last a.feasible a.done) (optimal-stops p allowed k fs basis a) t.2)
optimal-apart p allowed k fs basis fits a (wide n) t = absurd (let l = t.0 in omega arith)
optimal-apart p allowed k fs basis fits a scale (w, inl t) = (refl, t)
optimal-apart p allowed k fs basis fits a scale (w, inr t) = absurd (ends-apart p allowed k t.k fs basis t.dual a t.ends)

-- if the sequence ends as infeasible, the only limit that it can hit is that of scaling
infeasible-apart : (p : LinearProgram) (allowed k : ℕ) (fs : List Frac) → table_size p ≤ widest → EndsInfeasibly p allowed fs k → (c : Cause) → HitsLimit p allowed c
    → (c ≡ scale) × ScaledDualExceeds p allowed
infeasible-apart p allowed k fs fits a (range m) t = absurd (range-apart p allowed k m a.last a.in_range (infeasible-stops p allowed k fs a) t.1)
infeasible-apart p allowed k fs fits a (budget m) t = absurd (budget-apart p allowed k a.last (infeasible-last p a.last a.infeasible) (infeasible-stops p allowed k fs a) t.2)
infeasible-apart p allowed k fs fits a (wide n) t = absurd (let l = t.0 in omega arith)
infeasible-apart p allowed k fs fits a scale (w, inl t) = absurd (ends-apart p allowed t.k k t.at t.basis fs t.ends a)
infeasible-apart p allowed k fs fits a scale (w, inr t) = (refl, t)

-- a program hits limits of one cause only
pub causes-same : (p : LinearProgram) (allowed : ℕ) (c d : Cause) → HitsLimit p allowed c → HitsLimit p allowed d → c ≡ d
causes-same p allowed scale d (w, inl t) u = sym (optimal-apart p allowed t.k t.at t.basis w t.ends d u).0
causes-same p allowed scale d (w, inr t) u = sym (infeasible-apart p allowed t.k t.dual w t.ends d u).0
causes-same p allowed c scale t (w, inl u) = (optimal-apart p allowed u.k u.at u.basis w u.ends c t).0
causes-same p allowed c scale t (w, inr u) = (infeasible-apart p allowed u.k u.dual w u.ends c t).0
causes-same p allowed (range k) (range m) t u = ap range (stops-same p allowed k m t.1.last u.1.last (range-stops p allowed k t.1) (range-stops p allowed m u.1)).0
causes-same p allowed (range k) (budget m) t u = absurd (range-apart p allowed allowed k u.2.last u.2.in_range (budget-stops p allowed u.2) t.1)
causes-same p allowed (budget k) (range m) t u = absurd (range-apart p allowed allowed m t.2.last t.2.in_range (budget-stops p allowed t.2) u.1)
causes-same p allowed (budget k) (budget m) t u = ap budget (t.1 ∙ sym u.1)
causes-same p allowed (wide k) (wide m) t u = ap wide (t.1 ∙ sym u.1)
causes-same p allowed (wide k) (range m) t u = absurd (let l = t.0 in let i = u.0 in omega arith)
causes-same p allowed (wide k) (budget m) t u = absurd (let l = t.0 in let i = u.0 in omega arith)
causes-same p allowed (range k) (wide m) t u = absurd (let l = t.0 in let i = u.0 in omega arith)
causes-same p allowed (budget k) (wide m) t u = absurd (let l = t.0 in let i = u.0 in omega arith)

-- two answers in integers are the same
pub whole-same : (p : LinearProgram) (allowed : ℕ) (a b : Answer) → IsWholeAnswer p allowed a → IsWholeAnswer p allowed b → IsSameWholeAnswer a b
whole-same p allowed (Solution s) (Solution t) a b =
    scaled-once a.point b.point s.numbers.items t.numbers.items s.den t.den (optimal-same p allowed a.k b.k a.point b.point a.basis b.basis a.ends b.ends).0 a.scaled b.scaled
whole-same p allowed (Solution s) (Dual t) a b = ends-apart p allowed a.k b.k a.point a.basis b.dual a.ends b.ends
whole-same p allowed (Solution s) (OutOfLimits c) a b =
    solution-hits_limit p allowed s.numbers.items s.den a (optimal-apart p allowed a.k a.point a.basis a.fits a.ends (cause_of c) b).1
whole-same p allowed (Dual s) (Solution t) a b = ends-apart p allowed b.k a.k b.point b.basis a.dual b.ends a.ends
whole-same p allowed (Dual s) (Dual t) a b =
    scaled-once a.dual b.dual s.numbers.items t.numbers.items s.den t.den (infeasible-same p allowed a.k b.k a.dual b.dual a.ends b.ends).0 a.scaled b.scaled
whole-same p allowed (Dual s) (OutOfLimits c) a b = dual-hits_limit p allowed s.numbers.items s.den a (infeasible-apart p allowed a.k a.dual a.fits a.ends (cause_of c) b).1
whole-same p allowed (OutOfLimits c) (Solution t) a b =
    solution-hits_limit p allowed t.numbers.items t.den b (optimal-apart p allowed b.k b.point b.basis b.fits b.ends (cause_of c) a).1
whole-same p allowed (OutOfLimits c) (Dual t) a b = dual-hits_limit p allowed t.numbers.items t.den b (infeasible-apart p allowed b.k b.dual b.fits b.ends (cause_of c) a).1
whole-same p allowed (OutOfLimits c) (OutOfLimits d) a b = causes-same p allowed (cause_of c) (cause_of d) a b
