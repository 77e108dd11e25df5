-- A linear program has one solution or dual, and the rows of a rule have one answer.
use Rattle.std.proofs.Common.{◌≡◌, ℕ, ap, sym, ◌∙◌, List, length}
use Rattle.std.specs.Prelude.{ℤ, nat_abs}
use Rattle.poly_terms.specs.linear_forms.Causes.{cause_of}
use Rattle.poly_terms.specs.linear_forms.Forms.{at}
use Rattle.poly_terms.specs.linear_forms.LinearProgram.{LinearProgram}
use Rattle.poly_terms.specs.linear_forms.Questions.{listed}
use Rattle.cert_types.specs.guard_prep.Prepared.{Prepared}
use Rattle.lp_builder.specs.simplex_core.HitsLimit.{IsScaledSolution, IsScaledDual}
use Rattle.lp_builder.proofs.simplex_core.OneAnswer.{optimal-same, infeasible-same, ends-apart}
use Rattle.lp_builder.proofs.simplex_core.OneWholeAnswer.{scaled-once, causes-same}
use Rattle.cert_types.specs.cert_rules.Gaps.{ScaledPoint}
use Rattle.cert_types.specs.declared.answer.GuardFeasibility.{GuardFeasibility}
use Rattle.cert_types.specs.declared.answer.GuardFeasibility.TheVariants as empties
use Rattle.cert_types.specs.AnswerViews.{scaled_of}
use Rattle.rule_questions.specs.EmptyAnswers.{IsEmptyAnswer, empty_program}
use Rattle.rule_questions.specs.OneEmptyAnswer.{IsSameEmptyAnswer, EmptyAnswersAreOne}

-- solutions of a linear program are equal, and so are duals; and no program has both
module _ (p : LinearProgram) (pivots : ℕ) (xs ys : List ℤ) (d e : ℕ) where
  -- two integer solutions of a linear program are equal, with their denominators
  pub solution-once : IsScaledSolution p pivots xs d → IsScaledSolution p pivots ys e → (xs ≡ ys) × (d ≡ e)
  solution-once a b =
      scaled-once a.point b.point xs ys d e
      (optimal-same p pivots a.k b.k a.point b.point a.basis b.basis a.ends b.ends).0 a.scaled b.scaled

  -- two integer duals of a linear program are equal, with their denominators
  pub dual-once : IsScaledDual p pivots xs d → IsScaledDual p pivots ys e → (xs ≡ ys) × (d ≡ e)
  dual-once a b = scaled-once a.dual b.dual xs ys d e
      (infeasible-same p pivots a.k b.k a.dual b.dual a.ends b.ends).0 a.scaled b.scaled

  -- no linear program ends at a solution and at a dual
  pub apart : IsScaledSolution p pivots xs d → IsScaledDual p pivots ys e → ⊥
  apart a b = ends-apart p pivots a.k b.k a.point a.basis b.dual a.ends b.ends

-- points with the same numbers are equal
point_with : List ℤ → ℕ → ScaledPoint
point_with parts den = record { parts = parts; den = den }

point-same : (z w : ScaledPoint) → z.parts ≡ w.parts → z.den ≡ w.den → z ≡ w
unfolding point_with
point-same z w e f = ap (λ (ps : List ℤ). point_with ps z.den) e ∙ ap (λ (d : ℕ). point_with w.parts d) f

-- two answers to whether rows have a point are the same
empties-once : (m : Prepared) (rule pivots : ℕ) (a b : GuardFeasibility) → IsEmptyAnswer m rule pivots a
    → IsEmptyAnswer m rule pivots b
    → IsSameEmptyAnswer a b
empties-once m rule pivots (empties.Empty n) (empties.Empty k) g h = (
  g.0.numbered ∙ sym h.0.numbered,
  g.2.read
      ∙ (ap (λ (xs : List ℤ). listed (length m.rows) (λ j. nat_abs (at xs j)))
      (solution-once (empty_program m) pivots g.2.numbers h.2.numbers g.2.den h.2.den g.2.solution h.2.solution).0
      ∙ sym h.2.read),
)
empties-once m rule pivots (empties.Empty n) (empties.Point z) g h =
    apart (empty_program m) pivots g.2.numbers h.2.numbers g.2.den h.2.den g.2.solution h.2.dual
empties-once m rule pivots (empties.Empty n) (empties.OutOfLimits t) g h = g.1.each (cause_of t.cause) h.1
empties-once m rule pivots (empties.Point z) (empties.Empty n) g h =
    apart (empty_program m) pivots h.2.numbers g.2.numbers h.2.den g.2.den h.2.solution g.2.dual
empties-once m rule pivots (empties.Point z) (empties.Point w) g h =
    let e = (dual-once (empty_program m) pivots g.2.numbers h.2.numbers g.2.den h.2.den g.2.dual h.2.dual).0 in
    point-same (scaled_of z) (scaled_of w)
    (g.2.parts ∙ (ap (λ (xs : List ℤ). listed m.unknowns (at xs)) e ∙ sym h.2.parts))
    (g.2.over ∙ (ap (λ (xs : List ℤ). nat_abs (at xs m.unknowns)) e ∙ sym h.2.over))
empties-once m rule pivots (empties.Point z) (empties.OutOfLimits t) g h = g.1.each (cause_of t.cause) h.1
empties-once m rule pivots (empties.OutOfLimits t) (empties.Empty n) g h = h.1.each (cause_of t.cause) g.1
empties-once m rule pivots (empties.OutOfLimits t) (empties.Point z) g h = h.1.each (cause_of t.cause) g.1
empties-once m rule pivots (empties.OutOfLimits t) (empties.OutOfLimits u) g h =
    (g.0 ∙ sym h.0, causes-same (empty_program m) pivots (cause_of t.cause) (cause_of u.cause) g.1 h.1)

-- for a rule's rows and a number of pivots, there is one answer to whether they have a point
pub empties-one : EmptyAnswersAreOne
empties-one = record { each = empties-once }
