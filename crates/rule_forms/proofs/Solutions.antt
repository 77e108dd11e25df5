-- Solutions of a kind's program, and the forms that they give.
use Rattle.std.proofs.Common.{◌≡◌, ℕ, ap, arith, sym, ◌∙◌, List}
use Rattle.std.specs.Prelude.{ℤ, pos, negsuc, ◌+ℤ◌, ◌*ℤ◌, neg_ℤ, nat_abs, ◌≤ℤ◌, ◌<ℤ◌}
use Rattle.std.proofs.lemmas.Int.{ints}
use Rattle.linear_forms.proofs.int_laws.RingLaws.{mul-zero_ℤ, neg-mul_ℤ}
use Rattle.linear_forms.specs.Forms.{Form, form_value}
use Rattle.linear_forms.specs.Points.{IsPoint}
use Rattle.linear_forms.specs.Certificates.{Implies}
use Rattle.linear_forms.specs.Combinations.{form_times}
use Rattle.linear_forms.specs.LinearProgram.{IsSolution}
use Rattle.linear_forms.specs.Questions.{program_of_question}
use Rattle.linear_forms.specs.QuestionLaws.{parameters_of}
use Rattle.linear_forms.specs.RuleQuestions.{RuleForms, before_rule}
use Rattle.linear_forms.proofs.SolutionLaws.{solution-solves}
use Rattle.linear_forms.proofs.CombinationLaws.{at-times, form_value-sum, form_value-times}
use Rattle.linear_forms.proofs.CertificateLaws.{implied_on_points}
use Rattle.rule_forms.specs.Kinds.{Kind, Number, Argument, Affine, unit_of, IsOfKind}
use Rattle.rule_forms.specs.Bounds.{IsAbove}
use Rattle.rule_forms.specs.Questions.{question_of, form_of, excess, IsKindOf, Fits}
use Rattle.rule_forms.specs.Laws.{solved_form, solved_multipliers}
use Rattle.rule_forms.proofs.Forms.{at-zeros, at-past, implies-same}
use Rattle.rule_forms.proofs.GoalForms.{goal-excess, argument_coef, argument_constant}
use Rattle.rule_forms.proofs.Shapes.{question-shaped}

-- the multipliers show that the form that the parameters represent is at least w
pub solution-shows : (r : RuleForms) (w : Form) (kind : Kind) (x : ℕ → ℤ) (d : ℤ) → Fits r w → IsKindOf r.left kind
    → IsSolution (program_of_question (question_of r w kind)) x d
    → Implies r.rows (solved_multipliers r w kind x) (excess (solved_form r kind x d) d w)
solution-shows r w Number x d fits k solution =
    implies-same r.rows _ _ _ (goal-excess r w Number (parameters_of x) d k)
    (solution-solves (question_of r w Number) x d (question-shaped r w Number fits k) solution).0
solution-shows r w (Argument place sign) x d fits k solution =
    implies-same r.rows _ _ _ (goal-excess r w (Argument place sign) (parameters_of x) d k)
    (solution-solves (question_of r w (Argument place sign)) x d
    (question-shaped r w (Argument place sign) fits k) solution).0
solution-shows r w Affine x d fits k solution =
    implies-same r.rows _ _ _ (goal-excess r w Affine (parameters_of x) d k)
    (solution-solves (question_of r w Affine) x d (question-shaped r w Affine fits k) solution).0

-- the form of a kind over d is of this kind
pub form-of_kind : (left : ℕ) (kind : Kind) (v : ℕ → ℤ) (d : ℤ) → IsKindOf left kind → pos 0 <ℤ d
    → IsOfKind left kind (form_of left kind v d) (nat_abs d)
form-of_kind left Number v d k l = λ u. at-zeros left u
form-of_kind left (Argument place sign) v (negsuc n) k l = absurd (omega (arith, ints, l))
form-of_kind left (Argument place sign) v (pos n) k l = record {
  coefs = λ u. argument_coef left place (pos n *ℤ unit_of sign) u k.0 k.1
      ∙ sym (at-times (pos n *ℤ unit_of sign) (before_rule place).coefs u);
  constant = sym (mul-zero_ℤ (pos n *ℤ unit_of sign) _ (argument_constant place k.0));
}
form-of_kind left Affine v d k l = λ u m. at-past left v u m

-- a form that is shown to be at least w is at least w on each point
pub implied-above : (rows : List Form) (multipliers : List ℕ) (w g : Form) (q : ℕ)
    → Implies rows multipliers (excess g (pos q) w) → IsAbove rows w g q
implied-above rows ms w g q implies = record {
  each = λ z d point. below _ _ (value z d) (implied z d point);
}
  where
    implied : (z : ℕ → ℤ) (d : ℤ) → IsPoint rows z d → pos 0 ≤ℤ form_value (excess g (pos q) w) z d
    implied z d point = implied_on_points rows ms (excess g (pos q) w) implies z d point

    value : (z : ℕ → ℤ) (d : ℤ) → form_value (excess g (pos q) w) z d
        ≡ form_value g z d +ℤ neg_ℤ (pos q *ℤ form_value w z d)
    value z d = form_value-sum g (form_times (neg_ℤ (pos q)) w) z d
        ∙ ap (λ (y : ℤ). form_value g z d +ℤ y) (form_value-times (neg_ℤ (pos q)) w z d ∙ neg-mul_ℤ (pos q)
        (form_value w z d))

    below : (e a : ℤ) → {b : ℤ} → e ≡ b +ℤ neg_ℤ a → pos 0 ≤ℤ e → a ≤ℤ b
    below e a {b} h l = omega (arith, ints, h, l)
