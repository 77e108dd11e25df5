-- A dual of a kind's program shows that no form of this kind is a bound.
use Rattle.std.proofs.Common.{◌≡◌, ℕ, ◌<◌, ◌≤◌, ap, arith, refl, sym, ◌∙◌, subst, List, [], ◌∷◌, ◌⊎◌, inl, inr}
use Rattle.std.proofs.Common.{if◌then◌else◌}
use Rattle.std.specs.Prelude.{ℤ, pos, ◌+ℤ◌, ◌*ℤ◌, neg_ℤ, nat_lt, ◌≤ℤ◌}
use Rattle.std.specs.List.{All}
use Rattle.std.proofs.lemmas.Int.{ints}
use Rattle.std.proofs.lemmas.Bool.{cases_lt, lt-ltb, le-ltb}
use Rattle.std.proofs.lemmas.List.Elements.{All-cons, All-nil}
use Rattle.linear_forms.proofs.int_laws.RingLaws.{mul-zero_ℤ, neg-mul_ℤ}
use Rattle.linear_forms.specs.Forms.{Form, at, form_value}
use Rattle.linear_forms.specs.Points.{IsPoint}
use Rattle.linear_forms.specs.Combinations.{form_times}
use Rattle.linear_forms.specs.LinearProgram.{IsDual}
use Rattle.linear_forms.specs.Questions.{Group, goal_at, listed, program_of_question}
use Rattle.linear_forms.specs.QuestionLaws.{HoldOnPoints, HavePoints, elements_of}
use Rattle.linear_forms.specs.RuleQuestions.{RuleForms, before_rule}
use Rattle.linear_forms.proofs.CombinationLaws.{at-times, form_value-sum, form_value-times}
use Rattle.linear_forms.proofs.ElementLaws.{dual-refutes}
use Rattle.linear_forms.proofs.RefutationLaws.{refuted-has_none}
use Rattle.rule_forms.specs.Kinds.{Kind, Number, Argument, Affine, unit_of, IsOfKind, AreSame}
use Rattle.rule_forms.specs.Bounds.{IsAbove, HasNone}
use Rattle.rule_forms.specs.Questions.{question_of, form_of, excess, IsKindOf, Fits}
use Rattle.rule_forms.specs.Laws.{HasPoint}
use Rattle.rule_forms.proofs.Forms.{at-zeros, at-listed, at-past, value-same}
use Rattle.rule_forms.proofs.GoalForms.{group_of, goal-excess, argument_coef, argument_constant}
use Rattle.rule_forms.proofs.Shapes.{question-shaped}

-- the parameters that represent a form of this kind
abbrev pub parameters_for : ℕ → Kind → Form → ℕ → ℤ
parameters_for left Number h p = h.constant
parameters_for left (Argument place sign) h p = pos 0
parameters_for left Affine h p = if nat_lt p left then at h.coefs p else h.constant

-- these parameters represent the form
pub stand-for : (left : ℕ) (kind : Kind) (h : Form) (e : ℕ) → IsKindOf left kind → IsOfKind left kind h e
    → AreSame (form_of left kind (parameters_for left kind h) (pos e)) h
stand-for left Number h e k is = record { coefs = λ u. at-zeros left u ∙ sym (is u); constant = refl }
stand-for left (Argument place sign) h e k is = record {
  coefs = λ u. argument_coef left place (pos e *ℤ unit_of sign) u k.0 k.1
      ∙ sym (is.coefs u ∙ at-times (pos e *ℤ unit_of sign) (before_rule place).coefs u);
  constant = sym (is.constant ∙ mul-zero_ℤ (pos e *ℤ unit_of sign) _ (argument_constant place k.0));
}
stand-for left Affine h e k is = record {
  coefs = λ u. go u (cases_lt u left);
  constant = ap (λ b. if b then at h.coefs left else h.constant) (le-ltb left left (omega arith));
}
  where
    own : ℕ → ℤ
    own p = if nat_lt p left then at h.coefs p else h.constant

    go : (u : ℕ) → (u < left) ⊎ (left ≤ u) → at (listed left own) u ≡ at h.coefs u
    go u (inl l) = at-listed left own u l ∙ ap (λ b. if b then at h.coefs u else h.constant) (lt-ltb u left l)
    go u (inr l) = at-past left own u l ∙ sym (is u l)

-- a kind's question has one group
pub groups-are : (r : RuleForms) (w : Form) (kind : Kind) → (question_of r w kind).groups ≡ group_of r w kind ∷ []
groups-are r w Number = refl
groups-are r w (Argument place sign) = refl
groups-are r w Affine = refl

-- a property of that group holds of each group
pub of-groups : (P : Group → Type 0) (r : RuleForms) (w : Form) (kind : Kind) → P (group_of r w kind)
    → All P (question_of r w kind).groups
of-groups P r w kind h =
    subst (λ (gs : List Group). All P gs) (sym (groups-are r w kind)) (All-cons P (group_of r w kind) [] h (All-nil P))

-- if the rule has a point, each group has one
pub have-points : (r : RuleForms) (w : Form) (kind : Kind) → HasPoint r.rows → HavePoints (question_of r w kind)
have-points r w kind point = record {
  each = of-groups (λ g. (z : ℕ → ℤ) × (d : ℤ) × IsPoint g.rows z d) r w kind (point.z, point.d, point.point);
}

-- the value of the excess of a form over w
pub excess-value : (g : Form) (q : ℤ) (w : Form) (z : ℕ → ℤ) (d : ℤ)
    → form_value (excess g q w) z d ≡ form_value g z d +ℤ neg_ℤ (q *ℤ form_value w z d)
excess-value g q w z d =
    form_value-sum g (form_times (neg_ℤ q) w) z d
    ∙ ap (λ (y : ℤ). form_value g z d +ℤ y) (form_value-times (neg_ℤ q) w z d ∙ neg-mul_ℤ q (form_value w z d))

-- a form that is at least w makes the goal at least 0 on all points
pub above-holds : (r : RuleForms) (w : Form) (kind : Kind) (h : Form) (e : ℕ) → 1 ≤ e → IsKindOf r.left kind
    → IsOfKind r.left kind h e
    → IsAbove r.rows w h e → HoldOnPoints (question_of r w kind) (parameters_for r.left kind h) (pos e)
above-holds r w kind h e l k is above = record {
  denominator = omega (arith, ints, l);
  each =
      of-groups (λ g. (z : ℕ → ℤ) (d : ℤ) → IsPoint g.rows z d → pos 0 ≤ℤ form_value (goal_at g v (pos e)) z d) r w kind
      (λ z d point. at_least _ _ _ (whole z d) (above.each z d point));
}
  where
    v : ℕ → ℤ
    v = parameters_for r.left kind h

    whole : (z : ℕ → ℤ) (d : ℤ) → form_value (goal_at (group_of r w kind) v (pos e)) z d
        ≡ form_value h z d +ℤ neg_ℤ (pos e *ℤ form_value w z d)
    whole z d =
        value-same _ _ z d (goal-excess r w kind v (pos e) k)
        ∙ (excess-value (form_of r.left kind v (pos e)) (pos e) w z d
        ∙ ap (λ (y : ℤ). y +ℤ neg_ℤ (pos e *ℤ form_value w z d)) (value-same _ h z d (stand-for r.left kind h e k is)))

    at_least : (s a b : ℤ) → s ≡ b +ℤ neg_ℤ a → a ≤ℤ b → pos 0 ≤ℤ s
    at_least s a b f m = omega (arith, ints, f, m)

-- if the program has a dual, no form of the kind is at least w
pub dual-excludes : (r : RuleForms) (w : Form) (kind : Kind) (y : ℕ → ℤ) → Fits r w → IsKindOf r.left kind
    → HasPoint r.rows
    → IsDual (program_of_question (question_of r w kind)) y → HasNone r.rows r.left w kind
dual-excludes r w kind y fits k point dual = record {
  each = λ h e l is above.
      refuted-has_none (question_of r w kind) (elements_of y (question_of r w kind).groups)
      (question-shaped r w kind fits k)
      (dual-refutes (question_of r w kind) y (question-shaped r w kind fits k) dual)
      (have-points r w kind point) (parameters_for r.left kind h) (pos e) (above-holds r w kind h e l k is above);
}
