-- A dual of the program of any affine form is a ray along which only the new value increases.
use Rattle.std.proofs.Common.{◌≡◌, ℕ, zero, suc, ◌+◌, ◌<◌, ◌≤◌, ap, arith, refl, ◌∙◌, subst, List, [], ◌∷◌, ◌++◌}
use Rattle.std.proofs.Common.{length, ◌⊎◌, inl, inr}
use Rattle.std.specs.Prelude.{ℤ, pos, negsuc, ◌+ℤ◌, ◌*ℤ◌, neg_ℤ, slice_index_or, ◌≤ℤ◌, ◌<ℤ◌}
use Rattle.std.specs.List.{range_with_len}
use Rattle.std.proofs.lemmas.Int.{ints}
use Rattle.std.proofs.lemmas.Bool.{cases_lt}
use Rattle.linear_forms.proofs.int_laws.RingLaws.{mul-zero_ℤ, zero-mul_ℤ}
use Rattle.linear_forms.proofs.int_laws.OrderLaws.{mul-positive_ℤ}
use Rattle.linear_forms.specs.Forms.{Form, at, list_dot, form_value}
use Rattle.linear_forms.specs.Points.{Meets}
use Rattle.linear_forms.specs.Combinations.{form_sum, zero_form}
use Rattle.linear_forms.specs.LinearProgram.{IsDual}
use Rattle.linear_forms.specs.Questions.{program_of_question}
use Rattle.linear_forms.specs.QuestionLaws.{Refutes, elements_of}
use Rattle.linear_forms.specs.RuleQuestions.{RuleForms, before_rule, unknown_form, opposite}
use Rattle.linear_forms.proofs.CombinationLaws.{form_value-sum, form_value-times}
use Rattle.linear_forms.proofs.ElementLaws.{dual-refutes}
use Rattle.linear_forms.proofs.RefutationLaws.{element-value}
use Rattle.rule_forms.specs.Kinds.{Affine}
use Rattle.rule_forms.specs.Bounds.{HasNone, IsUnboundedRay}
use Rattle.rule_forms.specs.Questions.{question_of, excess, Fits}
use Rattle.rule_forms.specs.Laws.{HasPoint}
use Rattle.rule_forms.proofs.Combined.{arguments_and_one}
use Rattle.rule_forms.proofs.Shapes.{question-shaped}
use Rattle.rule_forms.proofs.Exclusion.{excess-value}

-- the value of an unknown's coefficients is the unknown's numerator
unknown-value : (i : ℕ) (z : ℕ → ℤ) → list_dot (unknown_form i).coefs z ≡ z i
unknown-value zero z = one (z 0)
  where
    one : (x : ℤ) → pos 1 *ℤ x +ℤ pos 0 ≡ x
    one x = omega (arith, ints)
unknown-value (suc i) z = behind (z 0) _ _ (unknown-value i (λ j. z (suc j)))
  where
    behind : (x r w : ℤ) → r ≡ w → pos 0 *ℤ x +ℤ r ≡ w
    behind x r w e = omega (arith, ints, e)

-- the value of the form of an unknown, whose constant is 0
pub unknown_form-value : (i : ℕ) (z : ℕ → ℤ) (d : ℤ) → form_value (unknown_form i) z d ≡ z i
unknown_form-value i z d = plus _ _ (unknown-value i z)
  where
    plus : (a b : ℤ) → a ≡ b → a +ℤ pos 0 *ℤ d ≡ b
    plus a b e = omega (arith, ints, e)

-- the value of the goal form of an argument is its unknown
goal-argument : (b a n k u : ℕ) (z : ℕ → ℤ) (d : ℤ) → b ≡ suc a → k < n → a + k ≡ u
    → form_value (slice_index_or (arguments_and_one b n) k zero_form) z d ≡ z u
goal-argument b a zero k u z d s l e = absurd (omega (arith, l))
goal-argument b a (suc n) zero u z d s l e =
    ap (λ (p : ℕ). form_value (before_rule p) z d) s ∙ (unknown_form-value a z d ∙ ap z (omega (arith, e)))
goal-argument b a (suc n) (suc k) u z d s l e =
    goal-argument (b + 1) (suc a) n k u z d (omega (arith, s)) (omega (arith, l)) (omega (arith, e))

-- the value of the last goal form is the denominator
goal-one : (b n : ℕ) (z : ℕ → ℤ) (d : ℤ) → form_value (slice_index_or (arguments_and_one b n) n zero_form) z d ≡ d
goal-one b zero z d = one d
  where
    one : (x : ℤ) → pos 0 +ℤ pos 1 *ℤ x ≡ x
    one x = omega (arith, ints)
goal-one b (suc n) z d = goal-one (b + 1) n z d

-- there is one more goal form than there are arguments
count-goals : (b n : ℕ) → length (range_with_len b n ++ 0 ∷ []) ≡ suc n
count-goals b zero = refl
count-goals b (suc n) = ap (λ (m : ℕ). suc m) (count-goals (b + 1) n)

-- a dual of the program refutes the question
refuted : (r : RuleForms) (w : Form) (y : ℕ → ℤ) → Fits r w → IsDual (program_of_question (question_of r w Affine)) y
    → Refutes (question_of r w Affine) (elements_of y (question_of r w Affine).groups)
refuted r w y fits dual = dual-refutes (question_of r w Affine) y (question-shaped r w Affine fits tt) dual

-- the denominator of a dual is 0
pub dual-ends : (r : RuleForms) (w : Form) (y : ℕ → ℤ) → Fits r w
    → IsDual (program_of_question (question_of r w Affine)) y
    → y r.unknowns ≡ pos 0
dual-ends r w y fits dual =
    alone _ _ (goal-one 1 r.left y (y r.unknowns)) ((refuted r w y fits dual).balanced r.left
    (omega (arith, count-goals 1 r.left)))
  where
    alone : (t d : ℤ) → t ≡ d → t +ℤ pos 0 ≡ pos 0 → d ≡ pos 0
    alone t d e f = omega (arith, ints, e, f)

-- the value of the fixed form is the negated value of w
fixed-value : (w : Form) (z : ℕ → ℤ) (d : ℤ) → form_value (form_sum zero_form (opposite w)) z d
    ≡ neg_ℤ (form_value w z d)
fixed-value w z d =
    form_value-sum zero_form (opposite w) z d ∙ (ap (λ (y : ℤ). form_value zero_form z d +ℤ y)
    (form_value-times (negsuc 0) w z d) ∙ negated d _)
  where
    negated : (d v : ℤ) → (pos 0 +ℤ pos 0 *ℤ d) +ℤ negsuc 0 *ℤ v ≡ neg_ℤ v
    negated d v = omega (arith, ints)

-- a dual is a ray along which w increases and no left argument changes
pub dual-is-ray : (r : RuleForms) (w : Form) (y : ℕ → ℤ) → Fits r w
    → IsDual (program_of_question (question_of r w Affine)) y
    → IsUnboundedRay r.rows r.left w y
dual-is-ray r w y fits dual = record {
  ray = subst (λ (d : ℤ). Meets r.rows y d) (dual-ends r w y fits dual) refutes.elements.0.1;
  still = λ j l. alone _ _ (goal-argument 1 0 r.left j j y (y r.unknowns) refl l (omega arith))
      (refutes.balanced j (omega (arith, l, count-goals 1 r.left)));
  rises =
      subst (λ (d : ℤ). pos 0 <ℤ form_value w y d) (dual-ends r w y fits dual)
      (above _ _ (fixed-value w y (y r.unknowns)) refutes.below);
}
  where
    refutes : Refutes (question_of r w Affine) (elements_of y (question_of r w Affine).groups)
    refutes = refuted r w y fits dual

    alone : (t d : ℤ) → t ≡ d → t +ℤ pos 0 ≡ pos 0 → d ≡ pos 0
    alone t d e f = omega (arith, ints, e, f)

    above : (t v : ℤ) → t ≡ neg_ℤ v → (t +ℤ pos 0) <ℤ pos 0 → pos 0 <ℤ v
    above t v e l = omega (arith, ints, e, l)

-- a form in unknowns that are 0 along a ray doesn't change along it
pub unmoved : (xs : List ℤ) (z : ℕ → ℤ) → ((u : ℕ) → at xs u *ℤ z u ≡ pos 0) → list_dot xs z ≡ pos 0
unmoved [] z h = refl
unmoved (x ∷ xs) z h = none _ _ (h 0) (unmoved xs (λ j. z (suc j)) (λ u. h (suc u)))
  where
    none : (a b : ℤ) → a ≡ pos 0 → b ≡ pos 0 → a +ℤ b ≡ pos 0
    none a b e f = omega (arith, ints, e, f)

-- if there is such a ray, and a point, no affine form is at least w
pub unbounded-has-none : (rows : List Form) (left : ℕ) (w : Form) (z : ℕ → ℤ) → HasPoint rows → IsUnboundedRay rows left w z
    → HasNone rows left w Affine
unbounded-has-none rows left w z point unbounded = record {
  each = λ h e l is above. clash h e l is (element-value rows (excess h (pos e) w) z (pos 0)
      (λ y d p. at_least _ _ _ (excess-value h (pos e) w y d) (above.each y d p))
      (point.z, point.d, point.point) (omega (arith, ints)) unbounded.ray);
}
  where
    at_least : (s a b : ℤ) → s ≡ b +ℤ neg_ℤ a → a ≤ℤ b → pos 0 ≤ℤ s
    at_least s a b f m = omega (arith, ints, f, m)

    still : (h : Form) → ((u : ℕ) → left ≤ u → at h.coefs u ≡ pos 0) → (u : ℕ) → (u < left) ⊎ (left ≤ u)
        → at h.coefs u *ℤ z u ≡ pos 0
    still h is u (inl l) = mul-zero_ℤ _ _ (unbounded.still u l)
    still h is u (inr l) = zero-mul_ℤ _ _ (is u l)

    flat : (h : Form) → ((u : ℕ) → left ≤ u → at h.coefs u ≡ pos 0) → form_value h z (pos 0) ≡ pos 0
    flat h is = none _ _ (unmoved h.coefs z (λ u. still h is u (cases_lt u left))) (mul-zero_ℤ h.constant (pos 0) refl)
      where
        none : (a b : ℤ) → a ≡ pos 0 → b ≡ pos 0 → a +ℤ b ≡ pos 0
        none a b e f = omega (arith, ints, e, f)

    clash : (h : Form) (e : ℕ) → 1 ≤ e → ((u : ℕ) → left ≤ u → at h.coefs u ≡ pos 0)
        → pos 0 ≤ℤ form_value (excess h (pos e) w) z (pos 0) → ⊥
    clash h e l is m =
        below _ _ _ (excess-value h (pos e) w z (pos 0)) (flat h is) m
        (mul-positive_ℤ (pos e) _ (omega (arith, ints, l)) unbounded.rises)
      where
        below : (s a b : ℤ) → s ≡ a +ℤ neg_ℤ b → a ≡ pos 0 → pos 0 ≤ℤ s → pos 0 <ℤ b → ⊥
        below s a b f g m n = omega (arith, ints, f, g, m, n)
