-- The values of differences of forms, and of forms after a rule.
use Rattle.std.proofs.Common.{◌≡◌, ℕ, suc, ◌<◌, List, [], ◌∷◌, map, length, refl, sym, ap, ◌∙◌, arith}
use Rattle.std.specs.Prelude.{ℤ, pos, negsuc, ◌+ℤ◌, ◌-ℤ◌, ◌*ℤ◌}
use Rattle.std.proofs.lemmas.Int.{ints}
use Rattle.rule_forms.proofs.int_laws.RingLaws.{mul-zero_ℤ, mul_comm_ℤ}
use Rattle.rule_forms.specs.linear_forms.Forms.{Form, at, list_dot, form_value}
use Rattle.rule_forms.specs.linear_forms.Combinations.{form_times, combination, less}
use Rattle.rule_forms.proofs.linear_forms.CombinationLaws.{form_value-sum, form_value-times, form_value-combination}
use Rattle.rule_forms.specs.linear_forms.Losses.{at_new_values}
use Rattle.cert_rules.specs.Combined.{form_at}
use Rattle.rule_forms.specs.linear_forms.RuleQuestions.{constant_form}

-- the products with two lists of values agree if the values agree at all coefficients
pub dot-same : (xs : List ℤ) (z w : ℕ → ℤ) → ((i : ℕ) → i < length xs → z i ≡ w i) → list_dot xs z ≡ list_dot xs w
dot-same [] z w h = refl
dot-same (x ∷ xs) z w h =
    regroup _ _ _ _ (ap (λ (v : ℤ). x *ℤ v) (h 0 (omega arith)))
    (dot-same xs (λ i. z (suc i)) (λ i. w (suc i)) (λ i l. h (suc i) (omega arith)))
  where
    regroup : (a b s t : ℤ) → a ≡ b → s ≡ t → a +ℤ s ≡ b +ℤ t
    regroup a b s t e f = omega (arith, ints)

-- the product of coefficients with values that are all 0 is 0
pub dot-zeros : (xs : List ℤ) (z : ℕ → ℤ) → ((i : ℕ) → z i ≡ pos 0) → list_dot xs z ≡ pos 0
dot-zeros [] z h = refl
dot-zeros (x ∷ xs) z h = both _ _ (mul-zero_ℤ x (z 0) (h 0)) (dot-zeros xs (λ i. z (suc i)) (λ i. h (suc i)))
  where
    both : (a b : ℤ) → a ≡ pos 0 → b ≡ pos 0 → a +ℤ b ≡ pos 0
    both a b e f = omega (arith, ints)

-- the value of a constant form is its constant times d
pub value-number : (k : ℤ) (z : ℕ → ℤ) (d : ℤ) → form_value (constant_form k) z d ≡ k *ℤ d
value-number k z d = plus _
  where
    plus : (v : ℤ) → pos 0 +ℤ v ≡ v
    plus v = omega (arith, ints)

-- the value of a difference of forms is the difference of their values
pub value-less : (f g : Form) (z : ℕ → ℤ) (d : ℤ) → form_value (less f g) z d ≡ form_value f z d -ℤ form_value g z d
value-less f g z d = regroup _ _ _ _ (form_value-sum f (form_times (negsuc 0) g) z d)
    (form_value-times (negsuc 0) g z d)
  where
    regroup : (s a m b : ℤ) → s ≡ a +ℤ m → m ≡ negsuc 0 *ℤ b → s ≡ a -ℤ b
    regroup s a m b e f = omega (arith, ints)

-- past the end of a list of forms the form is 0
zero_at : (z : ℕ → ℤ) (d : ℤ) (i : ℕ) → form_value (form_at [] i) z d ≡ pos 0
zero_at z d i = value-number (pos 0) z d ∙ times d
  where
    times : (d : ℤ) → pos 0 *ℤ d ≡ pos 0
    times d = omega (arith, ints)

-- the value of a combination of forms is the combination of their values
dot-turned : (fs : List Form) (cs : List ℤ) (z : ℕ → ℤ) (d : ℤ)
    → list_dot (map (λ f. form_value f z d) fs) (at cs) ≡ list_dot cs (λ i. form_value (form_at fs i) z d)
dot-turned [] cs z d = sym (dot-zeros cs (λ i. form_value (form_at [] i) z d) (zero_at z d))
dot-turned (f ∷ fs) [] z d = dot-zeros (map (λ g. form_value g z d) (f ∷ fs)) (at []) (λ i. refl)
dot-turned (f ∷ fs) (c ∷ cs) z d = both _ _ _ _ (mul_comm_ℤ (form_value f z d) c) (dot-turned fs cs z d)
  where
    both : (a b s t : ℤ) → a ≡ b → s ≡ t → a +ℤ s ≡ b +ℤ t
    both a b s t e f = omega (arith, ints)

-- the value of a form after a rule is its value at the new values
pub value-after : (f : Form) (new_values : List Form) (z : ℕ → ℤ) (d : ℤ)
    → form_value (at_new_values f new_values) z d ≡ form_value f (λ i. form_value (form_at new_values i) z d) d
value-after f new_values z d =
    regroup _ _ _ _ _ (form_value-sum (combination new_values (at f.coefs)) (constant_form f.constant) z d)
    (form_value-combination new_values (at f.coefs) z d ∙ dot-turned new_values f.coefs z d) (value-number f.constant z d)
  where
    regroup : (s a m b t : ℤ) → s ≡ a +ℤ m → a ≡ b → m ≡ t → s ≡ b +ℤ t
    regroup s a m b t e f g = omega (arith, ints)
