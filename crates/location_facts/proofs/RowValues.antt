-- The values of facts as rows and as goals.
use Rattle.std.proofs.Common.{◌≡◌, ℕ, zero, suc, ◌<◌, ◌≤◌, ap, arith, sym, ◌∙◌, List, length, map}
use Rattle.std.specs.Prelude.{ℤ, pos, negsuc, ◌+ℤ◌, ◌-ℤ◌, ◌*ℤ◌}
use Rattle.std.proofs.lemmas.Int.{ints}
use Rattle.poly_terms.proofs.int_laws.RingLaws.{mul_comm_ℤ}
use Rattle.poly_terms.proofs.int_laws.OrderLaws.{mul-sub_ℤ}
use Rattle.poly_terms.specs.linear_forms.Forms.{Form, at, list_dot, form_value}
use Rattle.poly_terms.specs.linear_forms.Combinations.{form_sum, zero_form}
use Rattle.poly_terms.specs.linear_forms.RuleQuestions.{opposite}
use Rattle.poly_terms.proofs.linear_forms.ColumnLaws.{get_or-map}
use Rattle.poly_terms.proofs.linear_forms.CombinationLaws.{form_value-sum, form_value-times}
use Rattle.poly_terms.proofs.linear_forms.SolutionLaws.{length-map}
use Rattle.poly_terms.specs.model.Runs.{Config, place_value}
use Rattle.cert_types.proofs.rule_forms.Rays.{unknown_form-value}
use Rattle.location_facts.specs.Rows.{value_before, value_after, lowered, margin}

-- the value of a form less a number
lowered-value : (f : Form) (k : ℤ) (z : ℕ → ℤ) (d : ℤ) → form_value (lowered f k) z d ≡ form_value f z d -ℤ k *ℤ d
lowered-value f k z d = regroup (list_dot f.coefs z) f.constant k d
  where
    regroup : (s c k d : ℤ) → s +ℤ (c -ℤ k) *ℤ d ≡ (s +ℤ c *ℤ d) -ℤ k *ℤ d
    regroup s c k d =
        omega (arith, ints, mul_comm_ℤ (c -ℤ k) d, mul-sub_ℤ d c k, mul_comm_ℤ d c, mul_comm_ℤ d k)

-- the margin of a fact is the value of its plus, less that of its minus, less its least
pub margin-value : (a b : Form) (k : ℤ) (z : ℕ → ℤ) (d : ℤ)
    → form_value (margin a b k) z d ≡ (form_value a z d -ℤ form_value b z d) -ℤ k *ℤ d
margin-value a b k z d =
    regroup (form_value (margin a b k) z d) (form_value (form_sum a (opposite b)) z d) (form_value a z d)
    (form_value (opposite b) z d) (form_value b z d) (k *ℤ d) (lowered-value (form_sum a (opposite b)) k z d)
    (form_value-sum a (opposite b) z d) (form_value-times (negsuc 0) b z d)
  where
    regroup : (e s a o b m : ℤ) → e ≡ s -ℤ m → s ≡ a +ℤ o → o ≡ negsuc 0 *ℤ b → e ≡ (a -ℤ b) -ℤ m
    regroup e s a o b m h g f = omega (arith, ints, h, g, f)

-- the form 0 has the value 0
zero-value : (d : ℤ) → pos 0 +ℤ pos 0 *ℤ d ≡ pos 0
zero-value d = omega (arith, ints)

-- at a point whose first unknowns are the values of a configuration, the value at a place before a rule is the
-- configuration's
pub before-value : (c : Config) (z : ℕ → ℤ) (d : ℤ) (i : ℕ)
    → ((j : ℕ) → j < length c.values → z j ≡ at c.values j) → i ≤ length c.values
    → form_value (value_before i) z d ≡ place_value c i
before-value c z d zero h l = zero-value d
before-value c z d (suc i) h l = unknown_form-value i z d ∙ h i (omega (arith, l))

-- at a point where the new values are those of a configuration, the value at a place after the rule is the
-- configuration's
pub after-value : (new_values : List Form) (c : Config) (z : ℕ → ℤ) (i : ℕ)
    → map (λ f. form_value f z (pos 1)) new_values ≡ c.values → i ≤ length c.values
    → form_value (value_after new_values i) z (pos 1) ≡ place_value c i
after-value new_values c z zero e l = zero-value (pos 1)
after-value new_values c z (suc i) e l =
    sym (get_or-map (λ f. form_value f z (pos 1)) new_values i (pos 0) zero_form low) ∙ ap (λ (xs : List ℤ). at xs i) e
  where
    low : i < length new_values
    low = let m = length-map (λ (f : Form). form_value f z (pos 1)) new_values in
        let n = ap (λ (xs : List ℤ). length xs) e in omega (arith, l, m, n)
