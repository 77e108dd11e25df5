-- A form over a denominator, read as a bound, is at least the form's value.
use Rattle.std.proofs.Common.{◌≡◌, ◌≢◌, ℕ, suc, ◌+◌, ◌*◌, ◌≤◌, Bool, true, false, List, [], ◌∷◌, refl, sym, ap, subst}
use Rattle.std.proofs.Common.{arith, mul-le-mul, mul_assoc, mul-add, add-mul}
use Rattle.std.specs.Prelude.{ℤ, pos, negsuc, ◌+ℤ◌, ◌*ℤ◌, ◌≤ℤ◌, nat_abs}
use Rattle.std.proofs.lemmas.Int.{ints}
use Rattle.std.proofs.lemmas.Bool.{true≢false}
use Rattle.rule_forms.specs.int_laws.NormalForm.{is_zero}
use Rattle.run_counting.specs.model.Bounds.{Bound, val, val_sum}
use Rattle.rule_forms.specs.linear_forms.Forms.{Form, at, list_dot, form_value}
use Rattle.rule_forms.specs.Bounds.{height}
use Rattle.cert_rules.specs.Numbers.{rounded_up}
use Rattle.cert_rules.specs.Composed.{place_parts, rest_bound, form_bound, no_place}
use Rattle.cert_rules.specs.ComposedSizes.{inner_sum}
pub use Rattle.rule_forms.proofs.int_laws.ZeroLaws.{is_zero-true as zero_of_test, is_zero-false as not_zero_of_test}

-- a product is at most the product of the absolute values
pub product-at_most : (c z : ℤ) → (c *ℤ z) ≤ℤ pos (nat_abs c * nat_abs z)
product-at_most (pos a) (pos b) = omega (arith, ints)
product-at_most (pos a) (negsuc b) = omega (arith, ints)
product-at_most (negsuc a) (pos b) = omega (arith, ints)
product-at_most (negsuc a) (negsuc b) = omega (arith, ints)

-- a number is at most the denominator times the number over it, rounded up
pub rounds_up : (n den : ℕ) → 1 ≤ den → n ≤ den * rounded_up n den
rounds_up n den h = omega arith

-- an absolute coefficient times a size is at most the denominator times its term in the bound
coefficient-covered : (c z : ℤ) (den w : ℕ) → 1 ≤ den → nat_abs z ≤ w
    → (c *ℤ z) ≤ℤ pos (den * (rounded_up (nat_abs c) den * w))
coefficient-covered c z den w h l =
    chain _ _ _ (product-at_most c z)
    (subst (λ (n : ℕ). nat_abs c * nat_abs z ≤ n) (mul_assoc den (rounded_up (nat_abs c) den) w)
    (mul-le-mul (rounds_up (nat_abs c) den h) l))
  where
    chain : (x : ℤ) (m n : ℕ) → x ≤ℤ pos m → m ≤ n → x ≤ℤ pos n
    chain x m n a b = omega (arith, ints)

module _ (den : ℕ) (over : 1 ≤ den) (m : List ℕ) (g : ℕ) where
  -- the sum of two numbers, each covered by a part of a bound, is covered by the sum of the parts
  both_covered : (x y : ℤ) (a b t : ℕ) → x ≤ℤ pos (den * a) → y ≤ℤ pos (den * b) → t ≡ a + b → (x +ℤ y) ≤ℤ pos (den * t)
  both_covered x y a b t h k e = omega (arith, ints, ap (λ (n : ℕ). den * n) e, mul-add den a b)

  -- coefficients times values are covered, if the values inside are at most g and the others at most their sizes
  pub dot-covered : (cs : List ℤ) (inside : ℕ → Bool) (sizes : ℕ → Bound) (z : ℕ → ℤ)
      → ((j : ℕ) → inside j ≡ true → nat_abs (z j) ≤ g)
      → ((j : ℕ) → at cs j ≢ pos 0 → inside j ≡ false → nat_abs (z j) ≤ val (sizes j) m)
      → list_dot cs z ≤ℤ pos (den * (inner_sum cs den inside * g + val_sum (place_parts cs den inside sizes) m))
  dot-covered [] inside sizes z inner outer = omega (arith, ints)
  dot-covered (c ∷ cs) inside sizes z inner outer =
      split (is_zero c) (inside 0) refl refl
      (dot-covered cs (λ j. inside (suc j)) (λ j. sizes (suc j)) (λ j. z (suc j)) (λ j h. inner (suc j) h)
      (λ j h k. outer (suc j) h k))
    where
      k : ℕ
      k = rounded_up (nat_abs c) den

      rest : ℕ
      rest = inner_sum cs den (λ j. inside (suc j))

      others : ℕ
      others = val_sum (place_parts cs den (λ j. inside (suc j)) (λ j. sizes (suc j))) m

      nothing : c ≡ pos 0 → (c *ℤ z 0) ≤ℤ pos (den * 0)
      nothing e = omega (arith, ints, ap (λ (v : ℤ). v *ℤ z 0) e)

      regrouped : (a b c : ℕ) → (a + b) * g + c ≡ a * g + (b * g + c)
      regrouped a b c = omega (arith, add-mul a b g)

      split : (zero_c inside_0 : Bool) → is_zero c ≡ zero_c → inside 0 ≡ inside_0
          → list_dot cs (λ j. z (suc j)) ≤ℤ pos (den * (rest * g + others))
          → list_dot (c ∷ cs) z ≤ℤ pos
          (den * (inner_sum (c ∷ cs) den inside * g + val_sum (place_parts (c ∷ cs) den inside sizes) m))
      split true true e f ih =
          rw (e, f) (both_covered (c *ℤ z 0) (list_dot cs (λ j. z (suc j))) (k * g) (rest * g + others)
          ((k + rest) * g + others)
          (coefficient-covered c (z 0) den g over (inner 0 f)) ih (regrouped k rest others))
      split true false e f ih =
          rw (e, f) (both_covered (c *ℤ z 0) (list_dot cs (λ j. z (suc j))) 0 (rest * g + others)
          ((0 + rest) * g + others)
          (nothing (zero_of_test c e)) ih (omega arith))
      split false true e f ih =
          rw (e, f) (both_covered (c *ℤ z 0) (list_dot cs (λ j. z (suc j))) (k * g) (rest * g + others)
          ((k + rest) * g + others)
          (coefficient-covered c (z 0) den g over (inner 0 f)) ih (regrouped k rest others))
      split false false e f ih =
          rw (e, f) (both_covered (c *ℤ z 0) (list_dot cs (λ j. z (suc j))) (k * val (sizes 0) m) (rest * g + others)
          ((0 + rest) * g + (k * (val (sizes 0) m * 1) + others))
          (coefficient-covered c (z 0) den (val (sizes 0) m) over (outer 0 (not_zero_of_test c e) f)) ih (omega arith))

  -- the value of a form is covered, if the values inside are at most g and the others at most their sizes
  pub form-covered : (f : Form) (inside : ℕ → Bool) (sizes : ℕ → Bound) (z : ℕ → ℤ)
      → ((j : ℕ) → inside j ≡ true → nat_abs (z j) ≤ g)
      → ((j : ℕ) → at f.coefs j ≢ pos 0 → inside j ≡ false → nat_abs (z j) ≤ val (sizes j) m)
      → form_value f z (pos 1) ≤ℤ pos (den * (inner_sum f.coefs den inside * g + val (rest_bound f den inside sizes) m))
  form-covered f inside sizes z inner outer =
      let places = val_sum (place_parts f.coefs den inside sizes) m in
      let constant : (f.constant *ℤ pos 1) ≤ℤ pos (den * rounded_up (height f.constant) den) =
      constant-covered f.constant in
      both_covered (list_dot f.coefs z) (f.constant *ℤ pos 1) (inner_sum f.coefs den inside * g + places)
      (rounded_up (height f.constant) den)
      (inner_sum f.coefs den inside * g + (rounded_up (height f.constant) den + places))
      (dot-covered f.coefs inside sizes z inner outer) constant (omega arith)
    where
      constant-covered : (c : ℤ) → (c *ℤ pos 1) ≤ℤ pos (den * rounded_up (height c) den)
      constant-covered (pos n) = let l : n ≤ den * rounded_up n den = rounds_up n den over in omega (arith, ints, l)
      constant-covered (negsuc n) = omega (arith, ints)

-- if no place is inside, the sum of the coefficients inside is 0
no_inner_sum : (cs : List ℤ) (den : ℕ) → inner_sum cs den no_place ≡ 0
no_inner_sum [] den = refl
no_inner_sum (c ∷ cs) den = let e : inner_sum cs den (λ j. false) ≡ 0 = no_inner_sum cs den in omega (arith, e)

-- the positive part of a form's value is at most the denominator times the form as a bound
pub height-covered : (den : ℕ) → 1 ≤ den → (m : List ℕ) (f : Form) (sizes : ℕ → Bound) (z : ℕ → ℤ)
    → ((j : ℕ) → at f.coefs j ≢ pos 0 → nat_abs (z j) ≤ val (sizes j) m)
    → height (form_value f z (pos 1)) ≤ den * val (form_bound f den sizes) m
height-covered den over m f sizes z h =
    positive (form_value f z (pos 1)) _
    (form-covered den over m 0 f no_place sizes z (λ j e. absurd (true≢false (sym e))) (λ j n e. h j n))
    (no_inner_sum f.coefs den)
  where
    positive : (x : ℤ) (k : ℕ) → x ≤ℤ pos (den * (k * 0 + val (form_bound f den sizes) m)) → k ≡ 0
        → height x ≤ den * val (form_bound f den sizes) m
    positive (pos n) k l e = omega (arith, ints, l)
    positive (negsuc n) k l e = omega arith
