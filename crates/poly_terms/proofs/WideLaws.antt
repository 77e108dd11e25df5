-- Bounds on products and limbs.
use Rattle.std.proofs.Common.{◌≡◌, ℕ, zero, suc, ◌*◌, ◌^◌, ◌/◌, ◌<◌, ◌≤◌, refl, subst, sym, arith}
use Rattle.std.specs.Prelude.{ℤ, pos, negsuc, ◌+ℤ◌, ◌*ℤ◌, neg_ℤ, nat_abs, int_div}
use Rattle.std.proofs.lemmas.Int.{ints, unsigned_abs-mul}
use Rattle.std.proofs.Math.Nat.{mul-le-mul}
use Rattle.model.specs.Limits.{coefficient_limit}
use Rattle.poly_terms.specs.Wide.{base}

-- a negation has the same absolute value
pub nat_abs-neg : (z : ℤ) → nat_abs (neg_ℤ z) ≡ nat_abs z
nat_abs-neg (pos zero) = refl
nat_abs-neg (pos (suc n)) = refl
nat_abs-neg (negsuc n) = refl

-- a quotient by 2^64, times 2^64, is at most the number in absolute value
pub quotient-size : (z : ℤ) → nat_abs (int_div z (pos base)) * base ≤ nat_abs z
quotient-size (pos a) = omega arith
quotient-size (negsuc a) = subst (λ (n : ℕ). n * base ≤ suc a) (sym (nat_abs-neg (pos (suc a / base)))) (omega arith)

-- a product of coefficients is below 2^126
pub product-size : (a b : ℤ) → nat_abs a ≤ coefficient_limit → nat_abs b ≤ coefficient_limit → nat_abs (a *ℤ b) < 2 ^ 126
product-size a b h k = omega (arith, unsigned_abs-mul a b, at_most (nat_abs a) (nat_abs b) coefficient_limit coefficient_limit h k)
  where
    at_most : (x y m n : ℕ) → x ≤ m → y ≤ n → x * y ≤ m * n
    at_most x y m n = mul-le-mul

-- if the upper limb isn't -1, 0 or 1 and the lower one is below 2^64, the integer is over 2^63 - 1
pub high-is-large : (h l : ℤ) → 1 < nat_abs h → nat_abs l < base → coefficient_limit < nat_abs (h *ℤ pos base +ℤ l)
high-is-large h l e f = omega (arith, ints, e, f)
