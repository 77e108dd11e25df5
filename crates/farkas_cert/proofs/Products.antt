-- Products and sums of 128 bits that don't overflow, and their sizes.
use Rattle.std.proofs.Common.{◌⊎◌, inl, inr, min, ◌≡◌, ℕ, ◌+◌, ◌*◌, ◌^◌, ◌<◌, ◌≤◌, ap, arith, ◌∙◌}
use Rattle.std.specs.Prelude.{ℤ, pos, ◌+ℤ◌, ◌*ℤ◌, unsigned_abs}
use Rattle.std.proofs.lemmas.Int.{ints, to_z-of_z, fits_signed_mul, fits_signed_from_abs, unsigned_abs-mul}
use Rattle.std.proofs.Math.Nat.{mul-le-mul}
use Rattle.std.proofs.lemmas.Bool.{cases_lt}
use Rattle.linear_forms.proofs.int_laws.RingLaws.{mul_comm_ℤ}
use mir.Syntax.{w64, w128}
use mir.Val.{SFits, to_z, of_z}
use Rattle.linear_forms.specs.Limits.{point_limit}
use Rattle.farkas_cert.specs.Sizes.{row_limit}

-- a product of small factors is computed exactly
pub read_product : (a b : ℤ) (m n : ℕ) → SFits w128 a → SFits w128 b → unsigned_abs a ≤ m → unsigned_abs b ≤ n → m * n < 2 ^ 127
    → to_z w128 (of_z w128 (to_z w128 (of_z w128 a) *ℤ to_z w128 (of_z w128 b))) ≡ a *ℤ b
read_product a b m n fa fb ha hb h =
    ap (λ (x : ℤ). to_z w128 (of_z w128 (x *ℤ to_z w128 (of_z w128 b)))) (to_z-of_z w128 a fa)
    ∙ (ap (λ (x : ℤ). to_z w128 (of_z w128 (a *ℤ x))) (to_z-of_z w128 b fb)
    ∙ to_z-of_z w128 (a *ℤ b) (fits_signed_mul w128 a b m n ha hb h))

-- a product is at most the product of the limits of its factors
pub product-le : (a b : ℤ) (m n : ℕ) → unsigned_abs a ≤ m → unsigned_abs b ≤ n → unsigned_abs (a *ℤ b) ≤ m * n
product-le a b m n ha hb = omega (arith, unsigned_abs-mul a b, mul-le-mul ha hb)

-- the bound on a product that is given by an equation
pub product_is-le : (r a b : ℤ) (m n : ℕ) → r ≡ a *ℤ b → unsigned_abs a ≤ m → unsigned_abs b ≤ n → unsigned_abs r ≤ m * n
product_is-le r a b m n e ha hb = omega (arith, ap unsigned_abs e, product-le a b m n ha hb)

-- a number times a multiplier, computed exactly with the multiplier on the left
pub read_multiple : (a b : ℤ) (m : ℕ) (l n : ℕ) → SFits w128 a → SFits w128 b → b ≡ pos m → unsigned_abs a ≤ l → m ≤ n → l * n < 2 ^ 127
    → to_z w128 (of_z w128 (to_z w128 (of_z w128 a) *ℤ to_z w128 (of_z w128 b))) ≡ pos m *ℤ a
read_multiple a b m l n fa fb e ha hm h =
    read_product a b l n fa fb ha (omega (arith, ap unsigned_abs e)) h ∙ (ap (λ (x : ℤ). a *ℤ x) e ∙ mul_comm_ℤ a (pos m))

-- the bound on a multiple
pub multiple-le : (r a : ℤ) (m n : ℕ) → r ≡ pos m *ℤ a → m ≤ n → unsigned_abs r ≤ n * unsigned_abs a
multiple-le r a m n e h = omega (arith, ap unsigned_abs e, unsigned_abs-mul (pos m) a, mul-le-mul h (refl_le (unsigned_abs a)))
  where
    refl_le : (x : ℕ) → x ≤ x
    refl_le x = omega arith

-- a sum is at most the sum of the limits of its parts
pub sum-le : (a b : ℤ) → unsigned_abs (a +ℤ b) ≤ unsigned_abs a + unsigned_abs b
sum-le a b = omega (arith, ints)

-- a sum of small parts is computed exactly
pub read_sum : (s p : ℤ) → SFits w128 p → unsigned_abs s + unsigned_abs p < 2 ^ 127 → to_z w128 (of_z w128 (s +ℤ to_z w128 (of_z w128 p))) ≡ s +ℤ p
read_sum s p f h =
    ap (λ (x : ℤ). to_z w128 (of_z w128 (s +ℤ x))) (to_z-of_z w128 p f)
    ∙ to_z-of_z w128 (s +ℤ p) (fits_signed_from_abs w128 (s +ℤ p) (omega (arith, sum-le s p)))

-- a number of a row times a part is computed exactly
pub read_term : (p a b r : ℤ) → unsigned_abs a < row_limit → unsigned_abs b ≤ point_limit → r ≡ to_z w64 (of_z w64 b) → p ≡ to_z w128 (of_z w128 a) *ℤ to_z w128 (of_z w128 r) → p ≡ a *ℤ b
read_term p a b r ha hb e f =
    let same : r ≡ b = e ∙ to_z-of_z w64 b (fits_signed_from_abs w64 b (omega arith)) in
    f ∙ (ap (λ (x : ℤ). x *ℤ to_z w128 (of_z w128 r)) (to_z-of_z w128 a (fits_signed_from_abs w128 a (omega arith)))
    ∙ (ap (λ (x : ℤ). a *ℤ to_z w128 (of_z w128 x)) same
    ∙ ap (λ (x : ℤ). a *ℤ x) (to_z-of_z w128 b (fits_signed_from_abs w128 b (omega arith)))))

-- one term of a sum moves from the rest to the sum so far
pub moved : (s p t left next whole : ℤ) → t ≡ s +ℤ p → s +ℤ left ≡ whole → left ≡ p +ℤ next → t +ℤ next ≡ whole
moved s p t left next whole e f g = omega (arith, ints, e, f, g)

-- if the rest is 0, the sum so far is the whole
pub all_done : (s left whole : ℤ) → s +ℤ left ≡ whole → left ≡ pos 0 → s ≡ whole
all_done s left whole e f = omega (arith, ints, e, f)

-- a position that isn't below the lesser of two ends is at or past one of them
pub one_ends : (i m n : ℕ) → min m n ≤ i → (m ≤ i) ⊎ (n ≤ i)
one_ends i m n h = go (cases_lt i m)
  where
    go : (i < m) ⊎ (m ≤ i) → (m ≤ i) ⊎ (n ≤ i)
    go (inl l) = inr (omega arith)
    go (inr l) = inl l
