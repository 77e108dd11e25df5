-- Laws of the ring ℤ.
use Rattle.std.proofs.Common.{◌≡◌, ℕ, ◌*◌, ap, arith, ◌∙◌}
use Rattle.std.specs.Prelude.{ℤ, pos, negsuc, ◌+ℤ◌, ◌-ℤ◌, ◌*ℤ◌, neg_ℤ}
use Rattle.std.proofs.lemmas.Int.{ints}
use borrow.Author.Differences.{up, down, sum_is_lem, product_is, neg_is}

-- (a + b) * c = a * c + b * c
pub add-mul_ℤ : (a b c : ℤ) → (a +ℤ b) *ℤ c ≡ a *ℤ c +ℤ b *ℤ c
add-mul_ℤ a b c =
    let e = sum_is_lem a b in
    omega (arith, ints, ap (λ (v : ℕ). v * up c) e, ap (λ (v : ℕ). v * down c) e)

-- a * (b + c) = a * b + a * c
pub mul-add_ℤ : (a b c : ℤ) → a *ℤ (b +ℤ c) ≡ a *ℤ b +ℤ a *ℤ c
mul-add_ℤ a b c =
    let e = sum_is_lem b c in
    omega (arith, ints, ap (λ (v : ℕ). up a * v) e, ap (λ (v : ℕ). down a * v) e)

-- (a * b) * c = a * (b * c)
pub mul_assoc_ℤ : (a b c : ℤ) → (a *ℤ b) *ℤ c ≡ a *ℤ (b *ℤ c)
mul_assoc_ℤ a b c =
    let l = product_is a b in
    let r = product_is b c in
    omega (
      arith,
      ints,
      ap (λ (v : ℕ). v * up c) l.0,
      ap (λ (v : ℕ). v * down c) l.0,
      ap (λ (v : ℕ). v * up c) l.1,
      ap (λ (v : ℕ). v * down c) l.1,
      ap (λ (v : ℕ). up a * v) r.0,
      ap (λ (v : ℕ). down a * v) r.0,
      ap (λ (v : ℕ). up a * v) r.1,
      ap (λ (v : ℕ). down a * v) r.1,
    )

-- a * b = b * a
pub mul_comm_ℤ : (a b : ℤ) → a *ℤ b ≡ b *ℤ a
mul_comm_ℤ a b = omega (arith, ints)

-- (-a) * b = -(a * b)
pub neg-mul_ℤ : (a b : ℤ) → neg_ℤ a *ℤ b ≡ neg_ℤ (a *ℤ b)
neg-mul_ℤ a b =
    let e = neg_is a in
    omega (
      arith,
      ints,
      ap (λ (v : ℕ). v * up b) e.0,
      ap (λ (v : ℕ). v * down b) e.0,
      ap (λ (v : ℕ). v * up b) e.1,
      ap (λ (v : ℕ). v * down b) e.1,
    )

-- a - b = a + -b
pub sub-is-add_ℤ : (a b : ℤ) → a -ℤ b ≡ a +ℤ negsuc 0 *ℤ b
sub-is-add_ℤ a b = omega (arith, ints)

-- a product whose first factor is 0 is 0
pub zero-mul_ℤ : (a b : ℤ) → a ≡ pos 0 → a *ℤ b ≡ pos 0
zero-mul_ℤ a b e = ap (λ (z : ℤ). z *ℤ b) e ∙ base
  where
    base : pos 0 *ℤ b ≡ pos 0
    base = omega (arith, ints)

-- a product whose second factor is 0 is 0
pub mul-zero_ℤ : (a b : ℤ) → b ≡ pos 0 → a *ℤ b ≡ pos 0
mul-zero_ℤ a b e = ap (λ (z : ℤ). a *ℤ z) e ∙ base
  where
    base : a *ℤ pos 0 ≡ pos 0
    base = omega (arith, ints)

-- a product whose first factor is 1 is the second
pub one-mul_ℤ : (a b : ℤ) → a ≡ pos 1 → a *ℤ b ≡ b
one-mul_ℤ a b e = ap (λ (z : ℤ). z *ℤ b) e ∙ base
  where
    base : pos 1 *ℤ b ≡ b
    base = omega (arith, ints)

-- a product whose second factor is 1 is the first
pub mul-one_ℤ : (a b : ℤ) → b ≡ pos 1 → a *ℤ b ≡ a
mul-one_ℤ a b e = ap (λ (z : ℤ). a *ℤ z) e ∙ base
  where
    base : a *ℤ pos 1 ≡ a
    base = omega (arith, ints)
