-- Laws of the order on ℤ under products.
use Rattle.std.proofs.Common.{◌≡◌, ℕ, ◌*◌, ap, arith, subst, sym}
use Rattle.std.specs.Prelude.{ℤ, pos, negsuc, zero, suc, ◌-ℤ◌, ◌*ℤ◌, neg_ℤ, ◌≤ℤ◌, ◌<ℤ◌}
use Rattle.std.proofs.lemmas.Int.{ints, by_lt_z}
use borrow.Author.Differences.{up, down, sum_is_lem, neg_is}

-- a product of numbers at least 0 is at least 0
pub mul-nonneg_ℤ : (a b : ℤ) → pos 0 ≤ℤ a → pos 0 ≤ℤ b → pos 0 ≤ℤ (a *ℤ b)
mul-nonneg_ℤ (pos a) (pos b) h k = omega (arith, ints)
mul-nonneg_ℤ (pos a) (negsuc b) h k = absurd (omega (arith, ints, k))
mul-nonneg_ℤ (negsuc a) b h k = absurd (omega (arith, ints, h))

-- a product of numbers above 0 is above 0
pub mul-positive_ℤ : (a b : ℤ) → pos 0 <ℤ a → pos 0 <ℤ b → pos 0 <ℤ (a *ℤ b)
mul-positive_ℤ (pos zero) b h k = absurd (omega (arith, ints, h))
mul-positive_ℤ (pos (suc a)) (pos zero) h k = absurd (omega (arith, ints, k))
mul-positive_ℤ (pos (suc a)) (pos (suc b)) h k = omega (arith, ints)
mul-positive_ℤ (pos (suc a)) (negsuc b) h k = absurd (omega (arith, ints, k))
mul-positive_ℤ (negsuc a) b h k = absurd (omega (arith, ints, h))

-- c * (b - a) = c * b - c * a
pub mul-sub_ℤ : (c b a : ℤ) → c *ℤ (b -ℤ a) ≡ c *ℤ b -ℤ c *ℤ a
mul-sub_ℤ c b a =
    let e = sum_is_lem b (neg_ℤ a) in
    let n = neg_is a in
    omega (
      arith,
      ints,
      ap (λ (v : ℕ). up c * v) e,
      ap (λ (v : ℕ). down c * v) e,
      ap (λ (v : ℕ). up c * v) n.0,
      ap (λ (v : ℕ). down c * v) n.0,
      ap (λ (v : ℕ). up c * v) n.1,
      ap (λ (v : ℕ). down c * v) n.1,
    )

-- multiplying by a factor of at least 0 preserves an order
pub mul-le-mul_ℤ : (c a b : ℤ) → pos 0 ≤ℤ c → a ≤ℤ b → (c *ℤ a) ≤ℤ (c *ℤ b)
mul-le-mul_ℤ c a b h k =
    let d : pos 0 ≤ℤ (b -ℤ a) = omega (arith, ints) in
    let p = mul-nonneg_ℤ c (b -ℤ a) h d in
    let e = mul-sub_ℤ c b a in
    let q : pos 0 ≤ℤ (c *ℤ b -ℤ c *ℤ a) = subst (λ (v : ℤ). pos 0 ≤ℤ v) e p in
    from_difference (c *ℤ a) (c *ℤ b) q
  where
    from_difference : (a b : ℤ) → pos 0 ≤ℤ (b -ℤ a) → a ≤ℤ b
    from_difference a b h = omega (arith, ints)

-- multiplying by a factor above 0 preserves a strict order
pub mul-lt-mul_ℤ : (c a b : ℤ) → pos 0 <ℤ c → a <ℤ b → (c *ℤ a) <ℤ (c *ℤ b)
mul-lt-mul_ℤ c a b h k =
    let d : pos 0 <ℤ (b -ℤ a) = omega (arith, ints) in
    let p = mul-positive_ℤ c (b -ℤ a) h d in
    let e = mul-sub_ℤ c b a in
    let q : pos 0 <ℤ (c *ℤ b -ℤ c *ℤ a) = subst (λ (v : ℤ). pos 0 <ℤ v) e p in
    from_difference (c *ℤ a) (c *ℤ b) q
  where
    from_difference : (a b : ℤ) → pos 0 <ℤ (b -ℤ a) → a <ℤ b
    from_difference a b h = omega (arith, ints)

-- a factor above 0 can be cancelled from an order
pub le-of-mul_ℤ : (c a b : ℤ) → pos 0 <ℤ c → (c *ℤ a) ≤ℤ (c *ℤ b) → a ≤ℤ b
le-of-mul_ℤ c a b h k =
    by_lt_z b a (λ l. absurd (clash (c *ℤ b) (c *ℤ a) (mul-lt-mul_ℤ c b a h l) k)) (λ m. m)
  where
    clash : (x y : ℤ) → x <ℤ y → y ≤ℤ x → ⊥
    clash x y h k = omega (arith, ints)

-- a factor above 0 can be cancelled from a strict order
pub lt-of-mul_ℤ : (c a b : ℤ) → pos 0 <ℤ c → (c *ℤ a) <ℤ (c *ℤ b) → a <ℤ b
lt-of-mul_ℤ c a b h k =
    by_lt_z a b (λ m. m) (λ l. absurd (clash (c *ℤ a) (c *ℤ b) k (mul-le-mul_ℤ c b a (omega (arith, ints)) l)))
  where
    clash : (x y : ℤ) → x <ℤ y → y ≤ℤ x → ⊥
    clash x y h k = omega (arith, ints)

-- a factor above 0 can be cancelled from an equation
pub mul-cancel_ℤ : (c a b : ℤ) → pos 0 <ℤ c → c *ℤ a ≡ c *ℤ b → a ≡ b
mul-cancel_ℤ c a b h e =
    let one = le-of-mul_ℤ c a b h (at_most (c *ℤ a) (c *ℤ b) e) in
    let two = le-of-mul_ℤ c b a h (at_most (c *ℤ b) (c *ℤ a) (sym e)) in
    omega (arith, ints)
  where
    at_most : (x y : ℤ) → x ≡ y → x ≤ℤ y
    at_most x y e = omega (arith, ints)
