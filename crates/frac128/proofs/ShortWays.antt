-- The shortcuts of the calls. If one side is 0, or both are integers, each number of the formula is one of the
-- operands, and the fraction is known without a division.
use Rattle.std.proofs.Common.{◌≡◌, sym, ◌∙◌, ap, subst, arith, [], ◌∷◌}
use Rattle.std.specs.Prelude.{ℤ, pos, ◌+ℤ◌, ◌-ℤ◌, ◌*ℤ◌, neg_ℤ}
use Rattle.std.proofs.lemmas.Int.{ints}
use Rattle.int_laws.proofs.RingLaws.{zero-mul_ℤ, one-mul_ℤ, mul-one_ℤ}
use Rattle.frac128.specs.Narrow.{IsNarrow, AreNarrow}

-- a number that equals a narrow one is narrow
narrow_as : (z w : ℤ) → z ≡ w → IsNarrow w → IsNarrow z
narrow_as z w e h = subst IsNarrow (sym e) h

-- 0 is narrow
zero_narrow : IsNarrow (pos 0)
zero_narrow = omega arith

-- 1 is narrow
one_narrow : IsNarrow (pos 1)
one_narrow = omega arith

-- equal fractions have equal cross products
pub cross : (n d over under : ℤ) → over ≡ n → under ≡ d → n *ℤ under ≡ over *ℤ d
cross n d over under e f = ap (λ (z : ℤ). n *ℤ z) f ∙ sym (ap (λ (z : ℤ). z *ℤ d) e)

-- four numbers that equal narrow ones are narrow
four : (x y z w x' y' z' w' : ℤ) → x ≡ x' → y ≡ y' → z ≡ z' → w ≡ w' → IsNarrow x' → IsNarrow y' → IsNarrow z' → IsNarrow w'
    → AreNarrow (x ∷ y ∷ z ∷ w ∷ [])
four x y z w x' y' z' w' ex ey ez ew nx ny nz nw =
    (narrow_as x x' ex nx, (narrow_as y y' ey ny, (narrow_as z z' ez nz, (narrow_as w w' ew nw, tt))))

-- 0/1 + c/d is c/d
pub zero-plus : (a b c d : ℤ) → a ≡ pos 0 → b ≡ pos 1 → IsNarrow c → IsNarrow d
    → AreNarrow ((a *ℤ d) ∷ (c *ℤ b) ∷ (a *ℤ d +ℤ c *ℤ b) ∷ (b *ℤ d) ∷ []) × (c *ℤ (b *ℤ d) ≡ (a *ℤ d +ℤ c *ℤ b) *ℤ d)
zero-plus a b c d a_zero b_one c_narrow d_narrow =
    let over = sum _ _ c (zero-mul_ℤ a d a_zero) (mul-one_ℤ c b b_one) in (
      four _ _ _ _ (pos 0) c c d (zero-mul_ℤ a d a_zero) (mul-one_ℤ c b b_one) over (one-mul_ℤ b d b_one) zero_narrow c_narrow c_narrow d_narrow,
      cross c d _ _ over (one-mul_ℤ b d b_one),
    )
  where
    sum : (v w c : ℤ) → v ≡ pos 0 → w ≡ c → v +ℤ w ≡ c
    sum v w c e f = omega (arith, ints)

-- a/b + 0/1 is a/b
pub plus-zero : (a b c d : ℤ) → c ≡ pos 0 → d ≡ pos 1 → IsNarrow a → IsNarrow b
    → AreNarrow ((a *ℤ d) ∷ (c *ℤ b) ∷ (a *ℤ d +ℤ c *ℤ b) ∷ (b *ℤ d) ∷ []) × (a *ℤ (b *ℤ d) ≡ (a *ℤ d +ℤ c *ℤ b) *ℤ b)
plus-zero a b c d c_zero d_one a_narrow b_narrow =
    let over = sum _ _ a (mul-one_ℤ a d d_one) (zero-mul_ℤ c b c_zero) in (
      four _ _ _ _ a (pos 0) a b (mul-one_ℤ a d d_one) (zero-mul_ℤ c b c_zero) over (mul-one_ℤ b d d_one) a_narrow zero_narrow a_narrow b_narrow,
      cross a b _ _ over (mul-one_ℤ b d d_one),
    )
  where
    sum : (v w a : ℤ) → v ≡ a → w ≡ pos 0 → v +ℤ w ≡ a
    sum v w a e f = omega (arith, ints)

-- a/1 + c/1 is (a + c)/1
pub whole-plus : (a b c d n m : ℤ) → b ≡ pos 1 → d ≡ pos 1 → n ≡ a +ℤ c → m ≡ pos 1 → IsNarrow a → IsNarrow c → IsNarrow (a +ℤ c)
    → AreNarrow ((a *ℤ d) ∷ (c *ℤ b) ∷ (a *ℤ d +ℤ c *ℤ b) ∷ (b *ℤ d) ∷ []) × (n *ℤ (b *ℤ d) ≡ (a *ℤ d +ℤ c *ℤ b) *ℤ m)
whole-plus a b c d n m b_one d_one n_is m_is a_narrow c_narrow sum_narrow =
    let over = sum _ _ a c (mul-one_ℤ a d d_one) (mul-one_ℤ c b b_one) in
    let under = one-mul_ℤ b d b_one ∙ d_one in (
      four _ _ _ _ a c (a +ℤ c) (pos 1) (mul-one_ℤ a d d_one) (mul-one_ℤ c b b_one) over under a_narrow c_narrow sum_narrow one_narrow,
      cross n m _ _ (over ∙ sym n_is) (under ∙ sym m_is),
    )
  where
    sum : (v w a c : ℤ) → v ≡ a → w ≡ c → v +ℤ w ≡ a +ℤ c
    sum v w a c e f = omega (arith, ints)

-- 0/1 - c/d is -c/d
pub zero-minus : (a b c d n m : ℤ) → a ≡ pos 0 → b ≡ pos 1 → n ≡ neg_ℤ c → m ≡ d → IsNarrow c → IsNarrow d
    → AreNarrow ((a *ℤ d) ∷ (c *ℤ b) ∷ (a *ℤ d -ℤ c *ℤ b) ∷ (b *ℤ d) ∷ []) × (n *ℤ (b *ℤ d) ≡ (a *ℤ d -ℤ c *ℤ b) *ℤ m)
zero-minus a b c d n m a_zero b_one n_is m_is c_narrow d_narrow =
    let over = difference _ _ c (zero-mul_ℤ a d a_zero) (mul-one_ℤ c b b_one) in (
      four _ _ _ _ (pos 0) c (neg_ℤ c) d (zero-mul_ℤ a d a_zero) (mul-one_ℤ c b b_one) over (one-mul_ℤ b d b_one) zero_narrow c_narrow (omega (arith, ints)) d_narrow,
      cross n m _ _ (over ∙ sym n_is) (one-mul_ℤ b d b_one ∙ sym m_is),
    )
  where
    difference : (v w c : ℤ) → v ≡ pos 0 → w ≡ c → v -ℤ w ≡ neg_ℤ c
    difference v w c e f = omega (arith, ints)

-- a/b - 0/1 is a/b
pub minus-zero : (a b c d : ℤ) → c ≡ pos 0 → d ≡ pos 1 → IsNarrow a → IsNarrow b
    → AreNarrow ((a *ℤ d) ∷ (c *ℤ b) ∷ (a *ℤ d -ℤ c *ℤ b) ∷ (b *ℤ d) ∷ []) × (a *ℤ (b *ℤ d) ≡ (a *ℤ d -ℤ c *ℤ b) *ℤ b)
minus-zero a b c d c_zero d_one a_narrow b_narrow =
    let over = difference _ _ a (mul-one_ℤ a d d_one) (zero-mul_ℤ c b c_zero) in (
      four _ _ _ _ a (pos 0) a b (mul-one_ℤ a d d_one) (zero-mul_ℤ c b c_zero) over (mul-one_ℤ b d d_one) a_narrow zero_narrow a_narrow b_narrow,
      cross a b _ _ over (mul-one_ℤ b d d_one),
    )
  where
    difference : (v w a : ℤ) → v ≡ a → w ≡ pos 0 → v -ℤ w ≡ a
    difference v w a e f = omega (arith, ints)

-- a/1 - c/1 is (a - c)/1
pub whole-minus : (a b c d n m : ℤ) → b ≡ pos 1 → d ≡ pos 1 → n ≡ a -ℤ c → m ≡ pos 1 → IsNarrow a → IsNarrow c → IsNarrow (a -ℤ c)
    → AreNarrow ((a *ℤ d) ∷ (c *ℤ b) ∷ (a *ℤ d -ℤ c *ℤ b) ∷ (b *ℤ d) ∷ []) × (n *ℤ (b *ℤ d) ≡ (a *ℤ d -ℤ c *ℤ b) *ℤ m)
whole-minus a b c d n m b_one d_one n_is m_is a_narrow c_narrow difference_narrow =
    let over = difference _ _ a c (mul-one_ℤ a d d_one) (mul-one_ℤ c b b_one) in
    let under = one-mul_ℤ b d b_one ∙ d_one in (
      four _ _ _ _ a c (a -ℤ c) (pos 1) (mul-one_ℤ a d d_one) (mul-one_ℤ c b b_one) over under a_narrow c_narrow difference_narrow one_narrow,
      cross n m _ _ (over ∙ sym n_is) (under ∙ sym m_is),
    )
  where
    difference : (v w a c : ℤ) → v ≡ a → w ≡ c → v -ℤ w ≡ a -ℤ c
    difference v w a c e f = omega (arith, ints)

-- the product of 0 and a fraction is 0
pub zero-product : (a b c d : ℤ) → a ≡ pos 0 → b ≡ pos 1 → IsNarrow d
    → AreNarrow ((a *ℤ c) ∷ (b *ℤ d) ∷ []) × (a *ℤ (b *ℤ d) ≡ (a *ℤ c) *ℤ b)
zero-product a b c d a_zero b_one d_narrow = (
  (narrow_as _ _ (zero-mul_ℤ a c a_zero) zero_narrow, (narrow_as _ _ (one-mul_ℤ b d b_one) d_narrow, tt)),
  zero-mul_ℤ a (b *ℤ d) a_zero ∙ sym (zero-mul_ℤ (a *ℤ c) b (zero-mul_ℤ a c a_zero)),
)

-- the product of a fraction and 0 is 0
pub product-zero : (a b c d : ℤ) → c ≡ pos 0 → d ≡ pos 1 → IsNarrow b
    → AreNarrow ((a *ℤ c) ∷ (b *ℤ d) ∷ []) × (c *ℤ (b *ℤ d) ≡ (a *ℤ c) *ℤ d)
product-zero a b c d c_zero d_one b_narrow =
    let over = ap (λ (z : ℤ). a *ℤ z) c_zero ∙ base a in (
      (narrow_as _ _ over zero_narrow, (narrow_as _ _ (mul-one_ℤ b d d_one) b_narrow, tt)),
      zero-mul_ℤ c (b *ℤ d) c_zero ∙ sym (zero-mul_ℤ (a *ℤ c) d over),
    )
  where
    base : (a : ℤ) → a *ℤ pos 0 ≡ pos 0
    base a = omega (arith, ints)

-- the product of two integers is an integer
pub whole-product : (a b c d n m : ℤ) → b ≡ pos 1 → d ≡ pos 1 → n ≡ a *ℤ c → m ≡ pos 1 → IsNarrow (a *ℤ c)
    → AreNarrow ((a *ℤ c) ∷ (b *ℤ d) ∷ []) × (n *ℤ (b *ℤ d) ≡ (a *ℤ c) *ℤ m)
whole-product a b c d n m b_one d_one n_is m_is product_narrow =
    let under = one-mul_ℤ b d b_one ∙ d_one in
    ((product_narrow, (narrow_as _ _ under one_narrow, tt)), cross n m _ _ (sym n_is) (under ∙ sym m_is))
