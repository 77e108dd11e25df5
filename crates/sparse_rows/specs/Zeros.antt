-- Sums and multiples of the fraction 0, for columns at which neither row has an entry.
use Rattle.std.specs.Prelude.{◌≡◌, ℤ, pos, ◌+ℤ◌, ◌*ℤ◌, None}
use Rattle.std.proofs.Common.{arith, subst, sym}
use Rattle.std.proofs.lemmas.Int.{ints}
use Rattle.frac128.specs.declared.frac.Frac.{Frac}
use Rattle.frac128.specs.Narrow.{IsNarrow}
use Rattle.frac128.specs.Zero.{zero, zero-num, zero-den}
use Rattle.sparse_rows.specs.Entries.{IsJoined}

-- 0 plus a multiple of 0 is 0
zero_sum : (n d b c : ℤ) → n ≡ pos 0 → d ≡ pos 1 → n *ℤ (d *ℤ (c *ℤ d)) ≡ (n *ℤ (c *ℤ d) +ℤ (b *ℤ n) *ℤ d) *ℤ d
zero_sum n d b c e f =
    subst (λ (x : ℤ). x *ℤ (d *ℤ (c *ℤ d)) ≡ (x *ℤ (c *ℤ d) +ℤ (b *ℤ x) *ℤ d) *ℤ d) (sym e)
    (subst (λ (y : ℤ). pos 0 *ℤ (y *ℤ (c *ℤ y)) ≡ (pos 0 *ℤ (c *ℤ y) +ℤ (b *ℤ pos 0) *ℤ y) *ℤ y) (sym f) (omega (arith, ints)))

-- a multiple of 0 is 0
zero_product : (n d b c : ℤ) → n ≡ pos 0 → d ≡ pos 1 → n *ℤ (c *ℤ d) ≡ (b *ℤ n) *ℤ d
zero_product n d b c e f =
    subst (λ (x : ℤ). x *ℤ (c *ℤ d) ≡ (b *ℤ x) *ℤ d) (sym e)
    (subst (λ (y : ℤ). pos 0 *ℤ (c *ℤ y) ≡ (b *ℤ pos 0) *ℤ y) (sym f) (omega (arith, ints)))

-- a multiple of 0 is within the limit, the 0 on the right
zero_narrow : (n b : ℤ) → n ≡ pos 0 → IsNarrow (b *ℤ n)
zero_narrow n b e = subst (λ (x : ℤ). IsNarrow (b *ℤ x)) (sym e) (omega (arith, ints))

-- a multiple of 0 is within the limit, the 0 on the left
zero_narrow_left : (n b : ℤ) → n ≡ pos 0 → IsNarrow (n *ℤ b)
zero_narrow_left n b e = subst (λ (x : ℤ). IsNarrow (x *ℤ b)) (sym e) (omega (arith, ints))

-- a number times 1 is within the limit if the number is
one_narrow : (d c : ℤ) → d ≡ pos 1 → IsNarrow c → IsNarrow (c *ℤ d)
one_narrow d c f h = subst (λ (y : ℤ). IsNarrow (c *ℤ y)) (sym f) (omega (arith, ints, h))

-- 1 times 1 is within the limit
ones_narrow : (d : ℤ) → d ≡ pos 1 → IsNarrow (d *ℤ d)
ones_narrow d f = subst (λ (y : ℤ). IsNarrow (y *ℤ y)) (sym f) (omega (arith, ints))

-- a sum of multiples of 0 is within the limit
zeros_narrow : (n d : ℤ) → n ≡ pos 0 → IsNarrow (n *ℤ d +ℤ n *ℤ d)
zeros_narrow n d e = subst (λ (x : ℤ). IsNarrow (x *ℤ d +ℤ x *ℤ d)) (sym e) (omega (arith, ints))

-- two columns without entries give none
pub nothing_joined : (by : Frac) → IsNarrow by.den → IsJoined by None None None
nothing_joined by narrow = record {
  value = zero_sum zero.num zero.den by.num by.den zero-num zero-den;
  within = record {
    within = (zero_narrow zero.num by.num zero-num, (one_narrow zero.den by.den zero-den narrow, tt));
    product = zero;
    is = zero_product zero.num zero.den by.num by.den zero-num zero-den;
    sum_within =
        let none = zero_narrow_left zero.num zero.den zero-num in
        (none, (none, (zeros_narrow zero.num zero.den zero-num, (ones_narrow zero.den zero-den, tt))));
  };
  listed = tt;
}
