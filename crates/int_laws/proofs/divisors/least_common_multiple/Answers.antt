use Rattle.std.proofs.Common.{ℕ, ◌*◌, ◌≤◌, ◌/◌, arith}
use Rattle.std.proofs.Math.Nat.{div-mul_cancel, div-mul-le_self, mul-le-mul_right}
use Rattle.int_laws.proofs.LeastMultiples.{gcd-positive, least-multiple, none-within}
use Rattle.int_laws.proofs.divisors.least_common_multiple.Goals as goal

pub nonzero_div-rest : goal.nonzero_div-rest
nonzero_div-rest c = gcd-positive c.args.a c.args.b _ c.greatest_common_divisor.ensures c.requires.b

pub returns-then-rest-limit : goal.returns-then-rest-limit
returns-then-rest-limit c =
    none-within c.args.a c.args.b _ _ c.args.limit c.requires.a c.requires.b c.greatest_common_divisor.ensures (div-mul_cancel _ c.greatest_common_divisor.ensures.1) c.if-rest-limit.true

-- a number times what is at most the limit divided by it is at most the limit
within : (a limit rest : ℕ) → rest ≤ limit / a → a * rest ≤ limit
within a limit rest l = let k = mul-le-mul_right a l in let m = div-mul-le_self limit a in omega (arith, k, m)

pub overflow_mul-result : goal.overflow_mul-result
overflow_mul-result c = let k = within c.args.a c.args.limit _ c.if-rest-limit.false in let f = c.ranges.limit.fits in omega (arith, k, f)

pub returns : goal.returns
returns c = (
  least-multiple c.args.a c.args.b _ _ c.requires.a c.requires.b c.greatest_common_divisor.ensures (div-mul_cancel _ c.greatest_common_divisor.ensures.1),
  within c.args.a c.args.limit _ c.if-rest-limit.false,
)
