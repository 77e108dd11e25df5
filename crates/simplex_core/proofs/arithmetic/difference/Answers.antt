use Rattle.std.proofs.Common.{◌^◌, arith}
use Rattle.std.specs.Prelude.{◌*ℤ◌}
use Rattle.simplex_core.proofs.FractionSizes.{product-below, difference-below}
use Rattle.simplex_core.proofs.arithmetic.difference.Goals as goal

pub unreachable-requires : goal.unreachable-requires
unreachable-requires c =
    let a = c.args.a in
    let b = c.args.b in
    let left = product-below a.num b.den (2 ^ 31) (2 ^ 31) c.requires.a_small.num c.requires.b_small.den in
    let right = product-below b.num a.den (2 ^ 31) (2 ^ 31) c.requires.b_small.num c.requires.a_small.den in
    let over = difference-below (a.num *ℤ b.den) (b.num *ℤ a.den) (2 ^ 62) (2 ^ 62) left right in
    let under = product-below a.den b.den (2 ^ 31) (2 ^ 31) c.requires.a_small.den c.requires.b_small.den in
    c.in-Err.ensures (omega (arith, left), (omega (arith, right), (omega (arith, over), (omega (arith, under), tt))))
