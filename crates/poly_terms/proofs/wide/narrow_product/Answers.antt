use Rattle.std.proofs.Common.{◌≡◌, ◌<◌, ◌^◌, subst, sym, ap, ◌∙◌, arith}
use Rattle.std.specs.Prelude.{ℤ, ◌*ℤ◌, FitsSigned, nat_abs}
use Rattle.std.specs.Int.{w128, cast_signed, cast_unsigned}
use Rattle.std.proofs.lemmas.Int.{to_z-of_z, fits_signed_from_abs}
use Rattle.poly_terms.proofs.WideLaws.{product-size}
use Rattle.poly_terms.proofs.wide.narrow_product.Goals as goal

-- a product below 2^126 fits in 128 bits
fits : (a b : ℤ) → nat_abs (a *ℤ b) < 2 ^ 126 → FitsSigned w128 (a *ℤ b)
fits a b h = fits_signed_from_abs w128 (a *ℤ b) (omega (arith, h))

-- casting the factors and the product doesn't change them
cast_product : (a b : ℤ) → FitsSigned w128 a → FitsSigned w128 b
    → cast_signed w128 (cast_unsigned w128 a) *ℤ cast_signed w128 (cast_unsigned w128 b) ≡ a *ℤ b
cast_product a b f g = ap (λ (z : ℤ). z *ℤ cast_signed w128 (cast_unsigned w128 b)) (to_z-of_z w128 a f) ∙ ap (λ (z : ℤ). a *ℤ z) (to_z-of_z w128 b g)

pub overflow_mul-result : goal.overflow_mul-result
overflow_mul-result c =
    subst (λ (z : ℤ). FitsSigned w128 z) (sym (cast_product c.args.a c.args.b c.ranges.a c.ranges.b))
    (fits c.args.a c.args.b (product-size c.args.a c.args.b c.requires.left c.requires.right))

pub returns : goal.returns
returns c =
    let size = product-size c.args.a c.args.b c.requires.left c.requires.right in
    let value = ap (λ (z : ℤ). cast_signed w128 (cast_unsigned w128 z)) (cast_product c.args.a c.args.b c.ranges.a c.ranges.b)
    ∙ to_z-of_z w128 (c.args.a *ℤ c.args.b) (fits c.args.a c.args.b size) in
    record { value = value; size = subst (λ (z : ℤ). nat_abs z < 2 ^ 126) (sym value) size }
