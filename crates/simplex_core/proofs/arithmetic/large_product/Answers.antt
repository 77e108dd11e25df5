use Rattle.std.proofs.Common.{ap, ◌∙◌, to_z, of_z, ◌^◌, ◌<◌, arith, sym, subst}
use Rattle.std.specs.Int.{w128}
use Rattle.std.specs.Prelude.{ℤ, ◌*ℤ◌, unsigned_abs}
use Rattle.std.proofs.lemmas.Int.{to_z-of_z, fits_signed_from_abs}
use Rattle.simplex_core.proofs.FractionSizes.{product-below}
use Rattle.simplex_core.proofs.arithmetic.large_product.Goals as goal

pub returns-clause-value : goal.returns-clause-value
returns-clause-value c =
    let a = c.args.a in
    let b = c.args.b in
    let below = product-below a b (2 ^ 62) (2 ^ 62) c.requires.a_small c.requires.b_small in
    ap (λ (z : ℤ). to_z w128 (of_z w128 (z *ℤ to_z w128 (of_z w128 b)))) (to_z-of_z w128 a c.ranges.a)
    ∙ (ap (λ (z : ℤ). to_z w128 (of_z w128 (a *ℤ z))) (to_z-of_z w128 b c.ranges.b)
    ∙ to_z-of_z w128 (a *ℤ b) (fits_signed_from_abs w128 (a *ℤ b) (omega (arith, below))))

pub returns-clause-bounded : goal.returns-clause-bounded
returns-clause-bounded c =
    let a = c.args.a in
    let b = c.args.b in
    let below = product-below a b (2 ^ 62) (2 ^ 62) c.requires.a_small c.requires.b_small in
    subst (λ (z : ℤ). unsigned_abs z < 2 ^ 124) (sym (returns-clause-value c)) (omega (arith, below))
