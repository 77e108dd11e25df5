use Rattle.std.proofs.Common.{ap, ◌∙◌, to_z, of_z, ◌^◌, ◌<◌, arith, sym, subst}
use Rattle.std.specs.Int.{w64}
use Rattle.std.specs.Prelude.{ℤ, ◌*ℤ◌, unsigned_abs}
use Rattle.std.proofs.lemmas.Int.{to_z-of_z, fits_signed_from_abs}
use Rattle.sparse_columns.proofs.Merging.{product-below}
use Rattle.sparse_columns.proofs.wide.product.Goals as goal

pub returns-clause-value : goal.returns-clause-value
returns-clause-value c =
    let a = c.args.a in
    let b = c.args.b in
    let below = product-below a b (2 ^ 31) (2 ^ 31) c.requires.a c.requires.b in
    ap (λ (z : ℤ). to_z w64 (of_z w64 (z *ℤ to_z w64 (of_z w64 b)))) (to_z-of_z w64 a c.ranges.a)
    ∙ (ap (λ (z : ℤ). to_z w64 (of_z w64 (a *ℤ z))) (to_z-of_z w64 b c.ranges.b)
    ∙ to_z-of_z w64 (a *ℤ b) (fits_signed_from_abs w64 (a *ℤ b) (omega (arith, below))))

pub returns-clause-bounded : goal.returns-clause-bounded
returns-clause-bounded c =
    let a = c.args.a in
    let b = c.args.b in
    let below = product-below a b (2 ^ 31) (2 ^ 31) c.requires.a c.requires.b in
    subst (λ (z : ℤ). unsigned_abs z < 2 ^ 62) (sym (returns-clause-value c)) (omega (arith, below))
