use Rattle.std.proofs.Common.{◌≡◌, ◌≤◌, sym, ◌∙◌, ap, arith, subst}
use Rattle.std.specs.Prelude.{ℤ, nat_abs, ◌+ℤ◌, FitsSigned}
use Rattle.std.specs.Int.{w128, cast_signed, cast_unsigned}
use Rattle.std.proofs.lemmas.Int.{to_z-of_z, fits_signed_from_abs}
use Rattle.model.specs.Limits.{coefficient_limit}
use Rattle.poly_terms.proofs.SumLaws.{sum-size}
use Rattle.poly_terms.proofs.merge.combined.Goals as goal

-- casting small integers doesn't change them
cast_small : (x : ℤ) → nat_abs x ≤ coefficient_limit → cast_signed w128 (cast_unsigned w128 x) ≡ x
cast_small x h = to_z-of_z w128 x (fits_signed_from_abs w128 x (omega (arith, h)))

cast_sum : (x y : ℤ) → nat_abs x ≤ coefficient_limit → nat_abs y ≤ coefficient_limit
    → cast_signed w128 (cast_unsigned w128 x) +ℤ cast_signed w128 (cast_unsigned w128 y) ≡ x +ℤ y
cast_sum x y h k = λ i. cast_small x h i +ℤ cast_small y k i

-- the sum of two small integers fits in 128 bits
sum_fits : (x y : ℤ) → nat_abs x ≤ coefficient_limit → nat_abs y ≤ coefficient_limit → FitsSigned w128 (x +ℤ y)
sum_fits x y h k = fits_signed_from_abs w128 (x +ℤ y) (omega (arith, sum-size x y coefficient_limit coefficient_limit h k))

pub overflow_add-result : goal.overflow_add-result
overflow_add-result c = subst (FitsSigned w128) (sym (cast_sum c.args.m.coef c.args.n.coef c.requires.left c.requires.right)) (sum_fits c.args.m.coef c.args.n.coef c.requires.left c.requires.right)

pub returns-clause-coefficient : goal.returns-clause-coefficient
returns-clause-coefficient c =
    ap (λ (z : ℤ). cast_signed w128 (cast_unsigned w128 z)) (cast_sum c.args.m.coef c.args.n.coef c.requires.left c.requires.right)
    ∙ to_z-of_z w128 (c.args.m.coef +ℤ c.args.n.coef) (sum_fits c.args.m.coef c.args.n.coef c.requires.left c.requires.right)
