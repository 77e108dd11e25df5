use Rattle.std.proofs.Common.{◌≡◌, pos, to_z, of_z, arith, ◌*ℤ◌, ap, ◌∙◌, subst}
use Rattle.std.specs.Int.{w128}
use Rattle.std.specs.Prelude.{ℤ}
use Rattle.std.proofs.lemmas.Int.{ints}
use Rattle.frac128.specs.Narrow.{IsNarrow}
use Rattle.frac128.proofs.LowestTerms.{zero_is_whole}
use Rattle.frac128.proofs.ShortWays.{zero-product, product-zero, whole-product}
use Rattle.frac128.proofs.frac.Frac.mul.Goals as goal

pub returns-then-self-eq0 : goal.returns-then-self-eq0
returns-then-self-eq0 c =
    let self = c.args.self in
    let other = c.args.other in
    let zero : self.num ≡ pos 0 = omega (arith, ints) in
    zero-product self.num self.den other.num other.den zero (zero_is_whole self.num self.den self.lowest self.positive zero) (omega (arith, ints))

pub returns-then-other-eq0 : goal.returns-then-other-eq0
returns-then-other-eq0 c =
    let self = c.args.self in
    let other = c.args.other in
    let zero : other.num ≡ pos 0 = omega (arith, ints) in
    product-zero self.num self.den other.num other.den zero (zero_is_whole other.num other.den other.lowest other.positive zero) (omega (arith, ints))

pub returns-then-other-eq1 : goal.returns-then-other-eq1
returns-then-other-eq1 c =
    let self = c.args.self in
    let other = c.args.other in
    let answer = c.in_ok-product.ensures in
    let self_num : to_z w128 (of_z w128 self.num) ≡ self.num = omega (arith, ints) in
    let other_num : to_z w128 (of_z w128 other.num) ≡ other.num = omega (arith, ints) in
    let value = ap (λ (z : ℤ). z *ℤ to_z w128 (of_z w128 other.num)) self_num ∙ ap (λ (z : ℤ). self.num *ℤ z) other_num in
    let field : to_z w128 (of_z w128 c.in_ok-product.field-0) ≡ c.in_ok-product.field-0 = omega (arith, ints) in
    whole-product self.num self.den other.num other.den c.whole.result.num c.whole.result.den
    (omega (arith, ints)) (omega (arith, ints)) (c.whole.ensures.0 ∙ (field ∙ (answer.0 ∙ value))) c.whole.ensures.1 (subst IsNarrow value answer.1)
