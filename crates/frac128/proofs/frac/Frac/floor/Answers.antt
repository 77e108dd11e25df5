use Rattle.std.proofs.Common.{◌≡◌, pos, to_z, of_z, arith, ◌*ℤ◌, ◌<ℤ◌, ap, sym, ◌∙◌, subst}
use Rattle.std.specs.Int.{w128, int_div_euclid}
use Rattle.std.specs.Prelude.{ℤ, ◌+ℤ◌, ◌≤ℤ◌}
use Rattle.std.proofs.lemmas.Int.{ints}
use Rattle.frac128.proofs.Rounding.{div_euclid-is_floor}
use Rattle.frac128.proofs.frac.Frac.floor.Goals as goal

pub returns : goal.returns
returns c =
    let self = c.args.self in
    let num : to_z w128 (of_z w128 self.num) ≡ self.num = omega (arith, ints) in
    let den : to_z w128 (of_z w128 self.den) ≡ self.den = omega (arith, ints) in
    let quotient = c.div_euclid.ensures ∙ (ap (λ (z : ℤ). int_div_euclid z (to_z w128 (of_z w128 self.den))) num ∙ ap (λ (z : ℤ). int_div_euclid self.num z) den) in
    let result : to_z w128 (of_z w128 c.div_euclid.result) ≡ c.div_euclid.result = omega (arith, ints) in
    let bounds = div_euclid-is_floor self.num self.den self.positive in
    record {
      at_most = subst (λ (z : ℤ). (z *ℤ self.den) ≤ℤ self.num) (sym (result ∙ quotient)) bounds.0;
      maximum = subst (λ (z : ℤ). self.num <ℤ ((z +ℤ pos 1) *ℤ self.den)) (sym (result ∙ quotient)) bounds.1;
    }
