use Rattle.std.proofs.Common.{◌≡◌, pos, to_z, of_z, arith, ◌*ℤ◌, ◌<ℤ◌, ap, sym, ◌∙◌, subst}
use Rattle.std.specs.Int.{w128, int_div_euclid}
use Rattle.std.specs.Prelude.{unsigned_abs, ℤ, ◌-ℤ◌, ◌≤ℤ◌, neg_ℤ}
use Rattle.std.proofs.lemmas.Int.{ints}
use Rattle.frac128.specs.Narrow.{IsNarrow}
use Rattle.frac128.proofs.Rounding.{div_euclid-is_floor, div_euclid-small, negated_floor-is_ceiling}
use Rattle.frac128.proofs.frac.Frac.ceil.Goals as goal

pub returns : goal.returns
returns c =
    let self = c.args.self in
    let num : to_z w128 (of_z w128 (pos 0 -ℤ to_z w128 (of_z w128 self.num))) ≡ neg_ℤ self.num = omega (arith, ints) in
    let den : to_z w128 (of_z w128 self.den) ≡ self.den = omega (arith, ints) in
    let quotient = c.div_euclid.ensures ∙ (ap (λ (z : ℤ). int_div_euclid z (to_z w128 (of_z w128 self.den))) num ∙ ap (λ (z : ℤ). int_div_euclid (neg_ℤ self.num) z) den) in
    let small = div_euclid-small (neg_ℤ self.num) self.den self.positive in
    let size : unsigned_abs (neg_ℤ self.num) ≡ unsigned_abs self.num = omega (arith, ints) in
    let narrow : IsNarrow c.div_euclid.result = subst IsNarrow (sym quotient) (omega (arith, small, size, self.narrow)) in
    let result : to_z w128 (of_z w128 (pos 0 -ℤ to_z w128 (of_z w128 c.div_euclid.result))) ≡ neg_ℤ c.div_euclid.result = omega (arith, ints) in
    let negated = result ∙ ap neg_ℤ quotient in
    let bounds = negated_floor-is_ceiling self.num self.den (int_div_euclid (neg_ℤ self.num) self.den) (div_euclid-is_floor (neg_ℤ self.num) self.den self.positive) in
    record {
      at_least = subst (λ (z : ℤ). self.num ≤ℤ (z *ℤ self.den)) (sym negated) bounds.0;
      least = subst (λ (z : ℤ). ((z -ℤ pos 1) *ℤ self.den) <ℤ self.num) (sym negated) bounds.1;
    }
