use Rattle.std.proofs.Common.{◌≡◌, ℕ, pos, to_z, of_z, arith, ◌<ℤ◌, ap, sym, ◌∙◌, subst}
use Rattle.std.specs.Int.{w128, ◌∣◌}
use Rattle.std.specs.Prelude.{unsigned_abs, ℤ, ◌-ℤ◌}
use Rattle.std.proofs.lemmas.Int.{ints}
use Rattle.frac128.specs.Narrow.{IsNarrow}
use Rattle.frac128.proofs.frac.Frac.negated.Goals as goal

pub invariant_of-result : goal.invariant_of-result
invariant_of-result c =
    let self = c.args.self in
    let num : to_z w128 (of_z w128 (pos 0 -ℤ to_z w128 (of_z w128 self.num))) ≡ pos 0 -ℤ self.num = omega (arith, ints) in
    let den : to_z w128 (of_z w128 self.den) ≡ self.den = omega (arith, ints) in
    let size : unsigned_abs (pos 0 -ℤ self.num) ≡ unsigned_abs self.num = omega (arith, ints) in
    record {
      narrow = subst IsNarrow (sym num) (omega (arith, size, self.narrow));
      positive = subst (λ (z : ℤ). pos 0 <ℤ z) (sym den) self.positive;
      lowest = λ k divides_num divides_den.
          self.lowest k (subst (λ (n : ℕ). k ∣ n) (ap unsigned_abs num ∙ size) divides_num) (subst (λ (z : ℤ). k ∣ unsigned_abs z) den divides_den);
    }
