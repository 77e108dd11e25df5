use Rattle.std.proofs.Common.{rules, ◌≡◌, ap, sym, ◌∙◌, subst, to_z, of_z}
use Rattle.std.specs.Int.{w64, ◌∣◌}
use Rattle.std.specs.Prelude.{ℤ, ◌*ℤ◌, unsigned_abs}
use Rattle.std.proofs.lemmas.Int.{to_z-of_z}
use Rattle.int_laws.proofs.RingLaws.{mul_comm_ℤ}
use Rattle.frac128.proofs.LowestTerms.{quotients-cross}
use Rattle.sparse_columns.proofs.ratio.Ratio.new.Goals as goal

pub exact_quotient-requires-clause-divides : goal.exact_quotient-requires-clause-divides
exact_quotient-requires-clause-divides c =
    let plain : to_z w64 (of_z w64 c.common_divisor-divisor.result) ≡ c.common_divisor-divisor.result = search rules in
    subst (λ (x : ℤ). unsigned_abs x ∣ unsigned_abs (to_z w64 (of_z w64 c.args.number))) (sym plain) c.common_divisor-divisor.ensures.divides.0

pub exact_quotient-requires-2-clause-divides : goal.exact_quotient-requires-2-clause-divides
exact_quotient-requires-2-clause-divides c =
    let plain : to_z w64 (of_z w64 c.common_divisor-divisor.result) ≡ c.common_divisor-divisor.result = search rules in
    subst (λ (x : ℤ). unsigned_abs x ∣ unsigned_abs (to_z w64 (of_z w64 c.args.pivot))) (sym plain) c.common_divisor-divisor.ensures.divides.1

pub returns : goal.returns
returns c =
    let over : to_z w64 (of_z w64 c.exact_quotient.result) ≡ c.exact_quotient.result = search rules in
    let under : to_z w64 (of_z w64 c.exact_quotient-2.result) ≡ c.exact_quotient-2.result = search rules in
    let cross = quotients-cross c.args.number c.args.pivot _ c.exact_quotient.result c.exact_quotient-2.result
    (c.exact_quotient.ensures.exact ∙ to_z-of_z w64 c.args.number c.ranges.number) (c.exact_quotient-2.ensures.exact ∙ to_z-of_z w64 c.args.pivot c.ranges.pivot) in
    ap (λ (z : ℤ). c.args.pivot *ℤ z) over
    ∙ (mul_comm_ℤ c.args.pivot c.exact_quotient.result ∙ (cross ∙ ap (λ (z : ℤ). c.args.number *ℤ z) (sym under)))
