use Rattle.std.proofs.Common.{map, ap, ◌∙◌, arith}
use Rattle.std.specs.Prelude.{ℤ, int_div}
use Rattle.std.specs.Int.{w128, cast_signed, cast_unsigned}
use Rattle.std.proofs.lemmas.Int.{to_z-of_z}
use Rattle.guard_prep.proofs.TighteningLaws.{divide-step, front-all}
use Rattle.guard_prep.proofs.tighten.divided.Goals as goal

pub loop-i-preserved : goal.loop-i-preserved
loop-i-preserved c =
    c.divide_at.ensures
    ∙ divide-step (cast_signed w128 (cast_unsigned w128 c.args.divisor)) c.args.row.coefs.items c.loop-i.coefs.items c.loop-i.i c.loop-i.invariant
    (omega (arith, c.args.row.coefs.ok.0))

pub returns-clause-coefs : goal.returns-clause-coefs
returns-clause-coefs c =
    c.loop-i.invariant
    ∙ (front-all (λ a. int_div a (cast_signed w128 (cast_unsigned w128 c.args.divisor))) c.args.row.coefs.items c.loop-i.i (omega (arith, c.args.row.coefs.ok.0))
    ∙ ap (λ (d : ℤ). map (λ a. int_div a d) c.args.row.coefs.items) (to_z-of_z w128 c.args.divisor c.ranges.divisor))
