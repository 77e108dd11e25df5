use Rattle.std.proofs.Common.{◌<◌, ◌^◌, arith, sym, subst}
use Rattle.std.specs.Int.{w128}
use Rattle.std.specs.Prelude.{ℤ, unsigned_abs}
use Rattle.std.proofs.lemmas.Int.{to_z-of_z}
use Rattle.simplex_core.proofs.arithmetic.lowest.Goals as goal

pub unreachable-requires : goal.unreachable-requires
unreachable-requires c =
    let over = c.requires.over_bounded in
    let under = c.requires.under_bounded in
    let narrow_over = subst (λ (z : ℤ). unsigned_abs z < 2 ^ 127) (sym (to_z-of_z w128 c.args.over c.ranges.over)) (omega (arith, over)) in
    let narrow_under = subst (λ (z : ℤ). unsigned_abs z < 2 ^ 127) (sym (to_z-of_z w128 c.args.under c.ranges.under)) (omega (arith, under)) in
    c.in-Err.ensures (narrow_over, (narrow_under, tt))
