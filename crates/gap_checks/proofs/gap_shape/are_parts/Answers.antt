use Rattle.std.proofs.Common.{◌≤◌, refl, subst, arith}
use Rattle.std.specs.Prelude.{ℤ, pos, nat_abs}
use Rattle.std.specs.List.{All}
use Rattle.std.proofs.lemmas.Int.{ints}
use Rattle.std.proofs.lemmas.List.{take_all}
use Rattle.std.proofs.lemmas.List.Elements.{All-more}
use Rattle.farkas_cert.specs.linear_forms.Limits.{point_limit}
use Rattle.gap_checks.proofs.gap_shape.are_parts.Goals as goal

pub loop-part-preserved : goal.loop-part-preserved
loop-part-preserved c =
    All-more (λ (x : ℤ). nat_abs x ≤ point_limit) c.args.parts.now c.loop-part.part-index (pos 0) c.loop-part-test.true
    c.loop-part.invariant (omega (arith, ints))

pub returns : goal.returns
returns c = (
  λ e. subst (All (λ (x : ℤ). nat_abs x ≤ point_limit))
      (take_all c.loop-part.part-index c.args.parts.now c.loop-part-test.false) c.loop-part.invariant,
  λ h. refl,
)
