use Rattle.std.proofs.Common.{refl, subst, arith}
use Rattle.std.specs.Prelude.{ℤ, pos, nat_abs}
use Rattle.std.specs.List.{All}
use Rattle.std.proofs.lemmas.Int.{ints}
use Rattle.std.proofs.lemmas.List.{take_all}
use Rattle.std.proofs.lemmas.List.Elements.{All-more}
use Rattle.cert_types.specs.cert_rules.Limits.{IsInLimit}
use Rattle.cert_context.proofs.multipliers.are_within.Goals as goal

pub loop-coef-preserved : goal.loop-coef-preserved
loop-coef-preserved c =
    All-more (λ (x : ℤ). IsInLimit (nat_abs x)) c.args.coefs.now c.loop-coef.coef-index (pos 0) c.loop-coef-test.true
    c.loop-coef.invariant (omega (arith, ints))

pub returns : goal.returns
returns c = (
  λ e. subst (All (λ (x : ℤ). IsInLimit (nat_abs x))) (take_all c.loop-coef.coef-index c.args.coefs.now c.loop-coef-test.false)
      c.loop-coef.invariant,
  λ h. refl,
)
