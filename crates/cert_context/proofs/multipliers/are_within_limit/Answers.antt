use Rattle.std.proofs.Common.{◌≤◌, ℕ, refl, subst, arith}
use Rattle.std.specs.List.{All}
use Rattle.std.proofs.lemmas.List.{take_all}
use Rattle.std.proofs.lemmas.List.Elements.{All-more}
use Rattle.poly_terms.specs.linear_forms.Limits.{certificate_limit}
use Rattle.cert_context.proofs.multipliers.are_within_limit.Goals as goal

pub loop-multiplier-preserved : goal.loop-multiplier-preserved
loop-multiplier-preserved c =
    All-more (λ (m : ℕ). m ≤ certificate_limit) c.args.multipliers.now c.loop-multiplier.multiplier-index 0
    c.loop-multiplier-test.true c.loop-multiplier.invariant (omega arith)

pub returns : goal.returns
returns c = (
  λ e. subst (All (λ (m : ℕ). m ≤ certificate_limit))
      (take_all c.loop-multiplier.multiplier-index c.args.multipliers.now c.loop-multiplier-test.false)
      c.loop-multiplier.invariant,
  λ h. refl,
)
