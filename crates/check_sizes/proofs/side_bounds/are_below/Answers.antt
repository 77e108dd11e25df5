use Rattle.std.proofs.Common.{◌<◌, ℕ, refl, subst, arith}
use Rattle.std.specs.List.{All}
use Rattle.std.proofs.lemmas.List.{take_all}
use Rattle.std.proofs.lemmas.List.Elements.{All-more}
use Rattle.check_sizes.proofs.side_bounds.are_below.Goals as goal

pub loop-variable-preserved : goal.loop-variable-preserved
loop-variable-preserved c =
    All-more (λ (v : ℕ). v < c.args.left) c.args.variables.now c.loop-variable.variable-index 0 c.loop-variable-test.true
    c.loop-variable.invariant (omega arith)

pub returns : goal.returns
returns c = (
  λ e. subst (All (λ (v : ℕ). v < c.args.left))
      (take_all c.loop-variable.variable-index c.args.variables.now c.loop-variable-test.false) c.loop-variable.invariant,
  λ h. refl,
)
