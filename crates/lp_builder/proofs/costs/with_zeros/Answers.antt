use Rattle.std.proofs.Common.{◌-◌, ◌++◌, List, ap, arith, ◌∙◌, replicate}
use Rattle.std.specs.Prelude.{ℤ, pos}
use Rattle.lp_builder.proofs.CostLists.{zero-moved, none-left}
use Rattle.lp_builder.proofs.costs.with_zeros.Goals as goal

pub loop-left-preserved : goal.loop-left-preserved
loop-left-preserved c =
    ap (λ (xs : List ℤ). xs ++ replicate (c.loop-left.left - 1) (pos 0)) c.in_ok-push.ensures.items
    ∙ (zero-moved c.loop-left.all.items c.loop-left.left (omega (arith, c.loop-left-test.true)) ∙ c.loop-left.invariant)

pub returns : goal.returns
returns c = none-left c.loop-left.all.items c.loop-left.left (omega (arith, c.loop-left-test.false)) ∙ c.loop-left.invariant
