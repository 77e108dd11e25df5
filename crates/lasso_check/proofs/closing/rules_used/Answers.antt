use Rattle.std.proofs.Common.{arith, ◌+◌, ◌∙◌, refl}
use Rattle.lasso_check.proofs.Turns.{rules_more}
use Rattle.lasso_check.proofs.closing.rules_used.Goals as goal

pub loop-i-preserved : goal.loop-i-preserved
loop-i-preserved c = λ f are.
    c.in_ok-list_where.ensures
    ∙ rules_more c.args.used.now c.loop-i.i (c.loop-i.i + 1) _ _ c.loop-i.rules.items c.loop-i-test.true refl (omega arith)
    c.loop-i.invariant f are
