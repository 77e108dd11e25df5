use Rattle.std.proofs.Common.{sym, ◌∙◌}
use Rattle.signed_within.proofs.TotalLoops.{below-more}
use Rattle.signed_within.proofs.whole.is_below_constant.Goals as goal

pub returns-then-is_below_part : goal.returns-then-is_below_part
returns-then-is_below_part c =
    sym (sym c.loop-part.invariant
    ∙ below-more c.args.n c.args.m c.args.parts.now c.loop-part.part-index c.part-item.result _ c.loop-part-test.true
    c.part-item.is (sym c.is_below_part.ensures ∙ c.if-is_below_part.true))

pub loop-part-preserved : goal.loop-part-preserved
loop-part-preserved c =
    sym (below-more c.args.n c.args.m c.args.parts.now c.loop-part.part-index c.part-item.result _ c.loop-part-test.true
    c.part-item.is (sym c.is_below_part.ensures ∙ c.if-is_below_part.false))
    ∙ c.loop-part.invariant
