use Rattle.std.proofs.Common.{◌-◌, ◌^◌}
use Rattle.signed_bounds.proofs.PartLoops.{depth-step}
use Rattle.signed_bounds.proofs.measured.+levels.Goals as goal

pub most_levels_in-loop-part-preserved : goal.most_levels_in-loop-part-preserved
most_levels_in-loop-part-preserved t c =
    depth-step c.args.parts.now c.loop-part.part-index c.part-item.result c.loop-part.most c.levels_in.result
    c.max-most.result
    (2 ^ 32 - 1) c.loop-part-test.true c.part-item.is c.loop-part.invariant c.levels_in.ensures c.max-most.ensures
