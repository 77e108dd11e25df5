use Rattle.bound_derivations.proofs.StartIndex.{arguments_more}
use Rattle.bound_derivations.proofs.starting.arguments.Goals as goal

pub loop-place-preserved : goal.loop-place-preserved
loop-place-preserved c =
    arguments_more c.loop-place.place c.loop-place.sizes.items c.push.new.self.items c.argument.result
    c.loop-place.invariant c.in_ok-push.ensures.items c.argument.ensures.bound c.argument.ensures.number
