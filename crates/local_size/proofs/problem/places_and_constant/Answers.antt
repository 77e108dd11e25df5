use Rattle.std.proofs.Common.{refl}
use Rattle.local_size.proofs.KindLists.{places-pushed}
use Rattle.local_size.proofs.problem.places_and_constant.Goals as goal

pub loop-before-preserved : goal.loop-before-preserved
loop-before-preserved c =
    places-pushed c.loop-before.before c.loop-before.places.items c.push.new.self.items _ c.loop-before.invariant
    c.in_ok-push.ensures.items refl
