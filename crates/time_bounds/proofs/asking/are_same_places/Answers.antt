use Rattle.std.proofs.Common.{◌<◌, arith}
use Rattle.std.proofs.lemmas.List.{ext_get_or}
use Rattle.time_bounds.proofs.asking.are_same_places.Goals as goal

pub returns : goal.returns
returns c =
    λ _. ext_get_or (0, 0) c.args.first.now c.args.second.now c.if-first-second.false
    (λ k l. c.loop-i.invariant k (let z : k < c.loop-i.i = omega (arith, l, c.loop-i-test.false) in z))
