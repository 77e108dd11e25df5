use Rattle.std.proofs.Common.{◌*◌, ◌≤◌, arith}
use Rattle.std.proofs.Math.Nat.{mul-le-mul_left}
use Rattle.signed_within.proofs.ProductLoops.{times-at}
use Rattle.signed_within.proofs.multiplying.push_scaled.Goals as goal

pub scaled-requires : goal.scaled-requires
scaled-requires c =
    let h = times-at c.args.qs.now c.loop-q.q-index c.q-item.result c.loop-q-test.true c.q-item.is in
    let k = mul-le-mul_left c.args.n h in
    omega arith
