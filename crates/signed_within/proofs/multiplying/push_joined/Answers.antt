use Rattle.std.proofs.Common.{◌*◌, ◌≤◌, arith}
use Rattle.std.proofs.Math.Nat.{mul-le-mul_left}
use Rattle.signed_within.proofs.ProductLoops.{times-at}
use Rattle.signed_within.proofs.multiplying.push_joined.Goals as goal

pub joined-requires : goal.joined-requires
joined-requires c =
    let h = times-at c.args.qs.now c.loop-q.q-index c.q-item.result c.loop-q-test.true c.q-item.is in
    let k = mul-le-mul_left c.args.p.now.times h in
    omega arith
