use Rattle.std.proofs.Common.{◌*◌, ◌≤◌, arith}
use Rattle.std.proofs.Math.Nat.{mul-le-mul_right}
use Rattle.signed_bounds.specs.Products.{times_sum}
use Rattle.signed_within.specs.Views.{products_at}
use Rattle.signed_within.proofs.ProductLoops.{times-at}
use Rattle.signed_within.proofs.multiplying.multiplied.Goals as goal

pub push_joined-requires : goal.push_joined-requires
push_joined-requires c =
    let h = times-at c.args.ps.now c.loop-p.p-index c.p-item.result c.loop-p-test.true c.p-item.is in
    let k = mul-le-mul_right (times_sum (products_at c.args.qs.now)) h in
    omega arith
