use Rattle.std.proofs.Common.{arith}
use Rattle.cert_context.proofs.Keys.{sizes-more, sizes-all}
use Rattle.cert_context.proofs.joining.sizes_of.Goals as goal

pub loop-i-preserved : goal.loop-i-preserved
loop-i-preserved c =
    sizes-more c.args.facts.now c.loop-i.i c.index-facts-i.result (omega arith) c.index-facts-i.is c.loop-i.sizes
    c.enter_size.new.sizes c.loop-i.invariant (c.in_ok-enter_size.ensures {u = tt})

pub returns : goal.returns
returns c = sizes-all c.args.facts.now c.loop-i.i c.loop-i.sizes (omega arith) c.loop-i.invariant
