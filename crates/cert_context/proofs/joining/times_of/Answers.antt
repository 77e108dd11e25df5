use Rattle.std.proofs.Common.{arith}
use Rattle.cert_context.proofs.Keys.{times-more, times-all}
use Rattle.cert_context.proofs.joining.times_of.Goals as goal

pub loop-i-preserved : goal.loop-i-preserved
loop-i-preserved c =
    times-more c.args.facts.now c.loop-i.i c.index-facts-i.result (omega arith) c.index-facts-i.is c.loop-i.times
    c.enter_time.new.times c.loop-i.invariant (c.in_ok-enter_time.ensures {u = tt})

pub returns : goal.returns
returns c = times-all c.args.facts.now c.loop-i.i c.loop-i.times (omega arith) c.loop-i.invariant
