use Rattle.cert_types.proofs.NumberSets.{number_more}
use Rattle.cert_types.proofs.entering.set_of.Goals as goal

pub loop-number-preserved : goal.loop-number-preserved
loop-number-preserved c =
    number_more c.loop-number.set c.insert.new.self c.args.numbers.now c.loop-number.number-index c.loop-number-test.true
    c.loop-number.invariant c.in_ok-insert.ensures.updates.0
