use Rattle.std.proofs.Common.{arith}
use Rattle.its_model.specs.Views.{program_of}
use Rattle.location_facts.proofs.FaultSteps.{right-next, number-after}
use Rattle.location_facts.proofs.faults.first_wrong.Goals as goal

pub loop-i-preserved : goal.loop-i-preserved
loop-i-preserved c = record {
  right = right-next (program_of c.args.p.now) c.args.f.now c.loop-i.i c.loop-i.least c.index-fact.result.now
      c.index.result.now c.deref.result.now (omega arith) c.requires.one_each c.index-fact.ensures c.index.ensures
      c.deref.ensures.value c.loop-i.invariant.right c.loop-i.invariant.next
      (c.is_right-right.ensures.0 c.if-not-right.false);
  next = number-after c.args.f.now c.loop-i.i c.index-fact.result.now c.number_of-least.result (omega arith)
      c.index-fact.ensures c.number_of-least.ensures.same;
}

pub returns : goal.returns
returns c = λ i f ps l stands. c.loop-i.invariant.right i f ps (omega (arith, l, c.loop-i-test.false)) stands
