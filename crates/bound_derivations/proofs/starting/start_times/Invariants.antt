use Rattle.bound_derivations.specs.Starting.{AreStartTimes}
use Rattle.bound_derivations.proofs.starting.start_times.Given as goal

abbrev pub invariant-loop : goal.invariant-loop
invariant-loop l = AreStartTimes l.counter l.times.items
