use Rattle.bound_derivations.specs.Starting.{IsStartRow}
use Rattle.bound_derivations.proofs.starting.arguments.Given as goal

abbrev pub invariant-loop-place : goal.invariant-loop-place
invariant-loop-place l = IsStartRow l.place l.sizes.items
