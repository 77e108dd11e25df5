use Rattle.std.proofs.Common.{◌≡◌, ◌+◌, ◌++◌, drop}
use Rattle.bound_derivations.specs.Views.{derivations_of}
use Rattle.time_bounds.specs.Beginning.{empty_derivations}
use Rattle.time_bounds.proofs.beginning.push_empty.Given as goal

-- the finished part and the rest are the whole list
abbrev pub invariant-loop-position : goal.invariant-loop-position
invariant-loop-position l =
    derivations_of l.derivations.items ++ empty_derivations (l.position + 1) (drop l.position l.empties)
    ≡ derivations_of l.initial.derivations.items ++ empty_derivations 1 l.empties
