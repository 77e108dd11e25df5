use Rattle.std.proofs.Common.{◌≡◌, suc, ◌++◌, drop, map}
use Rattle.its_model.specs.Steps.{guard_fault}
use Rattle.its_model.specs.Views.{atom_of}
use Rattle.its_model.proofs.step.guard_error.Given as goal

-- The fault of the remaining atoms is that of all.
abbrev pub invariant-loop-i : goal.invariant-loop-i
invariant-loop-i l = guard_fault (l.left ++ l.free) (suc l.i) (map atom_of (drop l.i l.atoms)) ≡ guard_fault (l.left ++ l.free) 1 (map atom_of l.atoms)
