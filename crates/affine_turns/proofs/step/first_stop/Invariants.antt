use Rattle.std.proofs.Common.{◌≡◌, suc, drop, map}
use Rattle.its_model.specs.Views.{atom_of}
use Rattle.affine_turns.specs.Affine.{with_free}
use Rattle.affine_turns.specs.Turns.{guard_stop}
use Rattle.affine_turns.proofs.step.first_stop.Given as goal

-- the first failure among all atoms is the first one among the remaining atoms
abbrev pub invariant-loop-i : goal.invariant-loop-i
invariant-loop-i l =
    guard_stop (with_free l.places l.free) (suc l.i) (map atom_of (drop l.i l.atoms))
    ≡ guard_stop (with_free l.places l.free) 1 (map atom_of l.atoms)
