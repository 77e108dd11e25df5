use Rattle.std.proofs.Common.{◌≡◌, ◌++◌, map, drop}
use Rattle.while_model.specs.Moves.{negations}
use Rattle.its_model.specs.Views.{atom_of}
use Rattle.while_front.proofs.negations.negations.Given as goal

-- The negations of the atoms passed, and then those of the atoms left, are those of all.
abbrev pub invariant-loop-atom : goal.invariant-loop-atom
invariant-loop-atom l =
    map atom_of l.atoms.items ++ negations (map atom_of (drop l.atom-index l.test)) ≡ negations (map atom_of l.test)
