use Rattle.std.proofs.Common.{◌≡◌, take}
use Rattle.std.specs.Prelude.{map}
use Rattle.its_model.specs.Views.{atom_of}
use Rattle.location_facts.proofs.copies.copied_atoms.Given as goal

-- the atoms so far are copied
abbrev pub invariant-loop-atom : goal.invariant-loop-atom
invariant-loop-atom l = map atom_of l.copies.items ≡ map atom_of (take l.atom-index l.atoms)
