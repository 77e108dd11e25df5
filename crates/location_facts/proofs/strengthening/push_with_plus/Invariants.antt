use Rattle.std.proofs.Common.{◌≡◌, ◌++◌, map}
use Rattle.std.specs.List.{range_with_len}
use Rattle.its_model.specs.Views.{atom_of}
use Rattle.location_facts.specs.Strengthening.{atoms_with_plus}
use Rattle.location_facts.proofs.strengthening.push_with_plus.Given as goal

-- the atoms with the minus places so far are appended
abbrev pub invariant-loop-minus : goal.invariant-loop-minus
invariant-loop-minus l =
    map atom_of l.atoms.items
    ≡ map atom_of l.fn.atoms.items ++ atoms_with_plus l.facts l.plus (range_with_len 0 l.minus)
