use Rattle.std.proofs.Common.{◌≡◌, map}
use Rattle.std.specs.List.{range_with_len}
use Rattle.its_model.specs.Views.{atom_of}
use Rattle.location_facts.specs.Strengthening.{atoms_with}
use Rattle.location_facts.proofs.strengthening.strongest_atoms.Given as goal

-- the atoms are those with a plus so far
abbrev pub invariant-loop-plus : goal.invariant-loop-plus
invariant-loop-plus l = map atom_of l.atoms.items ≡ atoms_with l.facts (range_with_len 0 l.plus)
