use Rattle.std.proofs.Common.{◌≡◌, ◌++◌, filter, map, drop}
use Rattle.its_model.specs.Views.{atom_of}
use Rattle.section_makers.specs.Lighter.{is_small_atom}
use Rattle.section_makers.proofs.atoms.small_atoms.Given as goal

-- the atoms kept so far, and those that are kept of the atoms left, are all that are kept
abbrev pub invariant-loop-atom : goal.invariant-loop-atom
invariant-loop-atom l =
    map atom_of l.kept.items ++ filter (is_small_atom l.limit) (map atom_of (drop l.atom-index l.atoms))
    ≡ filter (is_small_atom l.limit) (map atom_of l.atoms)
