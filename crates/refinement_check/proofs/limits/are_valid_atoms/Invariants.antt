use Rattle.std.proofs.Common.{◌≡◌, drop, map}
use Rattle.std.specs.List.{list_all}
use Rattle.refined_programs.specs.its_model.Views.{atom_of}
use Rattle.section_decide.specs.Deciding.{is_valid_atom}
use Rattle.refinement_check.proofs.limits.are_valid_atoms.Given as goal

-- whether all atoms are valid depends on those left
abbrev pub invariant-loop-atom : goal.invariant-loop-atom
invariant-loop-atom l =
    list_all (is_valid_atom l.variables) (map atom_of (drop l.atom-index l.atoms))
    ≡ list_all (is_valid_atom l.variables) (map atom_of l.atoms)
