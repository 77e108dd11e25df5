use Rattle.std.proofs.Common.{◌≡◌, take, map}
use Rattle.its_model.specs.Views.{atom_of}
use Rattle.refinement.specs.Sections.{passes}
use Rattle.refined_programs.specs.Affine.{affine_of}
use Rattle.refined_programs.proofs.spelling.atoms_of.Given as goal

-- the atoms are those of the facts passed
abbrev pub invariant-loop-fact : goal.invariant-loop-fact
invariant-loop-fact l =
    map atom_of l.atoms.items ≡ map passes (map affine_of (take l.fact-index l.copy.facts.items))
