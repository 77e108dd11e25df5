use Rattle.std.proofs.Common.{◌≡◌, ◌+◌, ◌++◌, drop, map}
use Rattle.refined_programs.specs.its_model.Views.{rule_of}
use Rattle.refined_programs.specs.Affine.{affine_of}
use Rattle.refined_programs.specs.Ends.{lists_of}
use Rattle.refinement_check.specs.Views.{obligation_of, obligations_of_facts}
use Rattle.refinement_check.proofs.certificates.kept_facts.Given as goal

-- the obligations of the facts passed and those of the facts left are all
abbrev pub invariant-loop-j : goal.invariant-loop-j
invariant-loop-j l =
    map obligation_of l.found.items
    ++ obligations_of_facts l.number (l.j + 1) (rule_of l.along) (map affine_of (drop l.j l.facts)) (lists_of l.lists)
    ≡ obligations_of_facts l.number 1 (rule_of l.along) (map affine_of l.facts) (lists_of l.by)
