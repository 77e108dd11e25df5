use Rattle.std.proofs.Common.{◌≡◌, ◌++◌, drop, map}
use Rattle.its_model.specs.Views.{rule_of, program_of}
use Rattle.refinement.specs.Sections.{rule_copies}
use Rattle.refined_programs.specs.Views.{branch_of, section_of}
use Rattle.refined_programs.proofs.spelling.rules_of.Given as goal

-- the rules of the branches passed and those of the branches left are all
abbrev pub invariant-loop-branch : goal.invariant-loop-branch
invariant-loop-branch l =
    map rule_of l.rules.items
    ++ map (λ c. c.rule) (rule_copies (program_of l.p) (section_of l.section)
    (map branch_of (drop l.branch-index l.section.branches.items)))
    ≡ map (λ c. c.rule) (rule_copies (program_of l.p) (section_of l.section)
    (map branch_of l.section.branches.items))
