use Rattle.std.proofs.Common.{◌≡◌, ◌++◌, drop, map}
use Rattle.its_model.specs.Views.{program_of}
use Rattle.refined_programs.specs.Views.{copy_of}
use Rattle.facts_section.specs.Counted.{counted_branches}
use Rattle.facts_section.specs.Lists.{counted_of, needed_count}
use Rattle.facts_section.proofs.section.all_branches.Given as goal

-- the branches at the copies passed and those at the copies left are all
abbrev pub invariant-loop-copy : goal.invariant-loop-copy
invariant-loop-copy l =
    map counted_of l.branches.items
    ++ counted_branches (program_of l.p) (map needed_count l.certified.symbols.now)
    (map copy_of (drop l.copy-index l.copies))
    ≡ counted_branches (program_of l.p) (map needed_count l.certified.symbols.now) (map copy_of l.copies)
