use Rattle.std.proofs.Common.{◌≡◌, ◌+◌, ◌++◌, drop, map}
use Rattle.refined_programs.specs.its_model.Views.{rule_of}
use Rattle.section_checks.specs.Faults.{due_at}
use Rattle.refinement_check.specs.Views.{due_of}
use Rattle.refinement_check.proofs.due.push_due.Given as goal

-- the branches of the rules passed and those of the rules left, after the branches before, are all
abbrev pub invariant-loop-i : goal.invariant-loop-i
invariant-loop-i l =
    map due_of l.dues.items ++ due_at l.source l.symbol (l.i + 1) (map rule_of (drop l.i l.rules))
    ≡ map due_of l.fn.dues.items ++ due_at l.source l.symbol 1 (map rule_of l.rules)
