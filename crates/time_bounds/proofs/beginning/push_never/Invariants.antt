use Rattle.std.proofs.Common.{◌≡◌, ◌+◌, ◌++◌, map, drop}
use Rattle.its_model.specs.Views.{rule_of, program_of}
use Rattle.bound_derivations.specs.Views.{derivations_of}
use Rattle.time_bounds.specs.Beginning.{never_derivations}
use Rattle.time_bounds.proofs.beginning.push_never.Given as goal

-- the finished part and the rest are the whole list
abbrev pub invariant-loop-position : goal.invariant-loop-position
invariant-loop-position l =
    derivations_of l.derivations.items
    ++ never_derivations (program_of l.cx.program.now) (l.position + 1) (drop l.position l.rule_statuses)
    (map rule_of (drop l.position l.cx.program.now.rules.items))
    ≡ derivations_of l.initial.derivations.items
    ++ never_derivations (program_of l.cx.program.now) 1 l.rule_statuses (program_of l.cx.program.now).rules
