use Rattle.std.proofs.Common.{map, take}
use Rattle.its_model.specs.Views.{rule_of, program_of}
use Rattle.bound_derivations.specs.Starting.{AreFirstRows}
use Rattle.bound_derivations.proofs.starting.start_sizes.Given as goal

abbrev pub invariant-loop-rule : goal.invariant-loop-rule
invariant-loop-rule l =
    AreFirstRows (program_of l.p) (map rule_of (take l.rule-index l.p.rules.items))
    (map (λ row. row.items) l.sizes.items)
