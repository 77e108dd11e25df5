use Rattle.std.proofs.Common.{◌≡◌, take}
use Rattle.time_bounds.specs.RuleStatuses.{rule_statuses_by}
use Rattle.time_bounds.proofs.rule_statuses.rule_statuses_of.Given as goal

abbrev pub invariant-loop-position : goal.invariant-loop-position
invariant-loop-position l = l.found.items ≡ rule_statuses_by l.reached (take l.position l.empties) (take l.position l.rules)
