use Rattle.std.proofs.Common.{◌≡◌, map, take}
use Rattle.time_bounds.specs.Locals.{is_live_rule_status}
use Rattle.time_bounds.proofs.locals.live_rules.Given as goal

abbrev pub invariant-loop-rule_status : goal.invariant-loop-rule_status
invariant-loop-rule_status l = l.live.items ≡ map is_live_rule_status (take l.rule_status-index l.rule_statuses)
