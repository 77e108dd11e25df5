use Rattle.std.proofs.Common.{◌≡◌, filter}
use Rattle.std.specs.List.{range_with_len}
use Rattle.rank_search.specs.rule_questions.RuleAnswers.{answer_for}
use Rattle.time_bounds.specs.RuleStatuses.{is_said_empty}
use Rattle.time_bounds.proofs.rule_statuses.empty_rules.Given as goal

abbrev pub invariant-loop-position : goal.invariant-loop-position
invariant-loop-position l = l.found.items ≡ filter (λ t. is_said_empty (answer_for l.empties t)) (range_with_len 1 l.position)
