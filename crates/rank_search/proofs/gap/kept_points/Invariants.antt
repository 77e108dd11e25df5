use Rattle.std.proofs.Common.{◌≡◌, map, take, Some}
use Rattle.cert_types.specs.AnswerViews.{scaled_of}
use Rattle.rule_questions.specs.RuleAnswers.{answer_for, point_in}
use Rattle.rank_search.proofs.gap.kept_points.Given as goal

-- the points are those of the rules so far
abbrev pub invariant-loop-rule : goal.invariant-loop-rule
invariant-loop-rule l =
    map (λ z. Some z) (map scaled_of l.kept.items) ≡ map (λ t. point_in (answer_for l.empties t))
    (take l.rule-index l.set)
