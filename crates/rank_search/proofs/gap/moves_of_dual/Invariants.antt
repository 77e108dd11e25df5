use Rattle.std.proofs.Common.{◌≡◌, ◌++◌, ◌+◌, map, drop}
use Rattle.simplex_core.specs.linear_forms.Forms.{at}
use Rattle.simplex_core.specs.linear_forms.QuestionLaws.{after}
use Rattle.cert_types.specs.AnswerViews.{scaled_of}
use Rattle.rank_search.specs.RankAnswers.{points_of}
use Rattle.rule_questions.specs.GroupLines.{group_lines}
use Rattle.rank_search.specs.Reading.{shape_at}
use Rattle.rank_search.proofs.gap.moves_of_dual.Given as goal

-- the points so far and those of the remaining rules are all
abbrev pub invariant-loop-rule : goal.invariant-loop-rule
invariant-loop-rule l = record {
  kept : map scaled_of l.moves.items
      ++ points_of (after l.next (at l.numbers)) (map (shape_at l.prepared_rules) (drop l.rule-index l.set))
      ≡ points_of (after l.initial.next (at l.numbers)) (map (shape_at l.prepared_rules) l.set);
  left : l.next + group_lines (map (shape_at l.prepared_rules) (drop l.rule-index l.set))
      ≡ l.initial.next + group_lines (map (shape_at l.prepared_rules) l.set);
}
