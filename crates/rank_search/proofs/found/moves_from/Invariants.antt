use Rattle.std.proofs.Common.{◌≡◌, ◌++◌, ◌+◌, map, drop}
use Rattle.simplex_core.specs.linear_forms.Forms.{at}
use Rattle.simplex_core.specs.linear_forms.Questions.{group_columns}
use Rattle.simplex_core.specs.linear_forms.QuestionLaws.{after, multipliers_by_group}
use Rattle.rank_search.specs.Reading.{shape_at}
use Rattle.rank_search.proofs.found.moves_from.Given as goal

-- the multipliers so far and those of the remaining rules are all
abbrev pub invariant-loop-rule : goal.invariant-loop-rule
invariant-loop-rule l = record {
  kept : map (λ m. m.items) l.moves.items
      ++ multipliers_by_group (after l.next (at l.numbers)) (map (shape_at l.prepared_rules) (drop l.rule-index l.set))
      ≡ multipliers_by_group (after l.initial.next (at l.numbers)) (map (shape_at l.prepared_rules) l.set);
  left : l.next + group_columns (map (shape_at l.prepared_rules) (drop l.rule-index l.set))
      ≡ l.initial.next + group_columns (map (shape_at l.prepared_rules) l.set);
}
