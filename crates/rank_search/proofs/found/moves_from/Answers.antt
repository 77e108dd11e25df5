use Rattle.std.proofs.Common.{◌+◌, ap, map, get_or, arith, ◌∙◌, ◌∷◌, []}
use Rattle.std.proofs.lemmas.List.{map-append}
use Rattle.simplex_core.specs.linear_forms.Forms.{at}
use Rattle.simplex_core.specs.linear_forms.QuestionLaws.{after}
use Rattle.rank_search.specs.Reading.{shape_at}
use Rattle.rank_search.proofs.Groups.{multipliers-many, multipliers-more, columns-more}
use Rattle.rule_questions.proofs.Lists.{read-again}
use Rattle.rank_search.proofs.found.moves_from.Goals as goal

pub loop-rule-preserved : goal.loop-rule-preserved
loop-rule-preserved c =
    let x = at c.args.numbers.now in
    let m = c.in_ok-multipliers.multipliers in
    let k = multipliers-many (after c.loop-rule.next x)
    (shape_at c.args.prepared_rules.now
    (get_or c.args.set.now c.loop-rule.rule-index 0)) m.items c.in_ok-multipliers.ensures in
    let a = c.len.ensures in
    let b = m.ok.0 in
    record {
      kept = multipliers-more x c.args.prepared_rules.now c.args.set.now c.loop-rule.rule-index
          (get_or c.args.set.now c.loop-rule.rule-index 0) c.loop-rule.next (c.loop-rule.next + (c.len.result + 1))
          (map (λ v. v.items) c.loop-rule.moves.items)
          (map (λ v. v.items) c.push.new.self.items) _ m.items c.loop-rule-test.true
          (read-again c.args.set.now c.loop-rule.rule-index 0 _ c.loop-rule-test.true) c.loop-rule.invariant.kept
          c.in_ok-multipliers.ensures
          (ap (map (λ v. v.items)) c.in_ok-push.ensures.items ∙ map-append (λ v. v.items) c.loop-rule.moves.items
          (m ∷ [])) (omega (arith, k, a, b));
      left = columns-more x c.args.prepared_rules.now c.args.set.now c.loop-rule.rule-index
          (get_or c.args.set.now c.loop-rule.rule-index 0) c.loop-rule.next
          (c.loop-rule.next + (c.len.result + 1)) _ c.loop-rule-test.true
          (read-again c.args.set.now c.loop-rule.rule-index 0 _ c.loop-rule-test.true)
          c.loop-rule.invariant.left
          (omega (arith, k, a, b));
    }
