use Rattle.std.proofs.Common.{◌+◌, ap, map, get_or, arith, ◌∙◌, ◌∷◌, []}
use Rattle.std.proofs.lemmas.List.{map-append}
use Rattle.simplex_core.specs.linear_forms.Forms.{at}
use Rattle.simplex_core.specs.linear_forms.QuestionLaws.{after}
use Rattle.cert_types.specs.AnswerViews.{scaled_of}
use Rattle.rank_search.specs.Reading.{shape_at}
use Rattle.rank_search.proofs.Groups.{parts-many, points-more, lines-more}
use Rattle.rule_questions.proofs.Lists.{read-again}
use Rattle.rank_search.proofs.gap.moves_of_dual.Goals as goal

pub loop-rule-preserved : goal.loop-rule-preserved
loop-rule-preserved c =
    let x = at c.args.numbers.now in
    let z = c.in_ok-element.element in
    let k = parts-many (after c.loop-rule.next x)
    (shape_at c.args.prepared_rules.now (get_or c.args.set.now c.loop-rule.rule-index 0))
    (scaled_of z) c.in_ok-element.ensures in
    let a = c.len.ensures in
    let b = z.parts.ok.0 in
    record {
      kept = points-more x c.args.prepared_rules.now c.args.set.now c.loop-rule.rule-index
          (get_or c.args.set.now c.loop-rule.rule-index 0) c.loop-rule.next (c.loop-rule.next + (c.len.result + 1))
          (map scaled_of c.loop-rule.moves.items)
          (map scaled_of c.push.new.self.items) _ (scaled_of z) c.loop-rule-test.true
          (read-again c.args.set.now c.loop-rule.rule-index 0 _ c.loop-rule-test.true) c.loop-rule.invariant.kept
          c.in_ok-element.ensures
          (ap (map scaled_of) c.in_ok-push.ensures.items ∙ map-append scaled_of c.loop-rule.moves.items (z ∷ []))
          (omega (arith, k, a, b));
      left = lines-more x c.args.prepared_rules.now c.args.set.now c.loop-rule.rule-index
          (get_or c.args.set.now c.loop-rule.rule-index 0) c.loop-rule.next
          (c.loop-rule.next + (c.len.result + 1)) _ c.loop-rule-test.true
          (read-again c.args.set.now c.loop-rule.rule-index 0 _ c.loop-rule-test.true)
          c.loop-rule.invariant.left
          (omega (arith, k, a, b));
    }
