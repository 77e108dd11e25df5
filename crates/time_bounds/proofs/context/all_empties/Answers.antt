use Rattle.std.proofs.Common.{◌≡◌, ℕ, ◌+◌, List, [], ◌∷◌, ◌++◌, length, take, sym, ◌∙◌, ap, subst, arith}
use Rattle.std.proofs.lemmas.List.{take_more, length-take-le}
use Rattle.guard_prep.specs.declared.rule_rows.RuleRows.{RuleRows}
use Rattle.guard_prep.specs.Views.{prepared_of}
use Rattle.cert_types.specs.declared.answer.GuardFeasibility.{GuardFeasibility}
use Rattle.rank_search.specs.rule_questions.EmptyAnswers.{IsEmptyAnswer}
use Rattle.time_bounds.specs.Questions.{AreAnswersFrom}
use Rattle.time_bounds.proofs.RowLaws.{answer_pushed}
use Rattle.time_bounds.proofs.context.all_empties.Goals as goal

pub loop-position-preserved : goal.loop-position-preserved
loop-position-preserved c =
    let i = c.loop-position.position in
    let m = c.index-prepared_rules-position.result in
    let a = c.in_ok-guard_feasibility.field-0 in
    let number : i + 1 ≡ 1 + length (take i c.args.prepared_rules.now) =
    omega (arith, length-take-le i c.args.prepared_rules.now (omega (arith, c.loop-position-test.true))) in
    let answer : IsEmptyAnswer (prepared_of m) (i + 1) c.args.pivots a = c.in_ok-guard_feasibility.ensures in
    let more = answer_pushed c.args.pivots 1 (take i c.args.prepared_rules.now) c.loop-position.answers.items m a c.loop-position.invariant
    (subst (λ (n : ℕ). IsEmptyAnswer (prepared_of m) n c.args.pivots a) number answer) in
    let rows : take i c.args.prepared_rules.now ++ m ∷ [] ≡ take (i + 1) c.args.prepared_rules.now =
    ap (λ (x : RuleRows). take i c.args.prepared_rules.now ++ x ∷ []) c.index-prepared_rules-position.is
    ∙ sym (take_more c.args.prepared_rules.now i m c.loop-position-test.true) in
    subst (λ (os : List GuardFeasibility). AreAnswersFrom c.args.pivots 1 (take (i + 1) c.args.prepared_rules.now) os) (sym c.in_ok-push.ensures.items)
    (subst (λ (ms : List RuleRows). AreAnswersFrom c.args.pivots 1 ms (c.loop-position.answers.items ++ a ∷ [])) rows more)
