use Rattle.std.proofs.Common.{◌≡◌, ℕ, ◌+◌, List, [], ◌∷◌, length, sym, ap, subst, arith}
use Rattle.std.proofs.lemmas.List.{length-append}
use Rattle.guard_prep.specs.Views.{prepared_of}
use Rattle.local_size.specs.LocalAnswers.{IsLocal, local_answer_of}
use Rattle.local_size.specs.declared.answer.LocalAnswer.{LocalAnswer}
use Rattle.bound_fixpoint.specs.Keys.{key as result_variable}
use Rattle.time_bounds.specs.Locals.{AreAnswersAt}
use Rattle.time_bounds.proofs.LocalLists.{answer_more}
use Rattle.time_bounds.proofs.locals.live_locals.Goals as goal

pub loop-position-preserved : goal.loop-position-preserved
loop-position-preserved c =
    let m = prepared_of c.args.prepared_rule.now in
    let a = c.in_ok-local.field-0 in
    let old = c.loop-position.answers.items in
    let number : c.loop-position.position + 1 ≡ 1 + length old = omega (arith, c.loop-position.invariant.long) in
    let one : IsLocal m (result_variable c.args.rule (c.loop-position.position + 1)) c.args.cx.now.pivots c.args.empty.now (local_answer_of a) = c.in_ok-local.ensures in
    let more = answer_more m c.args.rule c.args.cx.now.pivots c.args.empty.now 1 old a c.loop-position.invariant.each
    (subst (λ (n : ℕ). IsLocal m (result_variable c.args.rule n) c.args.cx.now.pivots c.args.empty.now (local_answer_of a)) number one) in
    record {
      long = omega (arith, ap (λ (xs : List LocalAnswer). length xs) c.in_ok-push.ensures.items, length-append old (a ∷ []), c.loop-position.invariant.long);
      each = subst (λ (xs : List LocalAnswer). AreAnswersAt m c.args.rule c.args.cx.now.pivots c.args.empty.now 1 xs) (sym c.in_ok-push.ensures.items) more;
    }
