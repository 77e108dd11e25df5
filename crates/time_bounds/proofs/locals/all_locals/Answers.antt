use Rattle.std.proofs.Common.{◌≡◌, ℕ, ◌+◌, List, [], ◌∷◌, ◌++◌, length, take, Vec, sym, ◌∙◌, ap, subst, arith}
use Rattle.std.specs.declared.alloc.Global.{Global}
use Rattle.std.proofs.lemmas.List.{take_more, length-take-le, length-map, map-append}
use Rattle.its_model.specs.Views.{rule_of, program_of}
use Rattle.local_size.specs.declared.answer.LocalAnswer.{LocalAnswer}
use Rattle.rvg_components.specs.Listing.{answer_lists}
use Rattle.std.specs.Prelude.{slice_index_or}
use Rattle.time_bounds.specs.declared.rule_statuses.RuleStatus.{RuleStatus}
use Rattle.time_bounds.specs.declared.rule_statuses.RuleStatus.TheVariants.{Empty}
use Rattle.time_bounds.specs.Locals.{AreAllAnswers, AreAnswersAfter}
use Rattle.time_bounds.proofs.LocalLists.{rule_status_read, live_runs, all_more}
use Rattle.time_bounds.proofs.locals.all_locals.Goals as goal

pub locals_after-requires-clause-position : goal.locals_after-requires-clause-position
locals_after-requires-clause-position c =
    omega (arith, c.loop-position-test.true, c.requires.rule_statuses.one_each, length-map c.args.cx.now.program.now.rules.items rule_of)

pub locals_after-requires-clause-may_run : goal.locals_after-requires-clause-may_run
locals_after-requires-clause-may_run c = λ a live got.
    live_runs (program_of c.args.cx.now.program.now) c.args.cx.now.pivots c.args.rule_statuses.now c.args.cx.now.empties.items c.loop-position.position a c.requires.rule_statuses
    c.requires.ready.empties (omega (arith, c.loop-position-test.true, c.requires.rule_statuses.one_each))
    (rule_status_read c.args.rule_statuses.now c.loop-position.position Empty c.loop-position-test.true ∙ live) got

pub loop-position-preserved : goal.loop-position-preserved
loop-position-preserved c =
    let p = program_of c.args.cx.now.program.now in
    let i = c.loop-position.position in
    let f = slice_index_or c.args.rule_statuses.now i Empty in
    let v = c.in_ok-locals_after.field-0 in
    let number : i + 1 ≡ 1 + length (take i c.args.rule_statuses.now) =
    omega (arith, length-take-le i c.args.rule_statuses.now (omega (arith, c.loop-position-test.true))) in
    let one : AreAnswersAfter p c.args.cx.now.pivots (i + 1) f v.items = c.in_ok-locals_after.ensures in
    let more = all_more p c.args.cx.now.pivots 1 (take i c.args.rule_statuses.now) (answer_lists c.loop-position.locals.items) f v.items c.loop-position.invariant
    (subst (λ (n : ℕ). AreAnswersAfter p c.args.cx.now.pivots n f v.items) number one) in
    let rule_statuses : take i c.args.rule_statuses.now ++ f ∷ [] ≡ take (i + 1) c.args.rule_statuses.now =
    sym (take_more c.args.rule_statuses.now i Empty c.loop-position-test.true) in
    let lists : answer_lists c.loop-position.locals.items ++ v.items ∷ [] ≡ answer_lists c.push.new.self.items =
    sym (map-append (λ (l : Vec LocalAnswer Global). l.items) c.loop-position.locals.items (v ∷ []))
    ∙ ap answer_lists (sym c.in_ok-push.ensures.items) in
    subst (λ (ls : List (List LocalAnswer)). AreAllAnswers p c.args.cx.now.pivots 1 (take (i + 1) c.args.rule_statuses.now) ls) lists
    (subst (λ (fs : List RuleStatus). AreAllAnswers p c.args.cx.now.pivots 1 fs (answer_lists c.loop-position.locals.items ++ v.items ∷ [])) rule_statuses more)
