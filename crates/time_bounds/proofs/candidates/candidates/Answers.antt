use Rattle.std.proofs.Common.{◌∙◌, sym, subst, List, Vec}
use Rattle.std.specs.List.{All}
use Rattle.std.specs.declared.alloc.Global.{Global}
use Rattle.std.proofs.lemmas.Result.{IfOk-weaker}
use Rattle.its_model.specs.Views.{program_of}
use Rattle.local_size.specs.declared.answer.LocalAnswer.{LocalAnswer}
use Rattle.rvg_components.specs.Listing.{answer_lists, local_from}
use Rattle.time_bounds.specs.Candidates.{IsAnswered, AreArmed, AreCandidatesOf}
use Rattle.time_bounds.proofs.ComponentSideBounds.{handed, given, found_answered, found_candidates}
use Rattle.time_bounds.proofs.candidates.candidates.Goals as goal

pub components-requires : goal.components-requires
components-requires c =
    let p = program_of c.args.cx.now.program.now in
    let h = handed p c.args.cx.now.pivots c.args.rule_statuses.now c.args.cx.now.graph c.args.cx.now.prepared_rules.items c.deref.result.now c.in_ok-locals.locals.items
    c.deref-2.result.now c.deref-3.result.now c.requires.ready.valid c.requires.ready.graph c.requires.ready.rows c.requires.rule_statuses c.in_ok-locals.ensures
    c.deref.ensures.value c.deref-2.ensures.value (c.deref-3.ensures.value ∙ c.in_ok-live.ensures) in
    (p, given p c.args.cx.now.pivots c.args.rule_statuses.now c.args.cx.now.graph c.deref.result.now c.deref-2.result.now c.deref-3.result.now h)

pub with_side_bounds-requires : goal.with_side_bounds-requires
with_side_bounds-requires c =
    let p = program_of c.args.cx.now.program.now in
    let h = handed p c.args.cx.now.pivots c.args.rule_statuses.now c.args.cx.now.graph c.args.cx.now.prepared_rules.items c.deref.result.now c.in_ok-locals.locals.items
    c.deref-2.result.now c.deref-3.result.now c.requires.ready.valid c.requires.ready.graph c.requires.ready.rows c.requires.rule_statuses c.in_ok-locals.ensures
    c.deref.ensures.value c.deref-2.ensures.value (c.deref-3.ensures.value ∙ c.in_ok-live.ensures) in
    let g = given p c.args.cx.now.pivots c.args.rule_statuses.now c.args.cx.now.graph c.deref.result.now c.deref-2.result.now c.deref-3.result.now h in
    let all = found_answered p c.args.cx.now.pivots c.args.rule_statuses.now c.args.cx.now.graph c.deref.result.now c.deref-2.result.now c.deref-3.result.now h
    c.in_ok-found.found.items (c.in_ok-found.ensures.components p g) (c.in_ok-found.ensures.looping p g) in
    subst (λ (xs : List (Vec LocalAnswer Global)). All (IsAnswered (answer_lists xs)) c.in_ok-found.found.items)
    (c.deref-2.ensures.value ∙ sym c.deref-4.ensures.value) all

pub returns : goal.returns
returns c =
    let p = program_of c.args.cx.now.program.now in
    let h = handed p c.args.cx.now.pivots c.args.rule_statuses.now c.args.cx.now.graph c.args.cx.now.prepared_rules.items c.deref.result.now c.in_ok-locals.locals.items
    c.deref-2.result.now c.deref-3.result.now c.requires.ready.valid c.requires.ready.graph c.requires.ready.rows c.requires.rule_statuses c.in_ok-locals.ensures
    c.deref.ensures.value c.deref-2.ensures.value (c.deref-3.ensures.value ∙ c.in_ok-live.ensures) in
    let g = given p c.args.cx.now.pivots c.args.rule_statuses.now c.args.cx.now.graph c.deref.result.now c.deref-2.result.now c.deref-3.result.now h in
    IfOk-weaker c.with_side_bounds.result (λ cs. AreArmed (local_from (answer_lists c.deref-4.result.now)) c.in_ok-found.found.items cs.items)
    (λ cs. AreCandidatesOf p c.args.cx.now.pivots cs.items)
    (λ cs armed. found_candidates p c.args.cx.now.pivots c.args.rule_statuses.now c.args.cx.now.graph c.deref.result.now c.deref-2.result.now c.deref-3.result.now h
    c.in_ok-found.found.items (c.in_ok-found.ensures.components p g) (c.in_ok-found.ensures.looping p g) cs.items
    (subst (λ (xs : List (Vec LocalAnswer Global)). AreArmed (local_from (answer_lists xs)) c.in_ok-found.found.items cs.items)
    (c.deref-4.ensures.value ∙ sym c.deref-2.ensures.value) armed)) c.with_side_bounds.ensures
