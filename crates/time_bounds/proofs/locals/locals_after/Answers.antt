use Rattle.std.proofs.Common.{◌≡◌, ◌+◌, List, length, sym, ap, subst, arith}
use Rattle.its_model.specs.Views.{program_of}
use Rattle.guard_prep.specs.Views.{prepared_of}
use Rattle.local_size.specs.declared.answer.LocalAnswer.{LocalAnswer}
use Rattle.time_bounds.specs.Locals.{is_live_rule_status, AreAnswersAt, AreAnswersAfter}
use Rattle.time_bounds.proofs.RuleSymbols.{target_read}
use Rattle.time_bounds.proofs.LiveLocals.{all_two, prepared_rule_prepared, prepared_rule_places, empty_got, live_after}
use Rattle.time_bounds.proofs.LocalLists.{none_after}
use Rattle.time_bounds.proofs.locals.locals_after.Goals as goal

pub returns-in-Empty : goal.returns-in-Empty
returns-in-Empty c =
    subst (λ (xs : List LocalAnswer). AreAnswersAfter (program_of c.args.cx.now.program.now) c.args.cx.now.pivots (c.args.position + 1) c.args.rule_status xs)
    (sym c.new.ensures.items)
    (none_after (program_of c.args.cx.now.program.now) c.args.cx.now.pivots (c.args.position + 1) c.args.rule_status (ap is_live_rule_status c.in-Empty.is))

pub returns-in-Unreached : goal.returns-in-Unreached
returns-in-Unreached c =
    subst (λ (xs : List LocalAnswer). AreAnswersAfter (program_of c.args.cx.now.program.now) c.args.cx.now.pivots (c.args.position + 1) c.args.rule_status xs)
    (sym c.new-in-Unreached.ensures.items)
    (none_after (program_of c.args.cx.now.program.now) c.args.cx.now.pivots (c.args.position + 1) c.args.rule_status (ap is_live_rule_status c.in-Unreached.is))

pub index-requires-in-Live : goal.index-requires-in-Live
index-requires-in-Live c =
    let within = target_read c.args.cx.now.program.now c.requires.ready.valid c.args.position c.index.result.now c.requires.position c.index.ensures in
    omega (arith, within, c.args.cx.now.program.now.symbols.ok.0)

pub live_locals-requires-clause-prepared : goal.live_locals-requires-clause-prepared
live_locals-requires-clause-prepared c =
    prepared_rule_prepared c.args.cx.now.program.now c.args.cx.now.pivots c.requires.ready.valid c.args.cx.now.prepared_rules.items c.requires.ready.rows c.args.cx.now.empties.items
    c.requires.ready.empties c.args.position c.requires.position c.index.result.now c.index.ensures c.index-in-Live-2.result.now
    c.index-in-Live-2.ensures c.index-in-Live-3.result.now c.index-in-Live-3.ensures

pub live_locals-requires-clause-places : goal.live_locals-requires-clause-places
live_locals-requires-clause-places c =
    prepared_rule_places c.args.cx.now.program.now c.args.cx.now.pivots c.requires.ready.valid c.args.cx.now.prepared_rules.items c.requires.ready.rows c.args.cx.now.empties.items
    c.requires.ready.empties c.args.position c.requires.position c.index.result.now c.index.ensures c.index-in-Live-2.result.now
    c.index-in-Live-2.ensures c.index-in-Live-3.result.now c.index-in-Live-3.ensures c.index-in-Live.result.now c.index-in-Live.ensures

pub live_locals-requires-clause-may_run : goal.live_locals-requires-clause-may_run
live_locals-requires-clause-may_run c =
    c.requires.may_run c.index-in-Live-3.result.now c.in-Live.is
    (empty_got c.args.cx.now.program.now c.args.cx.now.pivots c.requires.ready.valid c.args.cx.now.prepared_rules.items c.requires.ready.rows c.args.cx.now.empties.items
    c.requires.ready.empties c.args.position c.requires.position c.index.result.now c.index.ensures c.index-in-Live-2.result.now
    c.index-in-Live-2.ensures c.index-in-Live-3.result.now c.index-in-Live-3.ensures)

pub returns-in-Live : goal.returns-in-Live
returns-in-Live c =
    let p = program_of c.args.cx.now.program.now in
    let m = c.index-in-Live-2.result.now in
    let e = c.index-in-Live-3.result.now in
    all_two c.live_locals.result (λ xs. length xs.items ≡ c.index-in-Live.result.now.arity)
    (λ xs. AreAnswersAt (prepared_of m) (c.args.position + 1) c.args.cx.now.pivots e 1 xs.items)
    (λ xs. AreAnswersAfter p c.args.cx.now.pivots (c.args.position + 1) c.args.rule_status xs.items)
    (λ xs long each. live_after c.args.cx.now.program.now c.args.cx.now.pivots c.requires.ready.valid c.args.cx.now.prepared_rules.items c.requires.ready.rows
    c.args.cx.now.empties.items c.requires.ready.empties c.args.position c.requires.position c.index.result.now c.index.ensures m
    c.index-in-Live-2.ensures e c.index-in-Live-3.ensures c.args.rule_status xs.items c.index-in-Live.result.now c.index-in-Live.ensures long each)
    c.live_locals.ensures.one_each c.live_locals.ensures.each
