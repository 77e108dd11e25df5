use Rattle.std.proofs.Common.{sym}
use Rattle.its_model.specs.Views.{program_of}
use Rattle.cert_types.specs.AnswerViews.{gap_of}
use Rattle.gap_checks.proofs.FirstFaults.{first-move, first-floor, first-kept, first-balance, first-loss, gap-holds}
use Rattle.gap_checks.proofs.GapFaults.{have-small, near-moves, near-kept, near-floor, same-near}
use Rattle.gap_checks.proofs.gap_faults.gap_fault.Goals as goal

pub first_wrong_move-requires-clause-rows : goal.first_wrong_move-requires-clause-rows
first_wrong_move-requires-clause-rows c = have-small (program_of c.args.p.now) c.requires.valid c.args.prepared_rules.now c.requires.rows

pub first_wrong_move-requires-clause-near : goal.first_wrong_move-requires-clause-near
first_wrong_move-requires-clause-near c =
    same-near _ _ _ _ (sym c.deref.ensures.value) (sym c.deref-2.ensures.value)
    (near-moves (program_of c.args.p.now) c.requires.valid (gap_of c.args.g.now) (c.has_gap_shape.ensures.0 c.if-not-has_gap_shape.false))

pub returns-in-Some : goal.returns-in-Some
returns-in-Some c =
    first-move (program_of c.args.p.now) c.args.prepared_rules.now c.requires.rows c.args.g.now
    (c.has_gap_shape.ensures.0 c.if-not-has_gap_shape.false)
    c.deref.result.now c.deref-2.result.now c.in-Some.rule c.deref.ensures.value c.deref-2.ensures.value c.in-Some.ensures

pub is_met-requires-clause-rows : goal.is_met-requires-clause-rows
is_met-requires-clause-rows c =
    (have-small (program_of c.args.p.now) c.requires.valid c.args.prepared_rules.now c.requires.rows).rows c.args.g.now.rule

pub is_met-requires-clause-near : goal.is_met-requires-clause-near
is_met-requires-clause-near c =
    near-floor (program_of c.args.p.now) c.requires.valid (gap_of c.args.g.now) (c.has_gap_shape.ensures.0 c.if-not-has_gap_shape.false)

pub returns-then-not-is_met : goal.returns-then-not-is_met
returns-then-not-is_met c =
    first-floor (program_of c.args.p.now) c.args.prepared_rules.now c.requires.rows c.args.g.now
    (c.has_gap_shape.ensures.0 c.if-not-has_gap_shape.false)
    c.deref.result.now c.deref-2.result.now c.deref.ensures.value c.deref-2.ensures.value c.in_default.ensures
    (λ m. let t = c.if-not-is_met.ensures.1 m in let no : ⊥ = cc in no)

pub first_not_kept-requires-clause-rows : goal.first_not_kept-requires-clause-rows
first_not_kept-requires-clause-rows c = have-small (program_of c.args.p.now) c.requires.valid c.args.prepared_rules.now c.requires.rows

pub first_not_kept-requires-clause-near : goal.first_not_kept-requires-clause-near
first_not_kept-requires-clause-near c =
    same-near _ _ _ _ (sym c.deref-3.ensures.value) (sym c.deref-4.ensures.value)
    (near-kept (program_of c.args.p.now) c.requires.valid (gap_of c.args.g.now) (c.has_gap_shape.ensures.0 c.if-not-has_gap_shape.false))

pub returns-in-Some-first_not_kept : goal.returns-in-Some-first_not_kept
returns-in-Some-first_not_kept c =
    first-kept (program_of c.args.p.now) c.args.prepared_rules.now c.requires.rows c.args.g.now
    (c.has_gap_shape.ensures.0 c.if-not-has_gap_shape.false)
    c.deref.result.now c.deref-2.result.now c.deref.ensures.value c.deref-2.ensures.value c.in_default.ensures
    (c.is_met.ensures.0 c.if-not-is_met.false)
    c.deref-3.result.now c.deref-4.result.now c.in-Some-first_not_kept.rule c.deref-3.ensures.value c.deref-4.ensures.value
    c.in-Some-first_not_kept.ensures

pub returns-in-Some-first_unbalanced : goal.returns-in-Some-first_unbalanced
returns-in-Some-first_unbalanced c =
    first-balance (program_of c.args.p.now) c.args.prepared_rules.now c.requires.rows c.args.g.now
    (c.has_gap_shape.ensures.0 c.if-not-has_gap_shape.false)
    c.deref.result.now c.deref-2.result.now c.deref.ensures.value c.deref-2.ensures.value c.in_default.ensures
    (c.is_met.ensures.0 c.if-not-is_met.false)
    c.deref-3.result.now c.deref-4.result.now c.deref-3.ensures.value c.deref-4.ensures.value
    c.in_default-first_not_kept.ensures c.in-Some-first_unbalanced.symbol c.in-Some-first_unbalanced.place c.in-Some-first_unbalanced.ensures

pub returns-then-loses_nothing : goal.returns-then-loses_nothing
returns-then-loses_nothing c =
    let both = c.loses_nothing.ensures.0 c.if-loses_nothing.true in
    first-loss (program_of c.args.p.now) c.args.prepared_rules.now c.requires.rows c.args.g.now
    (c.has_gap_shape.ensures.0 c.if-not-has_gap_shape.false)
    c.deref.result.now c.deref-2.result.now c.deref.ensures.value c.deref-2.ensures.value c.in_default.ensures
    (c.is_met.ensures.0 c.if-not-is_met.false)
    c.deref-3.result.now c.deref-4.result.now c.deref-3.ensures.value c.deref-4.ensures.value
    c.in_default-first_not_kept.ensures c.in_default-first_unbalanced.ensures both.0 both.1

pub returns : goal.returns
returns c =
    gap-holds (program_of c.args.p.now) c.args.prepared_rules.now c.requires.rows c.args.g.now
    (c.has_gap_shape.ensures.0 c.if-not-has_gap_shape.false)
    c.deref.result.now c.deref-2.result.now c.deref.ensures.value c.deref-2.ensures.value c.in_default.ensures
    (c.is_met.ensures.0 c.if-not-is_met.false)
    c.deref-3.result.now c.deref-4.result.now c.deref-3.ensures.value c.deref-4.ensures.value
    c.in_default-first_not_kept.ensures c.in_default-first_unbalanced.ensures
    (λ both. let t = c.loses_nothing.ensures.1 both in let no : ⊥ = cc in no)
