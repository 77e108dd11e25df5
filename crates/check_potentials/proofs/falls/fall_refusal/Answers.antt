use Rattle.std.proofs.Common.{◌≡◌, ◌∙◌, List, map, sym, ap, ap₂, subst, Option}
use Rattle.std.specs.Prelude.{IfOk, option_map}
use Rattle.potential_nodes.specs.Checks as checks
use Rattle.signed_bounds.specs.Views.{signed_of}
use Rattle.potential_nodes.specs.Checks.{BadShape, first_refused}
use Rattle.potential_nodes.specs.Facts.{is_never}
use Rattle.potential_nodes.specs.Tables.{missing_checks, move_check}
use Rattle.potential_nodes.specs.Falls.{amount_at, fall_checks}
use Rattle.potential_types.specs.declared.tables.Move as code_moves
use Rattle.potential_types.specs.declared.nodes.Payment.{Payment}
use Rattle.potential_types.specs.Views.{fact_view, fall_of, move_of, payment_of, reason_of}
use Rattle.check_potentials.specs.Amounts.{amount_of}
use Rattle.check_potentials.specs.Grounds.{plain_ground}
use Rattle.check_potentials.specs.Stages.{fall_shape, fall_missing, fall_moves, fall_payments}
use Rattle.check_potentials.proofs.RefusalLaws.{misshapen, well_shaped, stops_behind, passes_behind}
use Rattle.check_potentials.proofs.StageLaws.{fall-shapes, fall-den}
use Rattle.check_potentials.proofs.falls.fall_refusal.Goals as goal

pub returns-then-not-is_right : goal.returns-then-not-is_right
returns-then-not-is_right c =
    let g = plain_ground c.args.ground in
    let facts = map fact_view c.args.known.facts.now in
    let n = fall_of c.args.node.now in
    let b = signed_of c.args.bound.now in
    misshapen BadShape (fall_shape g facts n) (fall_missing g facts n b) (fall-shapes g facts n)
    (sym c.if-not-is_right.true ∙ c.has_fall_shape-is_right.ensures)

pub payments_refusal-requires-clause-den : goal.payments_refusal-requires-clause-den
payments_refusal-requires-clause-den c =
    fall-den (plain_ground c.args.ground) (map fact_view c.args.known.facts.now) (fall_of c.args.node.now)
    (sym c.if-not-is_right.false ∙ c.has_fall_shape-is_right.ensures)

pub returns-in-Some : goal.returns-in-Some
returns-in-Some c =
    let g = plain_ground c.args.ground in
    let facts = map fact_view c.args.known.facts.now in
    let n = fall_of c.args.node.now in
    let b = signed_of c.args.bound.now in
    stops_behind (fall_checks g facts n b) (missing_checks g n.potential (is_never facts)) (fall_moves g facts n b)
    (reason_of c.in-Some.reason)
    (well_shaped (fall_shape g facts n) (fall_missing g facts n b)
    (sym c.if-not-is_right.false ∙ c.has_fall_shape-is_right.ensures))
    c.in-Some.ensures

pub returns-in-Some-unshown : goal.returns-in-Some-unshown
returns-in-Some-unshown c =
    let g = plain_ground c.args.ground in
    let facts = map fact_view c.args.known.facts.now in
    let n = fall_of c.args.node.now in
    let b = signed_of c.args.bound.now in
    stops_behind (fall_checks g facts n b) (map (move_check g n.potential (amount_at n)) n.potential.moves)
    (fall_payments g facts n b)
    (reason_of c.in-Some-unshown.reason)
    (passes_behind (fall_checks g facts n b) (missing_checks g n.potential (is_never facts)) (fall_moves g facts n b)
    (well_shaped (fall_shape g facts n) (fall_missing g facts n b)
    (sym c.if-not-is_right.false ∙ c.has_fall_shape-is_right.ensures))
    c.in_default.ensures)
    ((sym (ap (option_map reason_of) c.in-Some-unshown.is) ∙ c.in_ok-unshown.ensures)
    ∙ (ap₂ (λ (ms : List code_moves.Move) (ys : List Payment). first_refused
    (map (move_check g n.potential (amount_of (map payment_of ys))) (map move_of ms))) c.deref.ensures.value
    c.deref-2.ensures.value))

pub returns : goal.returns
returns c =
    let g = plain_ground c.args.ground in
    let facts = map fact_view c.args.known.facts.now in
    let n = fall_of c.args.node.now in
    let b = signed_of c.args.bound.now in
    subst (λ (v : Option checks.Reason). IfOk c.payments_refusal.result (λ o. option_map reason_of o ≡ v))
    (sym (passes_behind (fall_checks g facts n b) (map (move_check g n.potential (amount_at n)) n.potential.moves)
    (fall_payments g facts n b)
    (passes_behind (fall_checks g facts n b) (missing_checks g n.potential (is_never facts)) (fall_moves g facts n b)
    (well_shaped (fall_shape g facts n) (fall_missing g facts n b)
    (sym c.if-not-is_right.false ∙ c.has_fall_shape-is_right.ensures))
    c.in_default.ensures)
    ((sym (ap (option_map reason_of) c.in_default-unshown.is) ∙ c.in_ok-unshown.ensures)
    ∙ (ap₂ (λ (ms : List code_moves.Move) (ys : List Payment). first_refused
    (map (move_check g n.potential (amount_of (map payment_of ys))) (map move_of ms))) c.deref.ensures.value
    c.deref-2.ensures.value))))
    c.payments_refusal.ensures
