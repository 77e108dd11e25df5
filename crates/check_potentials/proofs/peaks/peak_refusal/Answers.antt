use Rattle.std.proofs.Common.{◌≡◌, ◌∙◌, List, map, sym, ap, subst, Option}
use Rattle.std.specs.Prelude.{IfOk, option_map}
use Rattle.potential_nodes.specs.Checks as checks
use Rattle.signed_bounds.specs.Views.{signed_of}
use Rattle.potential_nodes.specs.Checks.{BadShape, first_refused}
use Rattle.potential_nodes.specs.Facts.{is_never}
use Rattle.potential_nodes.specs.Tables.{missing_checks, move_check}
use Rattle.potential_nodes.specs.Peaks.{no_amounts, peak_checks}
use Rattle.potential_types.specs.declared.tables.Move as code_moves
use Rattle.potential_types.specs.Views.{fact_view, peak_of, move_of, reason_of}
use Rattle.check_potentials.specs.Grounds.{plain_ground}
use Rattle.check_potentials.specs.Stages.{peak_shape, peak_missing, peak_moves, peak_levels}
use Rattle.check_potentials.proofs.RefusalLaws.{misshapen, well_shaped, stops_behind, passes_behind}
use Rattle.check_potentials.proofs.StageLaws.{peak-shapes, peak-den}
use Rattle.check_potentials.proofs.peaks.peak_refusal.Goals as goal

pub returns-then-not-is_right : goal.returns-then-not-is_right
returns-then-not-is_right c =
    let g = plain_ground c.args.ground in
    let facts = map fact_view c.args.known.facts.now in
    let n = peak_of c.args.node.now in
    let b = signed_of c.args.bound.now in
    misshapen BadShape (peak_shape g facts n) (peak_missing g facts n b) (peak-shapes g facts n)
    (sym c.if-not-is_right.true ∙ c.has_peak_shape-is_right.ensures)

pub floor_refusal-requires-clause-den : goal.floor_refusal-requires-clause-den
floor_refusal-requires-clause-den c =
    peak-den (plain_ground c.args.ground) (map fact_view c.args.known.facts.now) (peak_of c.args.node.now)
    (sym c.if-not-is_right.false ∙ c.has_peak_shape-is_right.ensures)

pub returns-in-Some : goal.returns-in-Some
returns-in-Some c =
    let g = plain_ground c.args.ground in
    let facts = map fact_view c.args.known.facts.now in
    let n = peak_of c.args.node.now in
    let b = signed_of c.args.bound.now in
    stops_behind (peak_checks g facts n b) (missing_checks g n.potential (is_never facts)) (peak_moves g facts n b)
    (reason_of c.in-Some.reason)
    (well_shaped (peak_shape g facts n) (peak_missing g facts n b)
    (sym c.if-not-is_right.false ∙ c.has_peak_shape-is_right.ensures))
    c.in-Some.ensures

pub returns-in-Some-unshown : goal.returns-in-Some-unshown
returns-in-Some-unshown c =
    let g = plain_ground c.args.ground in
    let facts = map fact_view c.args.known.facts.now in
    let n = peak_of c.args.node.now in
    let b = signed_of c.args.bound.now in
    stops_behind (peak_checks g facts n b) (map (move_check g n.potential no_amounts) n.potential.moves)
    (peak_levels g facts n b)
    (reason_of c.in-Some-unshown.reason)
    (passes_behind (peak_checks g facts n b) (missing_checks g n.potential (is_never facts)) (peak_moves g facts n b)
    (well_shaped (peak_shape g facts n) (peak_missing g facts n b)
    (sym c.if-not-is_right.false ∙ c.has_peak_shape-is_right.ensures))
    c.in_default.ensures)
    ((sym (ap (option_map reason_of) c.in-Some-unshown.is) ∙ c.in_ok-unshown.ensures)
    ∙ (ap (λ (ms : List code_moves.Move). first_refused
    (map (move_check g n.potential no_amounts) (map move_of ms))) c.deref.ensures.value))

pub returns : goal.returns
returns c =
    let g = plain_ground c.args.ground in
    let facts = map fact_view c.args.known.facts.now in
    let n = peak_of c.args.node.now in
    let b = signed_of c.args.bound.now in
    subst (λ (v : Option checks.Reason). IfOk c.floor_refusal.result (λ o. option_map reason_of o ≡ v))
    (sym (passes_behind (peak_checks g facts n b) (map (move_check g n.potential no_amounts) n.potential.moves)
    (peak_levels g facts n b)
    (passes_behind (peak_checks g facts n b) (missing_checks g n.potential (is_never facts)) (peak_moves g facts n b)
    (well_shaped (peak_shape g facts n) (peak_missing g facts n b)
    (sym c.if-not-is_right.false ∙ c.has_peak_shape-is_right.ensures))
    c.in_default.ensures)
    ((sym (ap (option_map reason_of) c.in_default-unshown.is) ∙ c.in_ok-unshown.ensures)
    ∙ (ap (λ (ms : List code_moves.Move). first_refused
    (map (move_check g n.potential no_amounts) (map move_of ms))) c.deref.ensures.value))))
    c.floor_refusal.ensures
