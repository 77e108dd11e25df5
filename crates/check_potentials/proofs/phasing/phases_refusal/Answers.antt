use Rattle.std.proofs.Common.{◌≡◌, ◌∙◌, map, sym, ap, subst, Option}
use Rattle.std.specs.Prelude.{IfOk, option_map}
use Rattle.potential_nodes.specs.Checks as checks
use Rattle.signed_bounds.specs.Views.{signed_of}
use Rattle.potential_nodes.specs.Checks.{BadShape, first_refused}
use Rattle.potential_nodes.specs.PhaseNodes.{phases_checks}
use Rattle.potential_types.specs.Views.{fact_view, phases_node_of, reason_of}
use Rattle.check_potentials.specs.Grounds.{plain_ground}
use Rattle.check_potentials.specs.Stages.{phase_shapes, phase_behind, missing_moves, phase_moves}
use Rattle.check_potentials.proofs.RefusalLaws.{misshapen, well_shaped, stops_behind, passes_behind}
use Rattle.check_potentials.proofs.StageLaws.{phase-shapes, phase-den, behind_missing}
use Rattle.check_potentials.proofs.phasing.phases_refusal.Goals as goal

pub returns-then-not-is_right : goal.returns-then-not-is_right
returns-then-not-is_right c =
    let g = plain_ground c.args.ground in
    let facts = map fact_view c.args.known.facts.now in
    let n = phases_node_of c.args.node.now in
    let b = signed_of c.args.bound.now in
    misshapen BadShape (phase_shapes g n) (phase_behind g facts n b) (phase-shapes g n)
    (sym c.if-not-is_right.true ∙ c.have_phase_shapes-is_right.ensures)

pub moves_refusal-requires-clause-den : goal.moves_refusal-requires-clause-den
moves_refusal-requires-clause-den c =
    phase-den (plain_ground c.args.ground) (phases_node_of c.args.node.now)
    (sym c.if-not-is_right.false ∙ c.have_phase_shapes-is_right.ensures)

pub returns-in-Some : goal.returns-in-Some
returns-in-Some c =
    let g = plain_ground c.args.ground in
    let facts = map fact_view c.args.known.facts.now in
    let n = phases_node_of c.args.node.now in
    let b = signed_of c.args.bound.now in
    stops_behind (phases_checks g facts n b) (missing_moves g facts n) (phase_moves g n b) (reason_of c.in-Some.reason)
    (behind_missing g facts n b (well_shaped (phase_shapes g n) (phase_behind g facts n b)
    (sym c.if-not-is_right.false ∙ c.have_phase_shapes-is_right.ensures)))
    (sym (ap (option_map reason_of) c.in-Some.is) ∙ c.missing_phase_move-missing.ensures n c.in_ok-tables.ensures)

pub returns : goal.returns
returns c =
    let g = plain_ground c.args.ground in
    let facts = map fact_view c.args.known.facts.now in
    let n = phases_node_of c.args.node.now in
    let b = signed_of c.args.bound.now in
    subst (λ (v : Option checks.Reason). IfOk c.moves_refusal.result (λ o. option_map reason_of o ≡ v))
    (sym (passes_behind (phases_checks g facts n b) (missing_moves g facts n) (phase_moves g n b)
    (behind_missing g facts n b (well_shaped (phase_shapes g n) (phase_behind g facts n b)
    (sym c.if-not-is_right.false ∙ c.have_phase_shapes-is_right.ensures)))
    (sym (ap (option_map reason_of) c.in_default.is) ∙ c.missing_phase_move-missing.ensures n c.in_ok-tables.ensures)))
    c.moves_refusal.ensures
