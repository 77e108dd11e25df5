use Rattle.std.proofs.Common.{◌≡◌, ◌∙◌, map, sym, subst, Option}
use Rattle.std.specs.Prelude.{IfOk, option_map}
use Rattle.potential_nodes.specs.Checks as checks
use Rattle.signed_bounds.specs.Views.{signed_of}
use Rattle.potential_types.specs.Views.{fact_view, peak_of, reason_of}
use Rattle.check_potentials.specs.Grounds.{plain_ground}
use Rattle.check_potentials.specs.Stages.{peak_floor, peak_bounds}
use Rattle.check_potentials.proofs.RefusalLaws.{passed_one, failed_one}
use Rattle.check_potentials.proofs.peaks.floor_refusal.Goals as goal

pub returns-then-not-is_shown : goal.returns-then-not-is_shown
returns-then-not-is_shown c =
    let g = plain_ground c.args.ground in
    let facts = map fact_view c.args.facts.now in
    let n = peak_of c.args.node.now in
    let b = signed_of c.args.bound.now in
    sym (failed_one (peak_floor g n) (peak_bounds g facts n.potential b)
    (sym c.in_ok-is_shown.ensures ∙ c.if-not-is_shown.true))

pub returns : goal.returns
returns c =
    let g = plain_ground c.args.ground in
    let facts = map fact_view c.args.facts.now in
    let n = peak_of c.args.node.now in
    let b = signed_of c.args.bound.now in
    subst (λ (v : Option checks.Reason). IfOk c.levels_refusal.result (λ o. option_map reason_of o ≡ v))
    (sym (passed_one (peak_floor g n) (peak_bounds g facts n.potential b)
    (sym c.in_ok-is_shown.ensures ∙ c.if-not-is_shown.false)))
    c.levels_refusal.ensures
