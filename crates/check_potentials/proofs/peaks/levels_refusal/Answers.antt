use Rattle.std.proofs.Common.{◌∙◌, List, ◌∷◌, map, refl, sym, ap}
use Rattle.std.specs.Prelude.{option_map}
use Rattle.signed_bounds.specs.Bounds.{Signed}
use Rattle.signed_bounds.specs.Views.{signed_of}
use Rattle.std.specs.Prelude.{filter}
use Rattle.potential_types.specs.declared.tables.Move as code_moves
use Rattle.potential_nodes.specs.Checks.{LowBound, first_refused}
use Rattle.potential_nodes.specs.Tables.{start_bound}
use Rattle.potential_nodes.specs.Falls.{gain_check}
use Rattle.potential_nodes.specs.Peaks.{head_check, head_checks, peak_parts, reset_moves, sets_anew}
use Rattle.potential_types.specs.Views.{fact_view, move_of, reason_of, table_of}
use Rattle.check_potentials.specs.Grounds.{plain_ground, program}
use Rattle.check_potentials.specs.Stages.{peak_bounds, gain_bounded, is_level_within, are_levels_within}
use Rattle.check_potentials.proofs.RefusalLaws.{stops_behind, passes_behind, passed_one, failed_one, hold_refused}
use Rattle.check_potentials.proofs.RefusalLaws.{alike_refused}
use Rattle.check_potentials.proofs.LevelLaws.{heads-hold, heads-low}
use Rattle.check_potentials.proofs.peaks.levels_refusal.Goals as goal

pub returns-in-Some : goal.returns-in-Some
returns-in-Some c =
    let g = plain_ground c.args.ground in
    let facts = map fact_view c.args.facts.now in
    let tab = table_of c.args.table.now in
    let b = signed_of c.args.bound.now in
    let p = program c.args.ground in
    let k = head_check g facts tab b (start_bound g tab) in
    let heads = head_checks g facts tab b (peak_parts facts (reset_moves tab)) in
    stops_behind (peak_bounds g facts tab b) (map (gain_check g) tab.moves) (k ∷ heads) (reason_of c.in-Some.reason)
    refl
    ((sym (ap (option_map reason_of) c.in-Some.is) ∙ c.in_ok-gain.ensures)
    ∙ (ap (λ (ms : List code_moves.Move). first_refused (map gain_bounded (map move_of ms))) c.deref.ensures.value))

pub returns-then-not-is_high : goal.returns-then-not-is_high
returns-then-not-is_high c =
    let g = plain_ground c.args.ground in
    let facts = map fact_view c.args.facts.now in
    let tab = table_of c.args.table.now in
    let b = signed_of c.args.bound.now in
    let p = program c.args.ground in
    let k = head_check g facts tab b (start_bound g tab) in
    let heads = head_checks g facts tab b (peak_parts facts (reset_moves tab)) in
    sym (passes_behind (peak_bounds g facts tab b) (map (gain_check g) tab.moves) (k ∷ heads) refl
    ((sym (ap (option_map reason_of) c.in_default.is) ∙ c.in_ok-gain.ensures)
    ∙ (ap (λ (ms : List code_moves.Move). first_refused (map gain_bounded (map move_of ms))) c.deref.ensures.value))
    ∙ failed_one k heads (sym (ap (λ (l : Signed). is_level_within facts tab b l) c.in_ok-level.ensures)
    ∙ (sym c.in_ok-is_high.ensures ∙ c.if-not-is_high.true)))

pub returns-then-not-are_high : goal.returns-then-not-are_high
returns-then-not-are_high c =
    let g = plain_ground c.args.ground in
    let facts = map fact_view c.args.facts.now in
    let tab = table_of c.args.table.now in
    let b = signed_of c.args.bound.now in
    let p = program c.args.ground in
    let k = head_check g facts tab b (start_bound g tab) in
    let heads = head_checks g facts tab b (peak_parts facts (reset_moves tab)) in
    sym (passes_behind (peak_bounds g facts tab b) (map (gain_check g) tab.moves) (k ∷ heads) refl
    ((sym (ap (option_map reason_of) c.in_default.is) ∙ c.in_ok-gain.ensures)
    ∙ (ap (λ (ms : List code_moves.Move). first_refused (map gain_bounded (map move_of ms))) c.deref.ensures.value))
    ∙ (passed_one k heads (sym (ap (λ (l : Signed). is_level_within facts tab b l) c.in_ok-level.ensures)
    ∙ (sym c.in_ok-is_high.ensures ∙ c.if-not-is_high.false))
    ∙ alike_refused LowBound heads (heads-low p facts tab b (peak_parts facts (reset_moves tab)))
    (heads-hold p facts tab b (peak_parts facts (reset_moves tab))
    ∙ (sym (ap (λ (ms : List code_moves.Move). are_levels_within facts tab b
    (peak_parts facts (filter sets_anew (map move_of ms)))) c.deref-2.ensures.value)
    ∙ (sym c.in_ok-are_high.ensures ∙ c.if-not-are_high.true)))))

pub returns : goal.returns
returns c =
    let g = plain_ground c.args.ground in
    let facts = map fact_view c.args.facts.now in
    let tab = table_of c.args.table.now in
    let b = signed_of c.args.bound.now in
    let p = program c.args.ground in
    let k = head_check g facts tab b (start_bound g tab) in
    let heads = head_checks g facts tab b (peak_parts facts (reset_moves tab)) in
    sym (passes_behind (peak_bounds g facts tab b) (map (gain_check g) tab.moves) (k ∷ heads) refl
    ((sym (ap (option_map reason_of) c.in_default.is) ∙ c.in_ok-gain.ensures)
    ∙ (ap (λ (ms : List code_moves.Move). first_refused (map gain_bounded (map move_of ms))) c.deref.ensures.value))
    ∙ (passed_one k heads (sym (ap (λ (l : Signed). is_level_within facts tab b l) c.in_ok-level.ensures)
    ∙ (sym c.in_ok-is_high.ensures ∙ c.if-not-is_high.false))
    ∙ hold_refused heads (heads-hold p facts tab b (peak_parts facts (reset_moves tab))
    ∙ (sym (ap (λ (ms : List code_moves.Move). are_levels_within facts tab b
    (peak_parts facts (filter sets_anew (map move_of ms)))) c.deref-2.ensures.value)
    ∙ (sym c.in_ok-are_high.ensures ∙ c.if-not-are_high.false)))))
