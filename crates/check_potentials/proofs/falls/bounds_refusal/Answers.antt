use Rattle.std.proofs.Common.{rules, ◌≡◌, ℕ, ◌∙◌, List, [], ◌∷◌, map, refl, sym, ap}
use Rattle.std.specs.Prelude.{option_map}
use Rattle.signed_bounds.specs.Bounds.{Signed}
use Rattle.signed_bounds.specs.Safe.{expands_to_squares}
use Rattle.signed_bounds.specs.Within.{within}
use Rattle.signed_bounds.specs.Views.{signed_of}
use Rattle.potential_types.specs.declared.tables.Move as code_moves
use Rattle.potential_nodes.specs.Checks.{check, LowBound, first_refused}
use Rattle.potential_nodes.specs.Falls.{gain_check, fall_bound}
use Rattle.potential_types.specs.Views.{fact_view, move_of, reason_of, table_of}
use Rattle.check_potentials.specs.Grounds.{plain_ground}
use Rattle.check_potentials.specs.Stages.{fall_bounds, gain_bounded}
use Rattle.check_potentials.proofs.RefusalLaws.{stops_behind, passes_behind, passed_one, failed_one}
use Rattle.check_potentials.proofs.falls.bounds_refusal.Goals as goal

pub returns-in-Some : goal.returns-in-Some
returns-in-Some c =
    let g = plain_ground c.args.ground in
    let facts = map fact_view c.args.facts.now in
    let tab = table_of c.args.table.now in
    let b = signed_of c.args.bound.now in
    stops_behind (fall_bounds g facts tab b) (map (gain_check g) tab.moves)
    (check LowBound (within g.is_safe tab.den (fall_bound g facts tab) b) ∷ []) (reason_of c.in-Some.reason) refl
    ((sym (ap (option_map reason_of) c.in-Some.is) ∙ c.in_ok-gain.ensures)
    ∙ (ap (λ (ms : List code_moves.Move). first_refused (map gain_bounded (map move_of ms))) c.deref.ensures.value))

pub returns-then-not-is_high : goal.returns-then-not-is_high
returns-then-not-is_high c =
    let g = plain_ground c.args.ground in
    let facts = map fact_view c.args.facts.now in
    let tab = table_of c.args.table.now in
    let b = signed_of c.args.bound.now in
    let k = check LowBound (within g.is_safe tab.den (fall_bound g facts tab) b) in
    let wide : c.from.result ≡ tab.den = search rules in
    sym (passes_behind (fall_bounds g facts tab b) (map (gain_check g) tab.moves) (k ∷ []) refl
    ((sym (ap (option_map reason_of) c.in_default.is) ∙ c.in_ok-gain.ensures)
    ∙ (ap (λ (ms : List code_moves.Move). first_refused (map gain_bounded (map move_of ms))) c.deref.ensures.value))
    ∙ failed_one k [] (sym (ap (λ (a : Signed). within expands_to_squares tab.den a b) c.in_ok-composed.ensures)
    ∙ (sym (ap (λ (d : ℕ). within expands_to_squares d (signed_of c.in_ok-composed.composed) b) wide)
    ∙ (sym c.in_ok-is_high.ensures ∙ c.if-not-is_high.true))))

pub returns : goal.returns
returns c =
    let g = plain_ground c.args.ground in
    let facts = map fact_view c.args.facts.now in
    let tab = table_of c.args.table.now in
    let b = signed_of c.args.bound.now in
    let k = check LowBound (within g.is_safe tab.den (fall_bound g facts tab) b) in
    let wide : c.from.result ≡ tab.den = search rules in
    sym (passes_behind (fall_bounds g facts tab b) (map (gain_check g) tab.moves) (k ∷ []) refl
    ((sym (ap (option_map reason_of) c.in_default.is) ∙ c.in_ok-gain.ensures)
    ∙ (ap (λ (ms : List code_moves.Move). first_refused (map gain_bounded (map move_of ms))) c.deref.ensures.value))
    ∙ passed_one k [] (sym (ap (λ (a : Signed). within expands_to_squares tab.den a b) c.in_ok-composed.ensures)
    ∙ (sym (ap (λ (d : ℕ). within expands_to_squares d (signed_of c.in_ok-composed.composed) b) wide)
    ∙ (sym c.in_ok-is_high.ensures ∙ c.if-not-is_high.false))))
