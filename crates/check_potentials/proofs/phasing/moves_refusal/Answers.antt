use Rattle.std.proofs.Common.{rules, ◌≡◌, ℕ, ◌∙◌, List, [], ◌∷◌, map, refl, sym, ap}
use Rattle.std.specs.Prelude.{option_map}
use Rattle.signed_bounds.specs.Bounds.{Signed}
use Rattle.signed_bounds.specs.Safe.{expands_to_squares}
use Rattle.signed_bounds.specs.Within.{within}
use Rattle.signed_bounds.specs.Views.{signed_of}
use Rattle.potential_nodes.specs.Checks.{check, LowBound, first_refused}
use Rattle.potential_nodes.specs.Tables.{PotentialTable}
use Rattle.potential_nodes.specs.Falls.{Payment, floor_check}
use Rattle.potential_nodes.specs.PhaseNodes.{second_table, phase_check, phases_signed, unit_payment}
use Rattle.potential_types.specs.declared.nodes.Payment as code_payments
use Rattle.potential_types.specs.declared.nodes.PhaseMove.{PhaseMove}
use Rattle.potential_types.specs.Views.{payment_of, phase_move_of, phases_node_of, reason_of, table_of}
use Rattle.check_potentials.specs.Grounds.{plain_ground}
use Rattle.check_potentials.specs.Stages.{phase_moves, phase_bounds}
use Rattle.check_potentials.proofs.RefusalLaws.{stops_behind, passes_behind, passed_one, failed_one}
use Rattle.check_potentials.proofs.phasing.moves_refusal.Goals as goal

pub returns-in-Some : goal.returns-in-Some
returns-in-Some c =
    let g = plain_ground c.args.ground in
    let n = phases_node_of c.args.node.now in
    let b = signed_of c.args.bound.now in
    let are = c.requires.tables in
    let moves = map (phase_check g n) n.moves in
    let floors = map (floor_check g (second_table g n)) (map unit_payment n.counted) in
    let k = check LowBound (within g.is_safe n.den (phases_signed g n) b) in
    let same : first_refused (map (floor_check g (table_of c.args.tables.now.second))
    (map payment_of c.args.tables.now.payments.items)) ≡ first_refused floors =
    ap (λ (t : PotentialTable). first_refused (map (floor_check g t) (map payment_of c.args.tables.now.payments.items)))
    are.second
    ∙ ap (λ (ys : List Payment). first_refused (map (floor_check g (second_table g n)) ys)) are.payments in
    stops_behind (phase_moves g n b) moves (phase_bounds g n b) (reason_of c.in-Some.reason) refl
    ((sym (ap (option_map reason_of) c.in-Some.is) ∙ c.in_ok-unshown.ensures n are)
    ∙ (ap (λ (ms : List PhaseMove). first_refused (map (phase_check g n) (map phase_move_of ms)))
    c.deref.ensures.value))

pub returns-in-Some-floor : goal.returns-in-Some-floor
returns-in-Some-floor c =
    let g = plain_ground c.args.ground in
    let n = phases_node_of c.args.node.now in
    let b = signed_of c.args.bound.now in
    let are = c.requires.tables in
    let moves = map (phase_check g n) n.moves in
    let floors = map (floor_check g (second_table g n)) (map unit_payment n.counted) in
    let k = check LowBound (within g.is_safe n.den (phases_signed g n) b) in
    let same : first_refused (map (floor_check g (table_of c.args.tables.now.second))
    (map payment_of c.args.tables.now.payments.items)) ≡ first_refused floors =
    ap (λ (t : PotentialTable). first_refused (map (floor_check g t) (map payment_of c.args.tables.now.payments.items)))
    are.second
    ∙ ap (λ (ys : List Payment). first_refused (map (floor_check g (second_table g n)) ys)) are.payments in
    stops_behind (phase_moves g n b) floors (k ∷ []) (reason_of c.in-Some-floor.reason)
    (passes_behind (phase_moves g n b) moves (phase_bounds g n b) refl
    ((sym (ap (option_map reason_of) c.in_default.is) ∙ c.in_ok-unshown.ensures n are)
    ∙ (ap (λ (ms : List PhaseMove). first_refused (map (phase_check g n) (map phase_move_of ms)))
    c.deref.ensures.value)))
    ((sym (ap (option_map reason_of) c.in-Some-floor.is) ∙ c.in_ok-floor.ensures)
    ∙ ((ap (λ (ys : List code_payments.Payment). first_refused
    (map (floor_check g (table_of c.args.tables.now.second)) (map payment_of ys))) c.deref-2.ensures.value) ∙ same))

pub returns-then-not-is_high : goal.returns-then-not-is_high
returns-then-not-is_high c =
    let g = plain_ground c.args.ground in
    let n = phases_node_of c.args.node.now in
    let b = signed_of c.args.bound.now in
    let are = c.requires.tables in
    let moves = map (phase_check g n) n.moves in
    let floors = map (floor_check g (second_table g n)) (map unit_payment n.counted) in
    let k = check LowBound (within g.is_safe n.den (phases_signed g n) b) in
    let wide : c.from.result ≡ n.den = search rules in
    let same : first_refused (map (floor_check g (table_of c.args.tables.now.second))
    (map payment_of c.args.tables.now.payments.items)) ≡ first_refused floors =
    ap (λ (t : PotentialTable). first_refused (map (floor_check g t) (map payment_of c.args.tables.now.payments.items)))
    are.second
    ∙ ap (λ (ys : List Payment). first_refused (map (floor_check g (second_table g n)) ys)) are.payments in
    sym (passes_behind (phase_moves g n b) floors (k ∷ [])
    (passes_behind (phase_moves g n b) moves (phase_bounds g n b) refl
    ((sym (ap (option_map reason_of) c.in_default.is) ∙ c.in_ok-unshown.ensures n are)
    ∙ (ap (λ (ms : List PhaseMove). first_refused (map (phase_check g n) (map phase_move_of ms)))
    c.deref.ensures.value)))
    ((sym (ap (option_map reason_of) c.in_default-floor.is) ∙ c.in_ok-floor.ensures)
    ∙ ((ap (λ (ys : List code_payments.Payment). first_refused
    (map (floor_check g (table_of c.args.tables.now.second)) (map payment_of ys))) c.deref-2.ensures.value) ∙ same))
    ∙ failed_one k [] (sym (ap (λ (a : Signed). within expands_to_squares n.den a b)
    (c.in_ok-composed.ensures n are refl))
    ∙ (sym (ap (λ (d : ℕ). within expands_to_squares d (signed_of c.in_ok-composed.composed) b) wide)
    ∙ (sym c.in_ok-is_high.ensures ∙ c.if-not-is_high.true))))

pub returns : goal.returns
returns c =
    let g = plain_ground c.args.ground in
    let n = phases_node_of c.args.node.now in
    let b = signed_of c.args.bound.now in
    let are = c.requires.tables in
    let moves = map (phase_check g n) n.moves in
    let floors = map (floor_check g (second_table g n)) (map unit_payment n.counted) in
    let k = check LowBound (within g.is_safe n.den (phases_signed g n) b) in
    let wide : c.from.result ≡ n.den = search rules in
    let same : first_refused (map (floor_check g (table_of c.args.tables.now.second))
    (map payment_of c.args.tables.now.payments.items)) ≡ first_refused floors =
    ap (λ (t : PotentialTable). first_refused (map (floor_check g t) (map payment_of c.args.tables.now.payments.items)))
    are.second
    ∙ ap (λ (ys : List Payment). first_refused (map (floor_check g (second_table g n)) ys)) are.payments in
    sym (passes_behind (phase_moves g n b) floors (k ∷ [])
    (passes_behind (phase_moves g n b) moves (phase_bounds g n b) refl
    ((sym (ap (option_map reason_of) c.in_default.is) ∙ c.in_ok-unshown.ensures n are)
    ∙ (ap (λ (ms : List PhaseMove). first_refused (map (phase_check g n) (map phase_move_of ms)))
    c.deref.ensures.value)))
    ((sym (ap (option_map reason_of) c.in_default-floor.is) ∙ c.in_ok-floor.ensures)
    ∙ ((ap (λ (ys : List code_payments.Payment). first_refused
    (map (floor_check g (table_of c.args.tables.now.second)) (map payment_of ys))) c.deref-2.ensures.value) ∙ same))
    ∙ passed_one k [] (sym (ap (λ (a : Signed). within expands_to_squares n.den a b)
    (c.in_ok-composed.ensures n are refl))
    ∙ (sym (ap (λ (d : ℕ). within expands_to_squares d (signed_of c.in_ok-composed.composed) b) wide)
    ∙ (sym c.in_ok-is_high.ensures ∙ c.if-not-is_high.false))))
