use Rattle.std.proofs.Common.{◌≡◌, ◌++◌, ◌∙◌, List, map, refl, sym, ap, subst, Option}
use Rattle.std.specs.Prelude.{IfOk, option_map}
use Rattle.potential_nodes.specs.Checks as checks
use Rattle.signed_bounds.specs.Views.{signed_of}
use Rattle.potential_nodes.specs.Falls.{floor_check, amount_check}
use Rattle.potential_nodes.specs.Checks.{first_refused}
use Rattle.potential_types.specs.declared.nodes.Payment.{Payment}
use Rattle.potential_types.specs.Views.{fact_view, fall_of, payment_of, reason_of}
use Rattle.check_potentials.specs.Grounds.{plain_ground}
use Rattle.check_potentials.specs.Stages.{fall_payments, fall_bounds}
use Rattle.check_potentials.proofs.RefusalLaws.{stops_behind, passes_behind}
use Rattle.check_potentials.proofs.falls.payments_refusal.Goals as goal

pub returns-in-Some : goal.returns-in-Some
returns-in-Some c =
    let g = plain_ground c.args.ground in
    let facts = map fact_view c.args.facts.now in
    let n = fall_of c.args.node.now in
    let b = signed_of c.args.bound.now in
    stops_behind (fall_payments g facts n b) (map (floor_check g n.potential) n.payments)
    (map (amount_check g) n.payments ++ fall_bounds g facts n.potential b) (reason_of c.in-Some.reason) refl
    ((sym (ap (option_map reason_of) c.in-Some.is) ∙ c.in_ok-floor.ensures)
    ∙ (ap (λ (ys : List Payment). first_refused (map (floor_check g n.potential) (map payment_of ys)))
    c.deref.ensures.value))

pub returns-in-Some-amount : goal.returns-in-Some-amount
returns-in-Some-amount c =
    let g = plain_ground c.args.ground in
    let facts = map fact_view c.args.facts.now in
    let n = fall_of c.args.node.now in
    let b = signed_of c.args.bound.now in
    stops_behind (fall_payments g facts n b) (map (amount_check g) n.payments) (fall_bounds g facts n.potential b)
    (reason_of c.in-Some-amount.reason)
    (passes_behind (fall_payments g facts n b) (map (floor_check g n.potential) n.payments)
    (map (amount_check g) n.payments ++ fall_bounds g facts n.potential b) refl
    ((sym (ap (option_map reason_of) c.in_default.is) ∙ c.in_ok-floor.ensures)
    ∙ (ap (λ (ys : List Payment). first_refused (map (floor_check g n.potential) (map payment_of ys)))
    c.deref.ensures.value)))
    ((sym (ap (option_map reason_of) c.in-Some-amount.is) ∙ c.in_ok-amount.ensures)
    ∙ (ap (λ (ys : List Payment). first_refused (map (amount_check g) (map payment_of ys)))
    c.deref-2.ensures.value))

pub returns : goal.returns
returns c =
    let g = plain_ground c.args.ground in
    let facts = map fact_view c.args.facts.now in
    let n = fall_of c.args.node.now in
    let b = signed_of c.args.bound.now in
    subst (λ (v : Option checks.Reason). IfOk c.bounds_refusal.result (λ o. option_map reason_of o ≡ v))
    (sym (passes_behind (fall_payments g facts n b) (map (amount_check g) n.payments)
    (fall_bounds g facts n.potential b)
    (passes_behind (fall_payments g facts n b) (map (floor_check g n.potential) n.payments)
    (map (amount_check g) n.payments ++ fall_bounds g facts n.potential b) refl
    ((sym (ap (option_map reason_of) c.in_default.is) ∙ c.in_ok-floor.ensures)
    ∙ (ap (λ (ys : List Payment). first_refused (map (floor_check g n.potential) (map payment_of ys)))
    c.deref.ensures.value)))
    ((sym (ap (option_map reason_of) c.in_default-amount.is) ∙ c.in_ok-amount.ensures)
    ∙ (ap (λ (ys : List Payment). first_refused (map (amount_check g) (map payment_of ys)))
    c.deref-2.ensures.value))))
    c.bounds_refusal.ensures
