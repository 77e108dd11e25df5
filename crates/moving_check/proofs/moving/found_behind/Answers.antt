use Rattle.std.proofs.Common.{◌≡◌, ◌≤◌, ◌∙◌, List, length, None, ap, sym, arith}
use Rattle.std.proofs.lemmas.List.{length-map}
use Rattle.its_model.specs.Views.{program_of, config_of, step_of}
use Rattle.lasso_check.specs.Lassos.{turn_back}
use Rattle.lasso_check.specs.Views.{lasso_of}
use Rattle.lasso_check.proofs.Turns.{few_recorded}
use Rattle.affine_turns.specs.declared.affine.Affine.{Affine}
use Rattle.affine_turns.specs.Affine.{slopes}
use Rattle.affine_turns.specs.Turns.{affine_after, first_stop_along}
use Rattle.moving_check.specs.Findings.{first_wide, first_change}
use Rattle.moving_check.proofs.Exits.{between_of, moves, turn_cost, turn_rules}
use Rattle.moving_check.proofs.moving.found_behind.Goals as goal

pub rules_used-requires : goal.rules_used-requires
rules_used-requires c =
    let few = few_recorded (program_of c.args.p.now) (lasso_of c.args.l.now) (length c.args.l.now.turn.items) c.args.turning.now
    c.requires.valid c.requires.turned in
    omega (arith, few, ap length c.deref-6.ensures.value)

pub returns : goal.returns
returns c =
    let p = program_of c.args.p.now in
    let l = lasso_of c.args.l.now in
    let b = config_of c.args.before.now in
    let t = c.args.turning.now in
    let n = length c.args.l.now.turn.items in
    let env = c.in_ok-env.env.items in
    let behind = c.in_ok-behind.behind.items in
    let all : n ≡ length l.turn = sym (length-map c.args.l.now.turn.items step_of) in
    let most : length l.turn ≤ n = omega (arith, all) in
    let values =
    between_of p l b (config_of t.walk.here) c.deref.result.now c.deref-2.result.now c.deref.ensures.value c.deref-2.ensures.value in
    let change =
    sym (ap (λ (xs : List Affine). first_change 1 xs c.deref-5.result.now) c.deref-4.ensures.value
    ∙ ap (first_change 1 env) c.deref-5.ensures.value)
    ∙ sym c.in_default.ensures in
    moves p l b (config_of t.walk.here) env behind
    (record { differences = c.in_ok-slopes_of.field-0.items; rules = c.in_ok-rules.rules.items; cost = t.cost })
    c.if-before-turning.false (sym (ap (first_wide 1) values) ∙ c.in_ok-env.ensures.0) (c.in_ok-env.ensures.1 ∙ values)
    (ap (λ (xs : List Affine). first_stop_along p xs (turn_back l)) (sym c.deref-3.ensures.value) ∙ c.in_ok-behind.ensures.0)
    (c.in_ok-behind.ensures.1 ∙ ap (λ (xs : List Affine). affine_after p xs (turn_back l)) c.deref-3.ensures.value) change
    (c.in_ok-slopes_of.ensures ∙ ap slopes c.deref-7.ensures.value)
    (turn_rules p l n t c.deref-6.result.now c.in_ok-rules.rules.items c.deref-6.ensures.value c.requires.turned most
    c.in_ok-rules.ensures)
    (turn_cost p l b n t c.requires.stem c.requires.turned all)
