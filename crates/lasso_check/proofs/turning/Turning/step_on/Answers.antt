use Rattle.std.proofs.Common.{◌≡◌, ◌+◌, ◌<◌, ◌≤◌, ℕ, length, refl, arith}
use Rattle.std.proofs.lemmas.List.{length-map}
use Rattle.its_model.specs.Views.{program_of, rule_of, step_of}
use Rattle.lasso_check.specs.declared.file.Lasso.{Lasso}
use Rattle.lasso_check.specs.Lassos.{run_along}
use Rattle.lasso_check.specs.Views.{lasso_of}
use Rattle.lasso_check.proofs.Walks.{turn_step, own_step, both_length}
use Rattle.lasso_check.proofs.Turns.{turned_next, recorded_length}
use Rattle.lasso_check.proofs.turning.Turning.step_on.Goals as goal

-- a position in the turn, plus the length of the stem, is one of both parts
behind_stem : (l : Lasso) (i n : ℕ) → n ≡ length l.stem.items + i → n ≡ length (lasso_of l).stem + i
behind_stem l i n e = omega (arith, e, length-map l.stem.items step_of)

in_turn : (l : Lasso) (i : ℕ) → i < length l.turn.items → i < length (lasso_of l).turn
in_turn l i low = omega (arith, low, length-map l.turn.items step_of)

in_both : (l : Lasso) (i n : ℕ) → n ≡ length l.stem.items + i → i < length l.turn.items
    → n < length (run_along (lasso_of l)).steps
in_both l i n e low = omega (arith, e, low, both_length l)

pub index_mut-requires : goal.index_mut-requires
index_mut-requires c =
    let recorded = recorded_length (program_of c.args.p.now) (lasso_of c.args.lasso.now) c.args.i c.args.self.now c.requires.turned in
    omega (arith, c.in-Ok.ensures.rule.0, c.in-Ok.ensures.rule.1, recorded, length-map c.args.p.now.rules.items rule_of)

pub returns-in-Ok : goal.returns-in-Ok
returns-in-Ok c =
    let l = c.args.lasso.now in
    let i = c.args.i in
    let n = c.len.result + c.args.i in
    let at : n ≡ length l.stem.items + i = omega (arith, c.len.ensures) in
    let x = c.index-step.result.now in
    let to : x.rule ≤ length (program_of c.args.p.now).rules = omega (arith, c.in-Ok.ensures.rule.1, length-map c.args.p.now.rules.items rule_of) in
    turned_next (program_of c.args.p.now) (lasso_of l) i n c.in-Ok.cost (step_of x) c.args.self.now _
    (in_turn l i c.requires.step) (behind_stem l i n at) (own_step l i x c.requires.step c.index-step.ensures)
    (turn_step l i n x c.requires.step c.index-step.ensures at) (in_both l i n at c.requires.step) c.requires.turned
    c.in-Ok.ensures.taken c.in-Ok.ensures.cost c.in-Ok.ensures.rule.0 to refl c.capped_add-self.ensures
