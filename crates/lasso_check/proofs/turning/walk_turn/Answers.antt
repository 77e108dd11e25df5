use Rattle.std.proofs.Common.{◌≡◌, ◌∙◌, ℕ, length, replicate, false, ap, sym, refl, arith}
use Rattle.std.proofs.lemmas.List.{length-map}
use Rattle.its_model.specs.Views.{program_of, rule_of, step_of}
use Rattle.lasso_check.specs.Views.{lasso_of}
use Rattle.lasso_check.proofs.Turns.{turned_none}
use Rattle.lasso_check.proofs.turning.walk_turn.Goals as goal

pub loop-i-init : goal.loop-i-init
loop-i-init c =
    let rules = c.args.p.now.rules in
    let count : c.len.result ≡ length (program_of c.args.p.now).rules =
    omega (arith, c.len.ensures, rules.ok.0, length-map rules.items rule_of) in
    turned_none (program_of c.args.p.now) (lasso_of c.args.lasso.now) (length c.args.lasso.now.stem.items)
    (record { walk = c.args.walk; used = c.in_ok-used.used; cost = 0 }) c.requires.taken
    (sym (length-map c.args.lasso.now.stem.items step_of))
    (c.in_ok-used.ensures.items_if_clones_equal (λ y h. h) ∙ ap (λ (n : ℕ). replicate n false) count) refl
