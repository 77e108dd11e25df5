use Rattle.std.proofs.Common.{◌≡◌, ◌+◌, ◌-◌, length, sym, ◌∙◌, arith}
use Rattle.std.proofs.lemmas.Bool.{eqb-false}
use Rattle.bound_expr.specs.Views.{bound_of}
use Rattle.bound_table.proofs.Runs.{last_belongs-at}
use Rattle.bound_table.proofs.joining.goes_on.Goals as goal

pub returns : goal.returns
returns c =
    let xs = c.args.run.now in
    let some : length xs ≡ 0 → ⊥ = eqb-false (length xs) 0 (sym c.is_empty.ensures ∙ c.if-is_empty.false) in
    let last : (length xs - 1) + 1 ≡ length xs = omega arith in
    c.belong_together.ensures
    ∙ sym (last_belongs-at c.args.joining xs (length xs - 1) c.index-run-run.result (bound_of c.args.part.now) last c.index-run-run.is)
