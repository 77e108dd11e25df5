use Rattle.std.proofs.Common.{◌≤◌, ℕ, ◌+◌, drop, List, ap, sym, ◌∙◌, subst}
use Rattle.bound_expr.specs.model.Bounds.{Bound}
use Rattle.bound_expr.specs.Views.{bound_of, bounds_of}
use Rattle.bound_expr.specs.Limits.{cap}
use Rattle.bound_expr.specs.Capped.{capped}
use Rattle.bound_table.specs.Kinds.{joined, all_joined}
use Rattle.bound_table.specs.Folding.{constants_in}
use Rattle.bound_table.proofs.Folds.{total_with-step, total_with-small}
use Rattle.bound_table.proofs.Loops.{at-bounds_of-drop}
use Rattle.bound_table.proofs.folding.constants_joined.Goals as goal

pub loop-part-preserved : goal.loop-part-preserved
loop-part-preserved c =
    let k = c.args.kind in
    let xs = c.args.parts.now in
    let i = c.loop-part.part-index in
    let x = c.part-item.result in
    let left = bounds_of (drop (i + 1) xs) in
    let made = λ (n : ℕ). capped (joined k n (all_joined k (constants_in left))) in
    let P : ℕ → Type 0 = λ n. n ≤ cap in
    record {
      made =
          ap made c.joined_with-total.ensures
          ∙ total_with-step k c.loop-part.total (bound_of x) left
          ∙ sym
          (at-bounds_of-drop (λ (ps : List Bound). capped (joined k c.loop-part.total (all_joined k (constants_in ps)))) xs i x c.loop-part-test.true c.part-item.is)
          ∙ c.loop-part.invariant.made;
      small =
          subst P (sym c.joined_with-total.ensures)
          (total_with-small k c.loop-part.total (bound_of x) c.loop-part.invariant.small);
    }
