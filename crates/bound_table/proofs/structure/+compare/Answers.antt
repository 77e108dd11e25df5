use Rattle.std.proofs.Common.{◌≡◌, ℕ, ◌==◌, false, List, length, ap, sym, ◌∙◌}
use Rattle.std.proofs.lemmas.List.{length-map}
use Rattle.bound_expr.specs.model.Bounds.{Bound}
use Rattle.bound_expr.specs.Views.{bound_of, bounds_of, parts_of}
use Rattle.bound_table.specs.Comparison.{all_compared}
use Rattle.bound_table.proofs.Loops.{bounds_of-drop_all}
use Rattle.bound_table.proofs.TotalOrder.{all_compared-shorter}
use Rattle.bound_table.proofs.structure.+compare.Goals as goal

pub compare_all-returns-else-is_empty : goal.compare_all-returns-else-is_empty
compare_all-returns-else-is_empty t c =
    let left = bounds_of c.loop-part.left.now in
    let some : (length left == 0) ≡ false =
    ap (λ (n : ℕ). n == 0) (length-map c.loop-part.left.now bound_of) ∙ sym c.is_empty.ensures ∙ c.if-is_empty.false in
    sym (all_compared-shorter left some)
    ∙ sym
    (ap (λ (ps : List Bound). all_compared (parts_of ps) (parts_of left)) (bounds_of-drop_all c.args.parts.now c.loop-part.part-index c.loop-part-test.false))
    ∙ c.loop-part.invariant
