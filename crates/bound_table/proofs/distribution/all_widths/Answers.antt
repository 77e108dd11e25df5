use Rattle.std.proofs.Common.{ℕ, ◌+◌, ◌*◌, min, List, drop, ap, sym, ◌∙◌, arith}
use Rattle.std.proofs.Math.Nat.{mul_assoc}
use Rattle.bound_expr.specs.model.Bounds as plain
use Rattle.bound_expr.specs.Views.{bound_of, bounds_of}
use Rattle.bound_expr.specs.Limits.{cap}
use Rattle.bound_expr.proofs.Caps.{min-mul_left}
use Rattle.bound_table.specs.Distribution.{width, all_widths}
use Rattle.bound_table.proofs.Loops.{at-bounds_of-drop}
use Rattle.bound_table.proofs.distribution.all_widths.Goals as goal

pub loop-factor-preserved : goal.loop-factor-preserved
loop-factor-preserved c =
    let xs = c.args.factors.now in
    let i = c.loop-factor.factor-index in
    let x = c.factor-item.result in
    let product = c.loop-factor.product in
    let left = all_widths (bounds_of (drop (i + 1) xs)) in
    record {
      made =
          ap (λ (v : ℕ). min (v * left) cap) c.capped_multiply-product.ensures
          ∙ min-mul_left (product * c.width.result) left cap
          ∙ ap (λ (v : ℕ). min (product * v * left) cap) c.width.ensures
          ∙ ap (λ (v : ℕ). min v cap) (mul_assoc product (width (bound_of x)) left)
          ∙ sym
          (at-bounds_of-drop (λ (ps : List plain.Bound). min (product * all_widths ps) cap) xs i x c.loop-factor-test.true c.factor-item.is)
          ∙ c.loop-factor.invariant.made;
      small = omega (arith, c.capped_multiply-product.ensures);
    }
