use Rattle.std.proofs.Common.{◌≡◌, take}
use Rattle.model.specs.Bounds.{val_sum, val_product, val_maximum}
use Rattle.bound_expr.specs.Views.{bounds_of, parts_of}
use Rattle.bound_expr.specs.Capped.{capped}
use Rattle.bound_expr.proofs.capped.+value.Given as goal

abbrev pub invariant-capped_sum-loop-part : goal.invariant-capped_sum-loop-part
invariant-capped_sum-loop-part l = l.total ≡ capped (val_sum (parts_of (bounds_of (take l.part-index l.parts))) l.at)

abbrev pub invariant-capped_product-loop-part : goal.invariant-capped_product-loop-part
invariant-capped_product-loop-part l =
    l.product ≡ capped (val_product (parts_of (bounds_of (take l.part-index l.parts))) l.at)

abbrev pub invariant-capped_maximum-loop-part : goal.invariant-capped_maximum-loop-part
invariant-capped_maximum-loop-part l =
    l.maximum ≡ capped (val_maximum (parts_of (bounds_of (take l.part-index l.parts))) l.at)
