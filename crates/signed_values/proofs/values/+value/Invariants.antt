use Rattle.std.proofs.Common.{◌≡◌, take}
use Rattle.bound_expr.specs.Capped.{capped}
use Rattle.bound_expr.specs.Limits.{cap}
use Rattle.signed_bounds.specs.Bounds.{signed_sum, signed_product, signed_maximum, signed_minimum}
use Rattle.signed_bounds.specs.Views.{signeds_of, parts_of}
use Rattle.signed_values.proofs.values.+value.Given as goal

-- so far: the value of the parts before this one, within the limit on numbers
abbrev pub invariant-capped_sum-loop-part : goal.invariant-capped_sum-loop-part
invariant-capped_sum-loop-part l =
    l.total ≡ capped (signed_sum (parts_of (signeds_of (take l.part-index l.parts))) l.start)

abbrev pub invariant-capped_product-loop-part : goal.invariant-capped_product-loop-part
invariant-capped_product-loop-part l =
    l.product ≡ capped (signed_product (parts_of (signeds_of (take l.part-index l.parts))) l.start)

abbrev pub invariant-capped_maximum-loop-part : goal.invariant-capped_maximum-loop-part
invariant-capped_maximum-loop-part l =
    l.most ≡ capped (signed_maximum (parts_of (signeds_of (take l.part-index l.parts))) l.start)

abbrev pub invariant-capped_minimum-loop-part : goal.invariant-capped_minimum-loop-part
invariant-capped_minimum-loop-part l =
    l.least ≡ signed_minimum (parts_of (signeds_of (take l.part-index l.parts))) cap l.start
