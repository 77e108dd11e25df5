-- Bounds at the limits of their texts, and just beyond, worked out by hand.
use Rattle.std.specs.Prelude.{◌-◌, ◌^◌}
use Rattle.bound_expr.specs.model.Bounds.{Input, SumOf, PowerOf}
use Rattle.bound_expr.specs.Worked.{copies, tower}
use Rattle.bound_text.specs.Texts.{IsWithin}

-- 4,096 nodes, 200 levels and a base of 2^64 - 1 are within the limits, and one more of each isn't
pub record LimitsOfTextsAreMet : Type 0 where
  pub nodes_at_most : IsWithin (SumOf (copies 4095))
  pub nodes_beyond : ¬ (IsWithin (SumOf (copies 4096)))
  pub levels_at_most : IsWithin (tower 199)
  pub levels_beyond : ¬ (IsWithin (tower 200))
  pub base_at_most : IsWithin (PowerOf (2 ^ 64 - 1) (Input 0))
  pub base_beyond : ¬ (IsWithin (PowerOf (2 ^ 64) (Input 0)))
