-- Worked values of the definitions.
use Rattle.std.specs.Prelude.{◌≡◌, ℕ, zero, suc, ◌^◌, true, false, [], ◌∷◌}
use Rattle.model.specs.Bounds.{Bound, Constant, Input, SumOf, ProductOf, MaximumOf, PowerOf, Parts, NoParts, Part}
use Rattle.model.specs.Bounds.{IsBased}
use Rattle.model.specs.Worked.{one_part, two_parts}
use Rattle.bound_expr.specs.Limits.{constant_limit}
use Rattle.bound_expr.specs.Numbers.{HasBasesFrom, HasSmallConstants, HasTidyNumbers, ReadsBelow}
use Rattle.bound_expr.specs.Tidy.{IsTidy}
use Rattle.bound_expr.specs.Measure.{node_count, depth_of, is_large}
use Rattle.bound_expr.specs.Substitution.{substituted}

-- 2*A + 2^B
abbrev pub small_sum : Bound
small_sum = SumOf (two_parts (ProductOf (two_parts (Constant 2) (Input 0))) (PowerOf 2 (Input 1)))

-- this many copies of A
abbrev pub copies : ℕ → Parts
copies zero = NoParts
copies (suc n) = Part (Input 0) (copies n)

-- 2^(2^(.. A)), with this many powers
abbrev pub tower : ℕ → Bound
tower zero = Input 0
tower (suc n) = PowerOf 2 (tower n)

-- nodes and levels, and the first bounds that are large
pub record MeasuresAreWorkedOut : Type 0 where
  pub nodes : node_count small_sum ≡ 6
  pub levels : depth_of small_sum ≡ 3
  pub empty : depth_of (MaximumOf NoParts) ≡ 1
  pub small : is_large small_sum ≡ false
  pub nodes_at_most : is_large (SumOf (copies 4095)) ≡ false
  pub nodes_beyond : is_large (SumOf (copies 4096)) ≡ true
  pub levels_at_most : is_large (tower 199) ≡ false
  pub levels_beyond : is_large (tower 200) ≡ true

-- bases, constants and inputs, each in a part of a bound, at the limit and beyond
pub record NumbersAreWorkedOut : Type 0 where
  pub based : IsBased (SumOf (one_part (PowerOf 1 (Input 0))))
  pub not_based : ¬ (IsBased (SumOf (one_part (PowerOf 0 (Input 0)))))
  pub bases : HasBasesFrom 2 small_sum
  pub lesser_base : ¬ (HasBasesFrom 2 (PowerOf 2 (PowerOf 1 (Input 0))))
  pub constants : HasSmallConstants (ProductOf (two_parts (Input 0) (Constant constant_limit)))
  pub greater_constant : ¬ (HasSmallConstants (PowerOf 2 (Constant (2 ^ 127))))
  pub numbers : HasTidyNumbers (SumOf (one_part (PowerOf 2 (Constant constant_limit))))
  pub no_numbers : ¬ (HasTidyNumbers (MaximumOf (two_parts (Input 0) (PowerOf 1 (Input 0)))))
  pub reads : ReadsBelow 2 small_sum
  pub reads_more : ¬ (ReadsBelow 1 small_sum)

-- a tidy bound, and what each part of being tidy excludes
pub record TidyBoundsAreWorkedOut : Type 0 where
  pub tidy : IsTidy small_sum
  pub one_part_alone : ¬ (IsTidy (SumOf (one_part (Input 0))))
  pub no_part : ¬ (IsTidy (ProductOf NoParts))
  pub sum_in_sum : ¬ (IsTidy (SumOf (two_parts small_sum (Input 0))))
  pub product_in_product :
      ¬ (IsTidy (ProductOf (two_parts (Input 0) (ProductOf (two_parts (Input 0) (Input 1))))))
  pub maximum_in_maximum :
      ¬ (IsTidy (MaximumOf (two_parts (MaximumOf (two_parts (Input 0) (Input 1))) (Input 2))))
  pub base_of_one : ¬ (IsTidy (PowerOf 1 (Input 0)))
  pub constant_beyond : ¬ (IsTidy (SumOf (two_parts (Input 0) (Constant (2 ^ 127)))))

-- A*B at B + 1 and 2^A, where A and B are the first and the second input
pub record SubstitutionIsWorkedOut : Type 0 where
  pub outcome : substituted (ProductOf (two_parts (Input 0) (Input 1)))
      (SumOf (two_parts (Input 1) (Constant 1)) ∷ PowerOf 2 (Input 0) ∷ [])
      ≡ ProductOf (two_parts (SumOf (two_parts (Input 1) (Constant 1))) (PowerOf 2 (Input 0)))
