-- The properties that rewriting keeps.
use Rattle.std.specs.Prelude.{◌≡◌, ℕ, List, [], ◌∷◌, ◌++◌}
use Rattle.bound_expr.specs.model.Bounds.{Bound, val}
use Rattle.bound_expr.specs.Numbers.{HasBasesFrom, HasSmallConstants, HasTidyNumbers, ReadsBelow}
use Rattle.bound_table.specs.declared.kinds.Case.{Case}
use Rattle.bound_table.specs.declared.kinds.Case.TheVariants.{Flat, Few}

-- a bound has the value of another, whatever the inputs are
pub record HasValueOf (outcome b : Bound) : Type 0 where
  pub each : (m : List ℕ) → val outcome m ≡ val b m

-- a bound reads no input that another doesn't read: where that one reads only the first n, so does this one
pub record ReadsNoMore (outcome b : Bound) : Type 0 where
  pub each : (n : ℕ) → ReadsBelow n b → ReadsBelow n outcome

-- the properties of the numbers of one bound hold of those of another
pub record KeepsNumbers (outcome b : Bound) : Type 0 where
  pub bases : (n : ℕ) → HasBasesFrom n b → HasBasesFrom n outcome
  pub constants : HasSmallConstants b → HasSmallConstants outcome
  pub numbers : HasTidyNumbers b → HasTidyNumbers outcome

-- a table that begins with Flat and ends with Few
pub record IsTidying (cs : List Case) : Type 0 where
  pub between : List Case
  pub is : cs ≡ Flat ∷ (between ++ Few ∷ [])
