-- Bounds that may be written in a proof file.
use Rattle.std.specs.Prelude.{ℕ}
use Rattle.model.specs.Bounds.{Bound, Parts}
use Rattle.bound_expr.specs.Numbers.{HasTidyNumbers, HaveTidyNumbers, ReadsBelow, AllReadBelow}

-- the inputs of a bound are among the first n, its bases at least 2 and its constants at most 2^127 - 1
pub record IsWritable (n : ℕ) (b : Bound) : Type 0 where
  pub inputs : ReadsBelow n b
  pub numbers : HasTidyNumbers b

-- the parts are over the first n inputs, with bases of at least 2 and constants of at most 2^127 - 1
pub record AreWritable (n : ℕ) (bs : Parts) : Type 0 where
  pub inputs : AllReadBelow n bs
  pub numbers : HaveTidyNumbers bs
