-- Values up to a cap.
use Rattle.std.specs.Prelude.{ℕ, min, List}
use Rattle.model.specs.Bounds.{Bound, val}
use Rattle.bound_expr.specs.Limits.{cap}

-- a number, or 2^127 where it is greater
abbrev pub capped : ℕ → ℕ
capped n = min n cap

-- the value of a bound at m, or 2^127 where it is greater
abbrev pub capped_val : Bound → List ℕ → ℕ
capped_val b m = capped (val b m)
