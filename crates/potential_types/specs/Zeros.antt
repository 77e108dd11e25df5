-- Bounds that are the number 0.
use Rattle.std.specs.Prelude.{zero, suc, Bool, true, false}
use Rattle.signed_bounds.specs.Bounds.{Signed, Constant}

-- whether a bound is the number 0
abbrev pub is_zero_bound : Signed → Bool
is_zero_bound (Constant zero) = true
is_zero_bound _ = false
