-- The count of faults of a steady shelf never rises.
use Rattle.std.proofs.Common.{arith, inl, inr}
use Rattle.outside_io.specs.Counts.{Rose}

pub no_rise : ¬ (Rose 0 0)
no_rise (inl more) = omega (arith, more)
no_rise (inr most) = omega (arith, most)
