-- The code's refusals, with and without a position.
use Rattle.std.specs.Prelude.{ℕ}
use Rattle.bound_text.specs.declared.fault.Fault.{Fault}
use Rattle.bound_text.specs.declared.fault.Fault.TheVariants as faults
use Rattle.bound_text.specs.declared.error.BoundTextError.{BoundTextError}
use Rattle.bound_text.specs.declared.error.BoundTextError.TheVariants as errors

-- a refusal at a position
abbrev pub error_at : Fault → ℕ → BoundTextError
error_at faults.Syntax at = errors.Syntax at
error_at faults.NumberTooLarge at = errors.NumberTooLarge at
error_at faults.UnknownName at = errors.UnknownName at
error_at faults.TooDeep at = errors.TooDeep at
error_at faults.TooLarge at = errors.TooLarge at
error_at faults.Memory at = errors.Memory
