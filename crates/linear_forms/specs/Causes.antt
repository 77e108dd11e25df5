-- The limit that a linear program hits.
use Rattle.std.specs.Prelude.{ℕ}
use Rattle.linear_forms.specs.declared.limit_cause.LimitCause.{LimitCause}
use Rattle.linear_forms.specs.declared.limit_cause.LimitCause.TheVariants.{Range, Budget, Wide, Scale}

-- the limits: a number out of range after some pivots; the allowed number of pivots, which doesn't suffice; the number
-- of entries of a table that is too wide; and scaling, if the answer's integers are too large
pub data Cause : Type 0 where
  range : ℕ → Cause
  budget : ℕ → Cause
  wide : ℕ → Cause
  scale : Cause

-- the limit that a cause of the code names
abbrev pub cause_of : LimitCause → Cause
cause_of (Range pivot) = range pivot
cause_of (Budget pivots) = budget pivots
cause_of (Wide entries) = wide entries
cause_of Scale = scale
