-- The bounds of a report, by key.
use Rattle.std.specs.Prelude.{zero, suc, Option, Some, None}
use Rattle.model.specs.Bounds.{Bound}
use Rattle.model.specs.Programs.{Program}
use Rattle.outcome.specs.Holding.{numbered_entry, place_entry}
use Rattle.outcome.specs.Reports.{Time, Size, Sized, Unsized, Report, bound_in}
use Rattle.bound_fixpoint.specs.Keys.{Bounds, start_bounds}

-- the bound of a rule's entry, if there is an entry and it is a bound
abbrev pub time_said : Option Time → Option Bound
time_said None = None
time_said (Some x) = bound_in x

-- the bound of the entry of a place after a rule, if there is an entry and it is a bound
abbrev pub size_said : Option Size → Option Bound
size_said None = None
size_said (Some (Sized b)) = Some b
size_said (Some (Unsized why)) = None

-- the bounds in a report: for the virtual entry those that are known initially, for a rule its time, and for a place
-- after it its size
abbrev pub bounds_said : Program → Report → Bounds
bounds_said p r zero i = start_bounds p zero i
bounds_said p r (suc t) zero = time_said (numbered_entry r.times (suc t))
bounds_said p r (suc t) (suc i) = size_said (place_entry (numbered_entry r.sizes (suc t)) (suc i))
