-- The laws of a reader don't depend on the faults that it shows.
use Rattle.bound_text.proofs.InsideLaws.{inner_bounds_are_read}
use Rattle.bound_text.proofs.law.inner_bounds_are_read.Goals as goal

pub returns : goal.returns
returns c = inner_bounds_are_read
