use Rattle.std.proofs.Common.{◌≡◌}
use Rattle.cert_types.specs.Views.{side_bound_of}
use Rattle.cert_types.specs.Composing.{optional_poly}
use Rattle.cert_types.specs.Reading.{places_read}
use Rattle.cert_types.proofs.reading.places_read.Given as goal

abbrev pub invariant-loop-place : goal.invariant-loop-place
invariant-loop-place l = l.places.items ≡ places_read (optional_poly l.poly) (side_bound_of l.side_bound) l.place
