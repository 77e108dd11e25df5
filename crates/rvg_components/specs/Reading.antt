-- Which places an answer reads, as lists.
use Rattle.std.specs.Prelude.{ℕ, List, [], ◌++◌, Option}
use Rattle.model.specs.Polynomials.{Polynomial}
use Rattle.cert_types.specs.Reading.{places_read}
use Rattle.local_size.specs.LocalAnswers.{Local, HasBound, IsUnboundedOn, HasHitLimit}

-- the places that an answer reads: those of the upper side bound, and then those of the lower one; an answer without
-- side bounds reads none
abbrev pub answer_reads : Option Polynomial → Local → ℕ → List ℕ
answer_reads poly (HasBound l) left = places_read poly l.up left ++ places_read poly l.low left
answer_reads poly (IsUnboundedOn side ray kept) left = []
answer_reads poly (HasHitLimit t) left = []
