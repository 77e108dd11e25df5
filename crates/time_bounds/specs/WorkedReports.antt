-- Reports of small programs, worked out by hand: of k(A) -> k(A); and of k(A) -> l(C), where C is free, with l(A) ->
-- l(A - 1) where A >= 1.
use Rattle.std.specs.Prelude.{List, [], ◌∷◌, ℤ, pos, None}
use Rattle.model.specs.Bounds.{Constant, Input}
use Rattle.outcome.specs.Reports.{NoFunction, Timed, Untimed, SizeUnbounded, SizeMissing, Sized, Unsized, Report}
use Rattle.cert_types.specs.cert_rules.AcceptsSizes.{Up}
use Rattle.cert_types.specs.cert_rules.Gaps.{ScaledPoint, Gap}
use Rattle.cert_types.specs.cert_rules.WorkedGaps.{guessed, scaled, one, nowhere, gap_of_one, place_of_l}
use Rattle.cert_types.specs.cert_program.WorkedGaps.{looping, gap_alone}
use Rattle.bound_fixpoint.specs.Keys.{Bounds, key}
use Rattle.time_bounds.specs.SaidBounds.{bounds_said}

-- the rule of k(A) -> k(A) has no time, by its gap, and the argument after it keeps its size
abbrev pub staying_gap : Gap
staying_gap = gap_alone 1 one nowhere one

abbrev pub staying_report : Report
staying_report = record {
  times = Untimed (NoFunction staying_gap) ∷ [];
  costs = None ∷ [];
  total = None;
  sizes = (Sized (Input 0) ∷ []) ∷ [];
}

abbrev pub staying_said : Bounds
staying_said = bounds_said looping staying_report

-- along C alone, from A = 1 and C = 1
abbrev pub along_free : List ℤ
along_free = pos 0 ∷ pos 1 ∷ []

abbrev pub from_one : ScaledPoint
from_one = scaled (pos 1 ∷ pos 1 ∷ []) 1

abbrev pub guessed_report : Report
guessed_report = record {
  times = Timed (Constant 1) ∷ Untimed (NoFunction (gap_of_one place_of_l (pos 1) 1 (pos 1) 0 (pos 1) 1)) ∷ [];
  costs = None ∷ None ∷ [];
  total = None;
  sizes = (Unsized (SizeUnbounded Up along_free from_one) ∷ []) ∷ (Unsized (SizeMissing (key 1 1)) ∷ []) ∷ [];
}

abbrev pub guessed_said : Bounds
guessed_said = bounds_said guessed guessed_report
