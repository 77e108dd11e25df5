-- Unbounded sides, worked out by hand: of k(A) -> l(C), where C is free, the low side; and of k(A) -> l(C)
-- where C >= A, the up side alone.
use Rattle.std.specs.Prelude.{List, [], ◌∷◌, ℤ, pos, negsuc}
use Rattle.outcome.specs.Reports.{SizeUnbounded}
use Rattle.cert_types.specs.cert_rules.AcceptsSizes.{Up, Low}
use Rattle.cert_types.specs.cert_rules.WorkedGaps.{guessed, scaled}
use Rattle.bound_fixpoint.specs.Keys.{Bounds}
use Rattle.time_bounds.specs.SizeWhys.{HasNoSize}
use Rattle.time_bounds.specs.WorkedReports.{along_free, from_one}
use Rattle.worked_reasons.specs.Programs.{above}

-- the ray back along C
abbrev pub back_along_free : List ℤ
back_along_free = pos 0 ∷ negsuc 0 ∷ []

-- back along C the negation of the free value exceeds every affine form in A. Where C >= A the value does along C, from
-- a point of the row, with integers or over a denominator of 2; not from a point off the row, nor does the negation
-- back along C, which leaves the row
pub record UnboundedPlacesAreWorkedOut : Type 0 where
  pub low : (b : Bounds) → HasNoSize guessed 10 b 1 1 (SizeUnbounded Low back_along_free from_one)
  pub up : (b : Bounds) → HasNoSize above 10 b 1 1 (SizeUnbounded Up along_free from_one)
  pub from_half : (b : Bounds) → HasNoSize above 10 b 1 1 (SizeUnbounded Up along_free (scaled (pos 1 ∷ pos 1 ∷ []) 2))
  pub off_the_row : (b : Bounds) → ¬ (HasNoSize above 10 b 1 1 (SizeUnbounded Up along_free (scaled (pos 1 ∷ pos 0 ∷ []) 1)))
  pub leaves_the_row : (b : Bounds) → ¬ (HasNoSize above 10 b 1 1 (SizeUnbounded Low back_along_free from_one))
