-- Why places have no size, and which gaps are right, worked out by hand: of k(A) -> l(A), and l(A) -> l(A - 1) where A
-- >= 1; of k(A) -> l(C); of k(A) -> l(A), and l(A) -> l(2 * A); and of k(A) -> l(A * A), and l(A) -> l(A * A).
use Rattle.std.specs.Prelude.{ℕ, zero, suc, List, [], ◌∷◌, ℤ, pos, Some, None}
use Rattle.rule_questions.specs.model.Bounds.{Input}
use Rattle.rule_questions.specs.cert_rules.Gaps.{ScaledPoint}
use Rattle.rule_questions.specs.cert_rules.AcceptsSizes.{Side, Up, Low}
use Rattle.rule_questions.specs.cert_rules.WorkedSettings.{counting, guessing, doubling}
use Rattle.rule_questions.specs.cert_rules.WorkedSizes.{squaring}
use Rattle.bound_fixpoint.specs.Keys.{Bounds, key}
use Rattle.bound_fixpoint.specs.Searches.{searches_of, Unsized, Unranked}
use Rattle.outcome.specs.Reports.{SizeUnbounded, SizeMissing, SizeNonlinear, SizeUntimed}
use Rattle.bound_fixpoint.specs.Right.{IsRightSizing, IsRightRanking}
use Rattle.bound_fixpoint.specs.WorkedSets.{nothing_known, entered_known}
use Rattle.bound_fixpoint.specs.WorkedRounds.{gap_over}
use Rattle.bound_fixpoint.specs.WorkedFirst.{all_hits_limit}

-- each place has the start argument as its size, and no rule has a time
abbrev pub sizes_alone : Bounds
sizes_alone t zero = None
sizes_alone t (suc i) = Some (Input 0)

-- a point over a denominator, every unknown being 0
abbrev pub origin : ℕ → ScaledPoint
origin den = record { parts = []; den = den }

-- the size of a loop's place is no reason for itself. The unknown value is unbounded up along the free variable alone,
-- not down, nor along A, nor from a point without a denominator; a square of the values before is never unbounded. A
-- loop that doubles lacks the time of its rule, and one that squares is nonlinear
pub record RightCausesAreWorkedOut : Type 0 where
  pub not_its_own : ¬ (IsRightSizing counting entered_known (key 2 1 ∷ []) (Unsized (SizeMissing (key 2 1))))
  pub unbounded :
      IsRightSizing guessing nothing_known (key 1 1 ∷ []) (Unsized (SizeUnbounded Up (pos 0 ∷ pos 1 ∷ []) (origin 1)))
  pub not_low :
      ¬ (IsRightSizing guessing nothing_known (key 1 1 ∷ []) (Unsized (SizeUnbounded Low (pos 0 ∷ pos 1 ∷ []) (origin 1))))
  pub not_moving :
      ¬ (IsRightSizing guessing nothing_known (key 1 1 ∷ []) (Unsized (SizeUnbounded Up (pos 1 ∷ pos 1 ∷ []) (origin 1))))
  pub no_denominator :
      ¬ (IsRightSizing guessing nothing_known (key 1 1 ∷ []) (Unsized (SizeUnbounded Up (pos 0 ∷ pos 1 ∷ []) (origin 0))))
  pub not_square : (side : Side) (ray : List ℤ) (kept : ScaledPoint)
      → ¬ (IsRightSizing squaring nothing_known (key 2 1 ∷ []) (Unsized (SizeUnbounded side ray kept)))
  pub untimed : IsRightSizing doubling sizes_alone (key 2 1 ∷ []) (Unsized (SizeUntimed 2))
  pub nonlinear : IsRightSizing squaring sizes_alone (key 2 1 ∷ []) (Unsized (SizeNonlinear (key 2 1)))

-- a gap of another set than that of the question isn't right, and neither is one without points
pub record WrongGapsAreWorkedOut : Type 0 where
  pub other_set :
      ¬ (IsRightRanking (searches_of all_hits_limit) counting (1 ∷ 2 ∷ []) 2 [] (Unranked (gap_over (2 ∷ []) 2 [])))
  pub without_points :
      ¬ (IsRightRanking (searches_of all_hits_limit) counting (2 ∷ []) 2 [] (Unranked (gap_over (2 ∷ []) 2 [])))
