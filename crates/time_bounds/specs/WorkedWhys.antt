-- What reasons say of small programs, worked out by hand: of k(A) -> k(A); and of k(A) -> l(C), where C is free, with
-- l(A) -> l(A - 1) where A >= 1.
use Rattle.std.specs.Prelude.{◌≡◌, List, [], ◌∷◌, ℤ, pos, Some, None}
use Rattle.model.specs.Bounds.{Constant, Input}
use Rattle.outcome.specs.Reports.{NoFunction, TimeHitLimit, SizeUnbounded, SizeMissing, SizeUntimed}
use Rattle.its_model.specs.linear_forms.declared.limit_cause.LimitCause.TheVariants as causes
use Rattle.cert_types.specs.declared.answer.Question.TheVariants as asked
use Rattle.cert_types.specs.declared.answer.LimitHit.{LimitHit}
use Rattle.cert_types.specs.cert_rules.AcceptsSizes.{Up, Low}
use Rattle.cert_types.specs.cert_rules.Gaps.{ScaledPoint}
use Rattle.cert_types.specs.cert_rules.WorkedGaps.{guessed, scaled, one, nowhere, gap_with}
use Rattle.cert_types.specs.cert_program.WorkedGaps.{first_place, looping}
use Rattle.bound_fixpoint.specs.Keys.{key}
use Rattle.time_bounds.specs.SizeWhys.{HasNoSize}
use Rattle.time_bounds.specs.TimeWhys.{HasNoTime}
use Rattle.time_bounds.specs.WorkedReports.{staying_gap, staying_said, along_free, from_one, guessed_said}
use Rattle.time_bounds.specs.WorkedSizeWhys.{MissingSizesAreWorkedOut}
use Rattle.time_bounds.specs.WorkedTimeWhys.{MissingTimesAreWorkedOut}

-- the virtual entry occurs once, with the start argument; the rule has no time and its place a size; and a rule or a
-- place that doesn't exist has no entry. Of two rules the first has a time, and the second none
pub record BoundsAreSaid : Type 0 where
  pub entry : staying_said 0 0 ≡ Some (Constant 1)
  pub start : staying_said 0 1 ≡ Some (Input 0)
  pub time : staying_said 1 0 ≡ None
  pub size : staying_said 1 1 ≡ Some (Input 0)
  pub no_rule : staying_said 2 0 ≡ None
  pub no_place : staying_said 1 2 ≡ None
  pub timed : guessed_said 1 0 ≡ Some (Constant 1)
  pub untimed : guessed_said 2 0 ≡ None
  pub no_third : guessed_said 3 0 ≡ None

-- the rank question of rule 2 exceeded the limit of 10 pivots
abbrev pub other_limit_hit : LimitHit
other_limit_hit = record { question = asked.Rank 2; cause = causes.Budget 10 }

-- no function ranks the rule, as its gap shows. The same gap shows nothing of another rule; nor does a gap whose set
-- lacks the rule, or which shuts a place whose size is known; and a limit hit of another rule's question isn't one of
-- this rule's
pub record TimeWhysAreWorkedOut : Type 0 where
  pub gap : HasNoTime looping 10 staying_said 1 (NoFunction staying_gap)
  pub other_rule : ¬ (HasNoTime looping 10 staying_said 2 (NoFunction staying_gap))
  pub no_set : ¬ (HasNoTime looping 10 staying_said 1 (NoFunction (gap_with 1 [] [] (one ∷ []) nowhere (one ∷ []))))
  pub not_shut : ¬ (HasNoTime looping 10 staying_said 1
      (NoFunction (gap_with 1 (1 ∷ []) (first_place ∷ []) (one ∷ []) nowhere (one ∷ []))))
  pub other_question : ¬ (HasNoTime looping 10 staying_said 1 (TimeHitLimit other_limit_hit))

-- along C the free value exceeds every affine form in A, up and not down; not where A changes too, nor from a point
-- without a denominator, nor by a ray or a point of three numbers; and A - 1 doesn't exceed all of them, whatever the
-- ray. A size that depends on one that is known isn't missing, and one isn't untimed by a rule that has a time
pub record SizeWhysAreWorkedOut : Type 0 where
  pub unbounded : HasNoSize guessed 10 guessed_said 1 1 (SizeUnbounded Up along_free from_one)
  pub not_down : ¬ (HasNoSize guessed 10 guessed_said 1 1 (SizeUnbounded Low along_free from_one))
  pub moving : ¬ (HasNoSize guessed 10 guessed_said 1 1 (SizeUnbounded Up (pos 1 ∷ pos 1 ∷ []) from_one))
  pub no_point : ¬ (HasNoSize guessed 10 guessed_said 1 1 (SizeUnbounded Up along_free (scaled (pos 1 ∷ pos 1 ∷ []) 0)))
  pub ray_length : ¬ (HasNoSize guessed 10 guessed_said 1 1 (SizeUnbounded Up (pos 0 ∷ pos 1 ∷ pos 0 ∷ []) from_one))
  pub long_point :
      ¬ (HasNoSize guessed 10 guessed_said 1 1 (SizeUnbounded Up along_free (scaled (pos 1 ∷ pos 1 ∷ pos 0 ∷ []) 1)))
  pub bounded : (ray : List ℤ) (kept : ScaledPoint)
      → ¬ (HasNoSize guessed 10 guessed_said 2 1 (SizeUnbounded Up ray kept))
  pub known : ¬ (HasNoSize looping 10 staying_said 1 1 (SizeMissing (key 0 1)))
  pub timed : ¬ (HasNoSize guessed 10 guessed_said 2 1 (SizeUntimed 1))

-- all worked values of reasons
pub record WhysAreWorkedOut : Type 0 where
  pub bounds : BoundsAreSaid
  pub times : TimeWhysAreWorkedOut
  pub sizes : SizeWhysAreWorkedOut
  pub missing_times : MissingTimesAreWorkedOut
  pub missing_sizes : MissingSizesAreWorkedOut
