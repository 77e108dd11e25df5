-- What reasons of missing sizes say of small programs, worked out by hand: of k(A) -> k(A); of three rules, the second
-- of which squares its argument; of k(A) -> l(C), where C is free, alone and with l(A) -> l(A - 1) where A >= 1.
use Rattle.std.specs.Prelude.{ℕ, ◌≤◌, [], ◌∷◌, pos, None}
use Rattle.model.specs.Bounds.{Constant}
use Rattle.model.specs.Programs.{Program}
use Rattle.model.specs.Terms.{Variable}
use Rattle.outcome.specs.Reports.{NoFunction, Timed, Untimed, NoSize, SizeUnbounded, SizeHitLimit, SizeMissing, SizeNonlinear}
use Rattle.outcome.specs.Reports.{SizeUntimed, SizeLarge, Unsized, Report}
use Rattle.its_model.specs.linear_forms.declared.limit_cause.LimitCause.TheVariants as causes
use Rattle.cert_types.specs.declared.answer.Question.{Question}
use Rattle.cert_types.specs.declared.answer.Question.TheVariants as asked
use Rattle.cert_types.specs.declared.answer.LimitHit.{LimitHit}
use Rattle.cert_types.specs.cert_rules.AcceptsSizes.{Side, Up, Low}
use Rattle.cert_types.specs.cert_rules.WorkedGaps.{guessed, gap_of_one, place_of_l}
use Rattle.cert_types.specs.cert_rules.WorkedSettings.{rule_over, program_with}
use Rattle.cert_types.specs.cert_program.Worked.{three_rules}
use Rattle.cert_types.specs.cert_program.WorkedGaps.{looping}
use Rattle.bound_fixpoint.specs.Keys.{Bounds, key}
use Rattle.time_bounds.specs.SizeWhys.{HasNoSize}
use Rattle.time_bounds.specs.Whys.{ReasonsAreTrue}
use Rattle.time_bounds.specs.WorkedReports.{along_free, from_one}

-- k(A) -> l(C) alone
abbrev pub guessing_alone : Program
guessing_alone = program_with (rule_over 0 1 1 (Variable 1) [] ∷ [])

-- with 10 pivots the question exceeded the limit of 10
abbrev pub limit_hit_from : Question → LimitHit
limit_hit_from question = record { question = question; cause = causes.Budget 10 }

-- whatever bounds are known: a square isn't unbounded, though the square itself counts as any number; a limit hit of
-- another place's question, or of another rule's, isn't one of this place; a size doesn't depend on one of a rule that
-- doesn't exist; a value that is kept isn't nonlinear, not even by the place of a rule that doesn't exist, and doesn't
-- grow by such a rule; a size isn't the reason for itself; and no size with 200 nodes or fewer is too large
pub record SmallPlacesAreWorkedOut : Type 0 where
  pub square : (b : Bounds) (side : Side) → ¬ (HasNoSize three_rules 10 b 2 1 (SizeUnbounded side along_free from_one))
  pub other_place : (b : Bounds) → ¬ (HasNoSize guessed 10 b 1 1 (SizeHitLimit (limit_hit_from (asked.Local 2 1))))
  pub other_rule : (b : Bounds) → ¬ (HasNoSize guessed 10 b 1 1 (SizeHitLimit (limit_hit_from (asked.Empty 2))))
  pub from_nowhere : (b : Bounds) → ¬ (HasNoSize looping 10 b 1 1 (SizeMissing (key 2 1)))
  pub for_itself : (b : Bounds) → ¬ (HasNoSize guessed 10 b 2 1 (SizeMissing (key 2 1)))
  pub not_polynomial : (b : Bounds) → ¬ (HasNoSize looping 10 b 1 1 (SizeNonlinear (key 1 1)))
  pub nonlinear_nowhere : (b : Bounds) → ¬ (HasNoSize looping 10 b 1 1 (SizeNonlinear (key 2 1)))
  pub grown_nowhere : (b : Bounds) → ¬ (HasNoSize looping 10 b 1 1 (SizeUntimed 2))
  pub small : (p : Program) (pivots : ℕ) (b : Bounds) (t i n : ℕ) → n ≤ 200
      → ¬ (HasNoSize p pivots b t i (SizeLarge n))

-- a report where the rule has a time, and the place after it no size, for this reason
abbrev pub alone_with : NoSize → Report
alone_with why = record { times = Timed (Constant 1) ∷ []; costs = None ∷ []; total = None; sizes = (Unsized why ∷ []) ∷ [] }

-- a report of two rules where A - 1 is called unbounded, too
abbrev pub wrong_at_2 : Report
wrong_at_2 = record {
  times = Timed (Constant 1) ∷ Untimed (NoFunction (gap_of_one place_of_l (pos 1) 1 (pos 1) 0 (pos 1) 1)) ∷ [];
  costs = None ∷ None ∷ [];
  total = None;
  sizes = (Unsized (SizeUnbounded Up along_free from_one) ∷ []) ∷ (Unsized (SizeUnbounded Up along_free from_one) ∷ []) ∷ [];
}

-- all worked values of missing sizes; and the reasons in a whole report with an unbounded side are true, and aren't if
-- the report says that the place is unbounded below, or that another one is unbounded
pub record MissingSizesAreWorkedOut : Type 0 where
  pub places : SmallPlacesAreWorkedOut
  pub whole : ReasonsAreTrue guessing_alone 10 (alone_with (SizeUnbounded Up along_free from_one))
  pub wrong_side : ¬ (ReasonsAreTrue guessing_alone 10 (alone_with (SizeUnbounded Low along_free from_one)))
  pub wrong_place : ¬ (ReasonsAreTrue guessed 10 wrong_at_2)
