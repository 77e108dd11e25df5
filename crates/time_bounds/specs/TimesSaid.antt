-- The entries of times over known bounds.
use Rattle.std.specs.Prelude.{◌≡◌, ℕ, List, Some, None}
use Rattle.model.specs.Programs.{Program}
use Rattle.bound_expr.specs.Views.{bound_of}
use Rattle.outcome.specs.Reports.{Time, Timed, Untimed}
use Rattle.outcome.specs.declared.entry.TimeEntry.{TimeEntry}
use Rattle.outcome.specs.declared.entry.TimeEntry.TheVariants as entries
use Rattle.cert_types.specs.cert_program.Setting.{setting_of}
use Rattle.bound_fixpoint.specs.Keys.{Bounds}
use Rattle.bound_fixpoint.specs.Searches.{Searches, OfTime}
use Rattle.bound_fixpoint.specs.Answers.{Lacks, AnswersTime}
use Rattle.time_bounds.specs.Numbered.{EachNumbered}

-- the entry of rule t's time is a time that is known, or the reason why none is: the result of the answer to its
-- question
abbrev pub IsTimeOver : Searches → Program → Bounds → ℕ → Time → Type 0
IsTimeOver q p b t (Timed x) = b t 0 ≡ Some x
IsTimeOver q p b t (Untimed why) = (b t 0 ≡ None) × AnswersTime q (setting_of p) b t (Lacks (OfTime why))

-- the same for each rule from k on, in order
abbrev pub AreTimesOver : Searches → Program → Bounds → ℕ → List Time → Type 0
AreTimesOver q p b k times = EachNumbered (IsTimeOver q p b) k times

-- an entry is the known time
abbrev pub IsKnownTime : Bounds → ℕ → TimeEntry → Type 0
IsKnownTime b t (entries.Known s) = b t 0 ≡ Some (bound_of s.bound)
IsKnownTime b t (entries.Gap g) = ⊥
IsKnownTime b t (entries.OutOfLimits x) = ⊥
IsKnownTime b t (entries.Large n) = ⊥
