-- Worked values of reports on a small program and their entries: what holds on all of its runs, and what doesn't.
use Rattle.std.specs.Prelude.{◌≡◌, ℕ, List, [], ◌∷◌, Option, Some, None}
use Rattle.farkas_cert.specs.model.Bounds.{Bound, Constant, Input}
use Rattle.farkas_cert.specs.model.WorkedRuns.{countdown}
use Rattle.outcome.specs.Reports.{TimeLarge, Time, Timed, Untimed, SizeUntimed, SizeLarge, Size, Sized, Unsized}
use Rattle.outcome.specs.Reports.{RuleCost, Report}
use Rattle.outcome.specs.Holding.{numbered_entry, place_entry, ReportHolds}

-- three entries
abbrev pub three_entries : List ℕ
three_entries = 4 ∷ 5 ∷ 6 ∷ []

-- a size of each of two places
abbrev pub two_sizes : Bound → Bound → List Size
two_sizes a b = Sized a ∷ Sized b ∷ []

-- entries count from 1: there is none at 0 and none past the last; and so do the places of a rule, where it has entries
pub record EntriesAreFound : Type 0 where
  pub entry_0 : numbered_entry three_entries 0 ≡ None
  pub entry_1 : numbered_entry three_entries 1 ≡ Some 4
  pub entry_2 : numbered_entry three_entries 2 ≡ Some 5
  pub entry_3 : numbered_entry three_entries 3 ≡ Some 6
  pub entry_4 : numbered_entry three_entries 4 ≡ None
  pub place_0 : place_entry (Some (two_sizes (Constant 8) (Constant 9))) 0 ≡ None
  pub place_1 : place_entry (Some (two_sizes (Constant 8) (Constant 9))) 1 ≡ Some (Sized (Constant 8))
  pub place_2 : place_entry (Some (two_sizes (Constant 8) (Constant 9))) 2 ≡ Some (Sized (Constant 9))
  pub place_3 : place_entry (Some (two_sizes (Constant 8) (Constant 9))) 3 ≡ None
  pub no_places : place_entry (Some []) 1 ≡ None
  pub no_rule : place_entry None 1 ≡ None

-- a time of each of two rules
abbrev pub two_times : Bound → Bound → List Time
two_times a b = Timed a ∷ Timed b ∷ []

-- sizes of two places after each of two rules
abbrev pub four_sizes : Bound → Bound → Bound → Bound → List (List Size)
four_sizes a b c d = two_sizes a b ∷ two_sizes c d ∷ []

-- two rules without a cost
abbrev pub no_costs : List (Option RuleCost)
no_costs = None ∷ None ∷ []

-- the report with these times, this total and these sizes, and no cost of either rule
abbrev pub report_with : List Time → Option Bound → List (List Size) → Report
report_with ts sum ss = record { times = ts; costs = no_costs; total = sum; sizes = ss }

-- the times 1 and 9, the sizes of A and B after rule 1, and 8 and 9 after rule 2
abbrev pub right_times : List Time
right_times = two_times (Constant 1) (Constant 9)

abbrev pub right_sizes : List (List Size)
right_sizes = four_sizes (Input 0) (Input 1) (Constant 8) (Constant 9)

-- reasons in place of all times, and of all sizes
abbrev pub no_times : List Time
no_times = Untimed (TimeLarge 5000) ∷ Untimed (TimeLarge 5000) ∷ []

abbrev pub no_sizes : List (List Size)
no_sizes =
    (Unsized (SizeUntimed 1) ∷ Unsized (SizeUntimed 1) ∷ []) ∷ (Unsized (SizeUntimed 2) ∷ Unsized (SizeLarge 5000) ∷ []) ∷ []

-- the report of these times and sizes with the total 10 holds of the program that counts down; with one bound that is
-- one too small, or is that of another rule or of another place, it doesn't
pub record ReportsHold : Type 0 where
  pub whole : ReportHolds countdown (report_with right_times (Some (Constant 10)) right_sizes)
  pub first_time_less : ¬ (ReportHolds countdown
      (report_with (two_times (Constant 0) (Constant 9)) (Some (Constant 10)) right_sizes))
  pub second_time_less : ¬ (ReportHolds countdown
      (report_with (two_times (Constant 1) (Constant 8)) (Some (Constant 10)) right_sizes))
  pub time_of_other_rule : ¬ (ReportHolds countdown
      (report_with (two_times (Constant 1) (Constant 1)) (Some (Constant 10)) right_sizes))
  pub times_swapped : ¬ (ReportHolds countdown
      (report_with (two_times (Constant 9) (Constant 1)) (Some (Constant 10)) right_sizes))
  pub total_less : ¬ (ReportHolds countdown (report_with right_times (Some (Constant 9)) right_sizes))
  pub first_size_less : ¬ (ReportHolds countdown
      (report_with right_times (Some (Constant 10)) (four_sizes (Input 0) (Input 1) (Constant 7) (Constant 9))))
  pub second_size_less : ¬ (ReportHolds countdown
      (report_with right_times (Some (Constant 10)) (four_sizes (Input 0) (Input 1) (Constant 8) (Constant 8))))
  pub sizes_swapped : ¬ (ReportHolds countdown
      (report_with right_times (Some (Constant 10)) (four_sizes (Input 1) (Input 0) (Constant 8) (Constant 9))))

-- a report of reasons alone holds, since it says no bound; one that gives a single bound holds where that bound does
pub record ReasonsHold : Type 0 where
  pub all_missing : ReportHolds countdown (report_with no_times None no_sizes)
  pub no_entries : ReportHolds countdown (report_with [] None [])
  pub one_time : ReportHolds countdown (report_with (Untimed (TimeLarge 5000) ∷ Timed (Constant 9) ∷ []) None no_sizes)
  pub one_time_less : ¬ (ReportHolds countdown
      (report_with (Untimed (TimeLarge 5000) ∷ Timed (Constant 8) ∷ []) None no_sizes))
  pub one_total_less : ¬ (ReportHolds countdown (report_with no_times (Some (Constant 9)) no_sizes))
  pub one_size_less : ¬ (ReportHolds countdown
      (report_with no_times None ([] ∷ (Unsized (SizeUntimed 2) ∷ Sized (Constant 8) ∷ []) ∷ [])))
