-- The report of an analysis of a program, and tables by whether a report lacks a bound.
use Rattle.std.specs.Prelude.{◌≡◌, ℕ, Bool, true, false, if◌then◌else◌, List}
use Rattle.model.specs.Programs.{Program}
use Rattle.outcome.specs.Reports.{Report, is_bounded}
use Rattle.outcome.specs.Holding.{ReportHolds}
use Rattle.time_bounds.specs.Analysis.{IsAnalysis}
use Rattle.time_bounds.specs.Whys.{ReasonsAreTrue}
use Rattle.call_plans.specs.declared.status.Status.{Status}
use Rattle.call_plans.specs.declared.status.Status.TheVariants.{Done, Unknown}
use Rattle.call_plans.specs.Plans.{Cases, End, Case}

-- the report is that of the analysis of the program with this many pivots for each linear program; every bound in it
-- holds on every run of the program, from any integers and by any choice of rules; and each reason in it why a bound is
-- missing is true of the program
pub record IsFound (program : Program) (pivots : ℕ) (report : Report) : Type 0 where
  pub found : IsAnalysis program pivots report
  pub true_on_all_runs : ReportHolds program report
  pub reasons : ReasonsAreTrue program pivots report

-- the status of a report: whether every rule has a time, and every rule with a cost a bound on it
abbrev pub status_of : Report → Status
status_of report = if is_bounded report then Done else Unknown

-- a report with this property, in which every rule has a time, and every rule with a cost a bound on it; or one in
-- which one of these is missing, as `all` says
pub record HasReport (Holds : Report → Type 0) (all : Bool) : Type 0 where
  pub report : Report
  pub holds : Holds report
  pub bounded : is_bounded report ≡ all

-- A table by the report with the property `Found`: `Done` if in it every rule has a time, and every rule with a cost a
-- bound on it, and `Unknown` if one of these is missing; with either status the texts that `Text` gives the report.
abbrev pub table_by_report : (Report → Type 0) → (Report → List ℕ → Type 0) → Cases
table_by_report Found Text =
    Case Done (HasReport Found true) (λ text. HasReport (λ report. Text report text) true)
    (Case Unknown (HasReport Found false) (λ text. HasReport (λ report. Text report text) false) End)
