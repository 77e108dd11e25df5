-- `analyse`: the report of a program.
use Rattle.std.specs.Prelude.{ℕ, List}
use Rattle.model.specs.Programs.{Program}
use Rattle.outcome.specs.Reports.{Report}
use Rattle.report_text.specs.States.{States}
use Rattle.time_bounds.specs.Analysis.{IsAnalysis}
use Rattle.call_plans.specs.Plans.{Cases}
use Rattle.koat_cli.specs.FittingReports.{ReportFits}
use Rattle.koat_cli.specs.Found.{IsFound, table_by_report}

-- the text states the report of the program's analysis, whose numbers fit the types that hold them
pub record StatesReport (program : Program) (pivots : ℕ) (report : Report) (text : List ℕ) : Type 0 where
  pub found : IsFound program pivots report
  pub fits : ReportFits report
  pub stated : States program text report

-- the table of `analyse`: by the report of the program's analysis, which the text states
abbrev pub analyse_answers : ℕ → Program → Cases
analyse_answers pivots program = table_by_report (IsAnalysis program pivots) (StatesReport program pivots)
