-- When a text states a report.
use Rattle.std.specs.Prelude.{◌≡◌, ℕ, List}
use Rattle.model.specs.Programs.{Program}
use Rattle.outcome.specs.Reports.{Report}
use Rattle.outcome.specs.Holding.{IsReportOn}
use Rattle.report_text.specs.Reports.{text_of_report}

-- the text states the report on the program
pub record States (p : Program) (text : List ℕ) (r : Report) : Type 0 where
  pub report : IsReportOn p r
  pub text_of : text ≡ text_of_report p r
