-- `while`: the report of a while program's translation, and what it says of the program's executions.
use Rattle.std.specs.Prelude.{◌≡◌, ℕ, List, ◌++◌, Some}
use Rattle.model.specs.Bounds.{Bound}
use Rattle.outcome.specs.Reports.{Report}
use Rattle.time_bounds.specs.Analysis.{IsAnalysis}
use Rattle.while_answer.specs.Executed.{translation_of, EndsAsRuns, HasStepsWithin}
use Rattle.while_answer.specs.Texts.{point_lines}
use Rattle.while_answer.specs.while_text.Reading.{Source}
use Rattle.call_plans.specs.Plans.{Cases}
use Rattle.koat_cli.specs.Found.{table_by_report}
use Rattle.koat_cli.specs.Commands.Analyse.{StatesReport}

-- the text has the position of each statement, followed by the text that `analyse` writes for the translation with as
-- many pivots; the program's executions end as the runs of the translation do; and if the report has a total, each
-- execution has at most as many steps as it says
pub record StatesExecutions (source : Source) (pivots : ℕ) (report : Report) (text : List ℕ) : Type 0 where
  pub report_text : List ℕ
  pub stated : StatesReport (translation_of source) pivots report report_text
  pub result_is : text ≡ point_lines 0 source.at ++ report_text
  pub ends : EndsAsRuns source
  pub bounded : (total : Bound) → report.total ≡ Some total → HasStepsWithin source total

-- the table of `while`: by the report of the translation's analysis, which the text states after the positions of the
-- statements
abbrev pub while_answers : ℕ → Source → Cases
while_answers pivots source =
    table_by_report (IsAnalysis (translation_of source) pivots) (StatesExecutions source pivots)
