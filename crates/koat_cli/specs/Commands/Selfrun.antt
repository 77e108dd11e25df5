-- `selfrun`: the figures of the analysis of a generated program.
use Rattle.std.specs.Prelude.{◌≡◌, ℕ, List, length}
use Rattle.model.specs.Programs.{Program}
use Rattle.its_writer.specs.Generated.{generated}
use Rattle.command_line.specs.Requests.{default_pivots}
use Rattle.outcome.specs.Reports.{Report}
use Rattle.outcome.specs.declared.outcome_of.Outcome.{Outcome}
use Rattle.outcome.specs.Views.{report_of}
use Rattle.time_bounds.specs.Analysis.{IsAnalysis}
use Rattle.time_bounds.specs.AnalysisLemmas.{HasLemmas}
use Rattle.call_plans.specs.Plans.{Cases}
use Rattle.koat_cli.specs.Figures.{text_of_figures}
use Rattle.koat_cli.specs.Found.{IsFound, table_by_report}

-- the text has the figures of the program's analysis with the default number of pivots, which has this report; its
-- lemmas are those of this analysis
pub record StatesFigures (program : Program) (report : Report) (text : List ℕ) : Type 0 where
  pub outcome : Outcome
  pub reported : report_of outcome ≡ report
  pub found : IsFound program default_pivots (report_of outcome)
  pub lemmas : HasLemmas program default_pivots outcome
  pub result_is : text ≡ text_of_figures program (report_of outcome) (length outcome.lemmas.items)

-- the table of `selfrun`: by the report of the generated program's analysis, with its figures
abbrev pub selfrun_answers : ℕ → Cases
selfrun_answers n = table_by_report (IsAnalysis (generated n) default_pivots) (StatesFigures (generated n))
