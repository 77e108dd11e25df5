-- `replay`: a run of a program beside the bounds of its analysis.
use Rattle.std.specs.Prelude.{◌≡◌, List, ℕ}
use Rattle.model.specs.Programs.{Program}
use Rattle.model.specs.Runs.{sizes_of_start}
use Rattle.command_line.specs.Requests.{default_pivots}
use Rattle.outcome.specs.Reports.{Report}
use Rattle.outcome.specs.Holding.{IsReportOn}
use Rattle.run_replay.specs.ReplayAnswers.{last_first}
use Rattle.run_replay.specs.Replays.{IsRunInRange, BadStep, IsFirstBadStep, tally_along}
use Rattle.run_replay.specs.Runs.{Run}
use Rattle.call_plans.specs.declared.status.Status.TheVariants.{Done, NotARun}
use Rattle.call_plans.specs.Plans.{Cases, End, Case}
use Rattle.koat_cli.specs.Found.{IsFound}
use Rattle.koat_cli.specs.ReplayTexts.{text_of_replay}
use Rattle.koat_cli.specs.RunTexts.{bad_step_text}
use Rattle.koat_cli.specs.Statements.{StatesOne}
use Rattle.koat_cli.specs.WithinBounds.{IsWithinBounds}

-- the steps are a run of the program, and no value exceeds 128 bits on the way
abbrev pub IsInRange : Program → Run → Type 0
IsInRange program run = IsRunInRange program run.start (last_first run)

-- one of the steps is the first bad one
abbrev pub HasBadStep : Program → Run → Type 0
HasBadStep program run = (bad : BadStep) × IsFirstBadStep program run.start (last_first run) bad

-- the text has the tally along the run beside the bounds of the program's analysis with the default number of pivots,
-- each as its value, up to 2^127, at the absolute start values; the report has an entry for each rule and for each
-- place of its target, so that none of their lines is left out; and each number of the tally is at most the value of
-- the bound beside it
pub record StatesTally (program : Program) (run : Run) (text : List ℕ) : Type 0 where
  pub in_range : IsInRange program run
  pub report : Report
  pub found : IsFound program default_pivots report
  pub on_program : IsReportOn program report
  pub within_bounds : IsWithinBounds (sizes_of_start run.start)
      (tally_along program run.start (last_first run)) report
  pub result_is : text
      ≡ text_of_replay (sizes_of_start run.start) (tally_along program run.start (last_first run)) report

-- the text states the first bad step
abbrev pub StatesBadStep : Program → Run → List ℕ → Type 0
StatesBadStep program run text = StatesOne (IsFirstBadStep program run.start (last_first run)) bad_step_text text

-- the table of `replay`: `Done` if the steps are a run within 128 bits, with the tally beside the bounds; and `NotARun`
-- if one of them is bad, with the first bad one
abbrev pub replay_answers : Program → Run → Cases
replay_answers program run =
    Case Done (IsInRange program run) (StatesTally program run)
    (Case NotARun (HasBadStep program run) (StatesBadStep program run) End)
