-- What `replay` wrote on a program and a run: the tally of the run, each number beside the value of its bound, and at most
-- that value.
use Rattle.std.specs.Prelude.{◌≡◌, ℕ, List, Some, IsTrue}
use Rattle.std.specs.FinMap.{get}
use Rattle.std.specs.Io.KnownBytes.{Appends}
use Rattle.std.specs.Process.{exit_status}
use Rattle.std.specs.declared.process.ExitCode.{ExitCode}
use Rattle.model.specs.Programs.{Program}
use Rattle.model.specs.Runs.{Config, IsRun, sizes_of_start}
use Rattle.its_text.specs.Spelling.{Spells}
use Rattle.its_writer.specs.Texts.{canonical_text}
use Rattle.its_writer.specs.Spellable.{IsSpellable}
use Rattle.run_replay.specs.Runs.{Run}
use Rattle.run_replay.specs.Spelled.{text_of}
use Rattle.run_replay.specs.Replays.{tally_along}
use Rattle.run_replay.specs.ReplayAnswers.{last_first}
use Rattle.outcome.specs.Reports.{Report}
use Rattle.outcome.specs.Holding.{IsReportOn}
use Rattle.command_line.specs.Lines.{Word, is_value}
use Rattle.call_plans.specs.Calls.{SinkUse}
use Rattle.koat_cli.specs.Calls.{Call}
use Rattle.koat_cli.specs.ReplayTexts.{text_of_replay}
use Rattle.koat_cli.specs.WithinBounds.{IsWithinBounds}
use Rattle.headline.specs.Words.{replay_command}
use Rattle.headline.specs.Premises.{WasCalled}

-- The text is that of a run of the program: its steps lead from its start values to some configuration. And the tally of
-- the run beside the bounds of a report on the program was appended, whole, to the output; each number of the tally is
-- at most the value of the bound beside it, at the absolute start values.
pub record WroteTally (p : Program) (put : SinkUse) (text : List ℕ) : Type 0 where
  pub run : Run
  pub is_text : text ≡ text_of run
  pub end : Config
  pub is_run : IsRun p run.start (last_first run) end
  pub report : Report
  pub on_program : IsReportOn p report
  pub within_bounds : IsWithinBounds (sizes_of_start run.start) (tally_along p run.start (last_first run)) report
  pub appended : Appends put.written_before put.written_after
      (text_of_replay (sizes_of_start run.start) (tally_along p run.start (last_first run)) report)

-- A process that was to replay a run, and ended with status 0, wrote its tally: the first of its files held the canonical
-- text of a program that can be spelled, and the second, whose name doesn't begin with `-` either, some text.
pub record TalliesAreOfRuns : Type 0 where
  pub each : (code : ExitCode) (call : Call) (put : SinkUse) (file second : Word) (p : Program) (text : List ℕ)
      → (was : WasCalled code call put (replay_command file second) file (canonical_text p)) → IsTrue (is_value second)
      → get was.files second ≡ Some text → IsSpellable p → exit_status code ≡ 0 → WroteTally p put text

-- The same for a first file with any text that spells a program.
pub record TalliesAreOfRunsOfAnyText : Type 0 where
  pub each : (code : ExitCode) (call : Call) (put : SinkUse) (file second : Word) (spelling : List ℕ) (p : Program)
      (text : List ℕ) → (was : WasCalled code call put (replay_command file second) file spelling)
      → IsTrue (is_value second) → get was.files second ≡ Some text → Spells spelling p → exit_status code ≡ 0
      → WroteTally p put text
