-- What a lasso implies for reports.
use Rattle.std.specs.Prelude.{◌≡◌, ◌≢◌, ◌≤◌, ℕ, false, Some, ⊤}
use Rattle.std.specs.List.{All, list_all}
use Rattle.model.specs.Bounds.{Bound}
use Rattle.model.specs.Programs.{Program}
use Rattle.outcome.specs.Reports.{Report, Timed, is_timed}
use Rattle.outcome.specs.Holding.{IsReportOn, ReportHolds, numbered_entry}
use Rattle.command_line.specs.Lines.{Word}
use Rattle.command_line.specs.Requests.{OfPair, OfProgram, HasRequest}
use Rattle.command_line.specs.declared.task.PairTask.TheVariants.{Lasso as LassoTask}
use Rattle.command_line.specs.declared.task.ProgramTask.TheVariants.{Analyse}
use Rattle.lasso_forms.specs.lasso_check.Checks.{Turn}
use Rattle.lasso_forms.specs.Files.{LassoFile}
use Rattle.lasso_forms.specs.Turns.{EndlessTurn, Back, rules_in, IsEndlessTurn, CanRepeat}
use Rattle.call_plans.specs.declared.status.Status.TheVariants.{Done}
use Rattle.call_plans.specs.Calls.{SinkUse}
use Rattle.call_plans.specs.Gives.{Gives}
use Rattle.call_plans.specs.Meanings.{Appended}
use Rattle.koat_cli.specs.Calls.{Call}
use Rattle.koat_cli.specs.Ends.{Ends}
use Rattle.koat_cli.specs.LassoTexts.{turn_text, lassos}
use Rattle.koat_cli.specs.ProgramTexts.{programs}

-- The first file gave a program, the second one a lasso of it, and the text of its turn was written, which leads back
-- or moves on. No report on this program whose bounds all hold on every run has a time for a rule of the turn, nor a
-- total if the turn leads back and costs something.
pub record WroteTurn (call : Call) (put : SinkUse) (file second : Word) : Type 0 where
  pub program : Program
  pub given : Gives programs call.shelf file ⊥ program
  pub lasso : LassoFile
  pub also_given : Gives (lassos program) call.shelf second ⊤ lasso
  pub turn : EndlessTurn
  pub is_turn : IsEndlessTurn program lasso turn
  pub written : Appended put (turn_text turn)
  pub no_time : (report : Report) → ReportHolds program report
      → All (λ rule. (time : Bound) → numbered_entry report.times rule ≢ Some (Timed time)) (rules_in turn)
  pub no_total : (back : Turn) → turn ≡ Back back → 1 ≤ back.cost → (report : Report) → ReportHolds program report
      → (total : Bound) → report.total ≢ Some total

-- A report on a program that has a lasso whose turn leads back, or is shown to move on, misses a time, if all its
-- bounds hold on every run. A call that requests a lasso and ends with `Done` wrote a turn, for whose rules no such
-- report has a time. And if a call that requests an analysis ends with `Done`, the program in its file has no such
-- lasso.
pub record LassosLeaveTimesMissing : Type 0 where
  pub each : (p : Program) (f : LassoFile) (r : Report) → CanRepeat p f → IsReportOn p r → ReportHolds p r
      → list_all is_timed r.times ≡ false
  pub of_calls : (call : Call) (put : SinkUse) (file second : Word) → HasRequest call.words (OfPair LassoTask file second)
      → Ends Done call put → WroteTurn call put file second
  pub never_done : (call : Call) (put : SinkUse) (pivots : ℕ) (file : Word)
      → HasRequest call.words (OfProgram Analyse pivots file) → Ends Done call put
      → (p : Program) × Gives programs call.shelf file ⊤ p × ((f : LassoFile) → ¬ (CanRepeat p f))
