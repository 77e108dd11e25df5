-- What `analyse` wrote.
use Rattle.std.specs.Prelude.{ℕ, List, ⊤}
use Rattle.std.specs.Io.KnownBytes.{Appends}
use Rattle.model.specs.Programs.{Program}
use Rattle.command_line.specs.Lines.{Word}
use Rattle.outcome.specs.Reports.{Report}
use Rattle.report_text.specs.States.{States}
use Rattle.call_plans.specs.Calls.{SinkUse}
use Rattle.call_plans.specs.Gives.{Gives}
use Rattle.koat_cli.specs.Calls.{Call}
use Rattle.koat_cli.specs.ProgramTexts.{programs}
use Rattle.koat_cli.specs.FittingReports.{ReportFits}
use Rattle.koat_cli.specs.Found.{IsFound}

-- the file spells a program within the limits, and a text was appended, whole, that states the report of the program's
-- analysis; every bound in it holds on every run of the program, from any integers and by any choice of rules, and each
-- reason in it is true of the program; and its numbers fit the types that hold them
pub record WroteReport (call : Call) (put : SinkUse) (pivots : ℕ) (file : Word) (report : Report) : Type 0 where
  pub program : Program
  pub given : Gives programs call.shelf file ⊤ program
  pub found : IsFound program pivots report
  pub fits : ReportFits report
  pub text : List ℕ
  pub stated : States program text report
  pub appended : Appends put.written_before put.written_after text
