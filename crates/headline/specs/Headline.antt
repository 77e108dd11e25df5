-- The headline: what a process that was asked to analyse a program wrote is true of all runs of the program.
use Rattle.std.specs.declared.process.ExitCode.{ExitCode}
use Rattle.model.specs.Programs.{Program}
use Rattle.its_writer.specs.Texts.{canonical_text}
use Rattle.its_writer.specs.Spellable.{IsSpellable}
use Rattle.command_line.specs.Lines.{Word}
use Rattle.call_plans.specs.Calls.{SinkUse}
use Rattle.koat_cli.specs.Calls.{Call}
use Rattle.headline.specs.Words.{analyse_command}
use Rattle.headline.specs.Premises.{WasCalled}
use Rattle.headline.specs.Written.{EndedWithBounds}

-- The headline. A process that was to analyse a file with the canonical text of a program, which is one that can be
-- spelled, ended with bounds that hold on all runs of the program, if it ended with status 0 or 1.
pub record WrittenBoundsHold : Type 0 where
  pub each : (code : ExitCode) (call : Call) (put : SinkUse) (file : Word) (p : Program)
      → WasCalled code call put (analyse_command file) file (canonical_text p) → IsSpellable p → EndedWithBounds code p put
