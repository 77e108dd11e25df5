-- The headline for files with any text that spells a program.
use Rattle.std.specs.Prelude.{ℕ, List}
use Rattle.std.specs.declared.process.ExitCode.{ExitCode}
use Rattle.model.specs.Programs.{Program}
use Rattle.its_text.specs.Spelling.{Spells}
use Rattle.command_line.specs.Lines.{Word}
use Rattle.call_plans.specs.Calls.{SinkUse}
use Rattle.koat_cli.specs.Calls.{Call}
use Rattle.headline.specs.Words.{analyse_command}
use Rattle.headline.specs.Premises.{WasCalled}
use Rattle.headline.specs.Written.{EndedWithBounds}

-- The headline for any text. A process that was to analyse a file with a text that spells a program ended with bounds
-- that hold on all runs of the program, if it ended with status 0 or 1.
pub record BoundsOfAnyTextHold : Type 0 where
  pub each : (code : ExitCode) (call : Call) (put : SinkUse) (file : Word) (text : List ℕ) (p : Program)
      → WasCalled code call put (analyse_command file) file text → Spells text p → EndedWithBounds code p put
