-- What `while` wrote with a total.
use Rattle.std.specs.Prelude.{◌≡◌, ℕ, List, Some, ⊤}
use Rattle.model.specs.Bounds.{Bound}
use Rattle.command_line.specs.Lines.{Word}
use Rattle.outcome.specs.Reports.{Report}
use Rattle.while_answer.specs.while_text.Reading.{Source}
use Rattle.call_plans.specs.Calls.{SinkUse}
use Rattle.call_plans.specs.Gives.{Gives}
use Rattle.call_plans.specs.Meanings.{Appended}
use Rattle.koat_cli.specs.Calls.{Call}
use Rattle.koat_cli.specs.WhileTexts.{while_programs}
use Rattle.koat_cli.specs.Commands.While.{StatesExecutions}

-- The file spells this while program within the limits, and a text was appended, whole, that states the report of its
-- translation's analysis, with this total. So each execution from a value for each input has at most as many steps as
-- the total says, and ends as some run of the translation with as many steps does.
pub record WroteTotal (call : Call) (put : SinkUse) (pivots : ℕ) (file : Word) (source : Source) (total : Bound)
    : Type 0 where
  pub given : Gives while_programs call.shelf file ⊤ source
  pub report : Report
  pub is_total : report.total ≡ Some total
  pub text : List ℕ
  pub stated : StatesExecutions source pivots report text
  pub appended : Appended put text
