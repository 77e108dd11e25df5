-- With which words a process was called, and what the file that it was to read held.
use Rattle.std.specs.Prelude.{◌≡◌, ℕ, List, Some, IsTrue}
use Rattle.std.specs.FinMap.{get}
use Rattle.std.specs.declared.process.ExitCode.{ExitCode}
use Rattle.outside_io.specs.Files.{Files}
use Rattle.command_line.specs.Lines.{Word, Words, is_value}
use Rattle.call_plans.specs.Calls.{SinkUse}
use Rattle.koat_cli.specs.Calls.{Call}
use Rattle.koat_cli.specs.Processes.{Exits}

-- The process that ended with this code was called with these words after its own name. The file's name, which the laws
-- have among the words, doesn't begin with `-`, and the shelf discloses that the file holds this text.
pub record WasCalled (code : ExitCode) (call : Call) (put : SinkUse) (words : Words) (file : Word) (text : List ℕ)
    : Type 0 where
  pub exits : Exits code call put
  pub called : call.words ≡ words
  pub name : IsTrue (is_value file)
  pub files : Files
  pub disclosed : call.shelf.files_if_disclosed ≡ Some files
  pub holds : get files file ≡ Some text
