-- A list of words has at most one request, and each command has a word of its own.
use Rattle.std.specs.Prelude.{◌≡◌}
use Rattle.std.specs.List.{Contains}
use Rattle.command_line.specs.declared.command.Command.{Command}
use Rattle.command_line.specs.Lines.{Words, AreWordsWith}
use Rattle.command_line.specs.Requests.{Request, word_of, all_commands, HasRequest}

-- words are read in one way, and have at most one request
pub record WordsAreReadInOneWay : Type 0 where
  pub one_line : (words v p w q : Words) → AreWordsWith words v p → AreWordsWith words w q → (v ≡ w) × (p ≡ q)
  pub one_request : (words : Words) (r q : Request) → HasRequest words r → HasRequest words q → r ≡ q

-- the list of commands, of which the usage text is made, has each command, and no two commands have the same word
pub record CommandsAreListed : Type 0 where
  pub listed : (c : Command) → Contains all_commands c
  pub distinct : (c d : Command) → word_of c ≡ word_of d → c ≡ d
