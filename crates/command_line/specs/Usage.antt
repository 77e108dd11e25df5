-- The usage text, made of the list of commands.
use Rattle.std.specs.Prelude.{ℕ, List, [], ◌∷◌, ◌++◌, codes}
use Rattle.command_line.specs.declared.command.Command.{Command}
use Rattle.command_line.specs.declared.command.Command.TheVariants as commands
use Rattle.command_line.specs.Requests.{Check, Replay, Lasso, word_of, all_commands}

-- what the usage text says of the words after that of a command
abbrev pub operands_of : Command → List ℕ
operands_of (commands.OfProgram task) = codes "[--pivots N] FILE"
operands_of (commands.OfPair Check) = codes "FILE PROOF"
operands_of (commands.OfPair Replay) = codes "FILE RUN"
operands_of (commands.OfPair Lasso) = codes "FILE RUN"
operands_of (commands.OfNumber task) = codes "N"
operands_of (commands.OfFile task) = codes "FILE"
operands_of commands.While = codes "[--pivots N] FILE"

-- a line for each of these commands: the first after this margin, the others after blanks
abbrev pub usage_lines : List ℕ → List Command → List ℕ
usage_lines margin [] = []
usage_lines margin (c ∷ cs) =
    margin ++ (codes "koat "
    ++ (word_of c ++ (codes " " ++ (operands_of c ++ (codes "\n" ++ usage_lines (codes "       ") cs)))))

-- the usage text: a line for each command
abbrev pub usage_text : List ℕ
usage_text = usage_lines (codes "usage: ") all_commands
