-- The requests of command lines.
use Rattle.std.proofs.Common.{ℕ, [], ◌∷◌, Some, None, refl, arith, codes}
use Rattle.command_line.specs.declared.command.Command.TheVariants as commands
use Rattle.command_line.specs.declared.task.ProgramTask.{ProgramTask}
use Rattle.command_line.specs.declared.task.PairTask.{PairTask}
use Rattle.command_line.specs.declared.task.NumberTask.{NumberTask}
use Rattle.command_line.specs.declared.task.FileTask.{FileTask}
use Rattle.command_line.specs.Lines.{Word, Words, OptionThenValue, OptionWithValue, Positional, AreWordsWith}
use Rattle.command_line.specs.Numerals.{IsNumber}
use Rattle.command_line.specs.Requests.{OfProgram, OfPair, OfNumber, Analyse, Prove, Facts, Best, Certify, Check}
use Rattle.command_line.specs.Requests.{Replay, Lasso, Generate}
use Rattle.command_line.specs.Requests.{OfFile, While, Selfrun, Lp, Translate, word_of, AllowsPivots, HasRequest}
use Rattle.command_line.specs.Worked.{CommandLines}
use Rattle.command_line.proofs.Firsts.{gives_of as line}

-- the words after a command with a program's file
of_program : (task : ProgramTask) (others values : Words) (n : ℕ) (file : Word) → AreWordsWith others values (file ∷ [])
    → AllowsPivots values n
    → HasRequest (word_of (commands.OfProgram task) ∷ others) (OfProgram task n file)
of_program task others values n file g a = record {
  others = others;
  values = values;
  positionals = file ∷ [];
  command = refl;
  gives = g;
  parts = record { allowed = a; one = refl };
}

-- the words after a command with two files, without the option
of_pair : (task : PairTask) (others : Words) (file second : Word) → AreWordsWith others [] (file ∷ second ∷ [])
    → HasRequest (word_of (commands.OfPair task) ∷ others) (OfPair task file second)
of_pair task others file second g = record {
  others = others;
  values = [];
  positionals = file ∷ second ∷ [];
  command = refl;
  gives = g;
  parts = record { no_option = refl; two = refl };
}

-- the words after a command with a file alone, without the option
of_file : (task : FileTask) (others : Words) (file : Word) → AreWordsWith others [] (file ∷ [])
    → HasRequest (word_of (commands.OfFile task) ∷ others) (OfFile task file)
of_file task others file g = record {
  others = others;
  values = [];
  positionals = file ∷ [];
  command = refl;
  gives = g;
  parts = record { no_option = refl; one = refl };
}

-- the words after the command of a while program, with the option
of_while : (others values : Words) (n : ℕ) (file : Word) → AreWordsWith others values (file ∷ [])
    → AllowsPivots values n
    → HasRequest (word_of commands.While ∷ others) (While n file)
of_while others values n file g a = record {
  others = others;
  values = values;
  positionals = file ∷ [];
  command = refl;
  gives = g;
  parts = record { allowed = a; one = refl };
}

-- the words after a command with a number, without the option
of_number : (task : NumberTask) (others : Words) (word : Word) (n : ℕ) → AreWordsWith others [] (word ∷ [])
    → IsNumber 100 word n
    → HasRequest (word_of (commands.OfNumber task) ∷ others) (OfNumber task n)
of_number task others word n g h = record {
  others = others;
  values = [];
  positionals = word ∷ [];
  command = refl;
  gives = g;
  parts = record { no_option = refl; word = word; one = refl; number = h };
}

seventy : IsNumber 1000000 (codes "70") 70
seventy = record { some = λ e. cc; digits = refl; plain = refl; value = refl; in_range = omega arith }

five : IsNumber 1000000 (codes "5") 5
five = record { some = λ e. cc; digits = refl; plain = refl; value = refl; in_range = omega arith }

zero : IsNumber 1000000 (codes "0") 0
zero = record { some = λ e. cc; digits = refl; plain = refl; value = refl; in_range = omega arith }

million : IsNumber 1000000 (codes "1000000") 1000000
million = record { some = λ e. cc; digits = refl; plain = refl; value = refl; in_range = omega arith }

six : IsNumber 100 (codes "6") 6
six = record { some = λ e. cc; digits = refl; plain = refl; value = refl; in_range = omega arith }

no_loop : IsNumber 100 (codes "0") 0
no_loop = record { some = λ e. cc; digits = refl; plain = refl; value = refl; in_range = omega arith }

hundred : IsNumber 100 (codes "100") 100
hundred = record { some = λ e. cc; digits = refl; plain = refl; value = refl; in_range = omega arith }

pub command_lines : CommandLines
command_lines = record {
  file_alone = of_program Analyse _ [] 10000 (codes "p") (line (Positional (codes "p") ∷ []) None (refl, tt)) refl;
  standard_input = of_program Analyse _ [] 10000 (codes "-") (line (Positional (codes "-") ∷ []) None (refl, tt)) refl;
  empty_word = of_program Analyse _ [] 10000 [] (line (Positional [] ∷ []) None (refl, tt)) refl;
  option_then_value = of_program Analyse _ (codes "70" ∷ []) 70 (codes "p")
      (line (OptionThenValue (codes "70") ∷ Positional (codes "p") ∷ []) None (refl, (refl, tt))) seventy;
  option_with_value = of_program Analyse _ (codes "5" ∷ []) 5 (codes "p")
      (line (Positional (codes "p") ∷ OptionWithValue (codes "5") ∷ []) None (refl, (refl, tt))) five;
  none = of_program Analyse _ (codes "0" ∷ []) 0 (codes "p")
      (line (OptionThenValue (codes "0") ∷ Positional (codes "p") ∷ []) None (refl, (refl, tt))) zero;
  most = of_program Analyse _ (codes "1000000" ∷ []) 1000000 (codes "p")
      (line (OptionWithValue (codes "1000000") ∷ Positional (codes "p") ∷ []) None (refl, (refl, tt))) million;
  option_after_end = of_program Analyse _ [] 10000 (codes "--pivots") (line [] (Some (codes "--pivots" ∷ [])) tt) refl;
  end_after_end = of_program Analyse _ [] 10000 (codes "--") (line [] (Some (codes "--" ∷ [])) tt) refl;
  proofs = of_program Prove _ (codes "5" ∷ []) 5 (codes "p")
      (line (OptionWithValue (codes "5") ∷ Positional (codes "p") ∷ []) None (refl, (refl, tt))) five;
  check = of_pair Check _ (codes "p") (codes "q")
      (line (Positional (codes "p") ∷ Positional (codes "q") ∷ []) None (refl, (refl, tt)));
  replay = of_pair Replay _ (codes "p") (codes "-q")
      (line (Positional (codes "p") ∷ []) (Some (codes "-q" ∷ [])) (refl, tt));
  lasso = of_pair Lasso _ (codes "p") (codes "q")
      (line (Positional (codes "p") ∷ Positional (codes "q") ∷ []) None (refl, (refl, tt)));
  generate = of_number Generate _ (codes "6") 6 (line (Positional (codes "6") ∷ []) None (refl, tt)) six;
  number_after_end = of_number Generate _ (codes "0") 0 (line [] (Some (codes "0" ∷ [])) tt) no_loop;
  selfrun = of_number Selfrun _ (codes "100") 100 (line (Positional (codes "100") ∷ []) None (refl, tt)) hundred;
  facts = of_program Facts _ [] 10000 (codes "p") (line (Positional (codes "p") ∷ []) None (refl, tt)) refl;
  facts_within = of_program Facts _ (codes "0" ∷ []) 0 (codes "-")
      (line (OptionThenValue (codes "0") ∷ Positional (codes "-") ∷ []) None (refl, (refl, tt))) zero;
  best = of_program Best _ [] 10000 (codes "p") (line (Positional (codes "p") ∷ []) None (refl, tt)) refl;
  best_within = of_program Best _ (codes "5" ∷ []) 5 (codes "p")
      (line (OptionWithValue (codes "5") ∷ Positional (codes "p") ∷ []) None (refl, (refl, tt))) five;
  certify = of_program Certify _ [] 10000 (codes "p") (line (Positional (codes "p") ∷ []) None (refl, tt)) refl;
  linear_program = of_file Lp _ (codes "p") (line (Positional (codes "p") ∷ []) None (refl, tt));
  dash_first = of_file Lp _ (codes "-p") (line [] (Some (codes "-p" ∷ [])) tt);
  while_program = of_while _ [] 10000 (codes "p") (line (Positional (codes "p") ∷ []) None (refl, tt)) refl;
  while_within = of_while _ (codes "5" ∷ []) 5 (codes "-p")
      (line (OptionWithValue (codes "5") ∷ []) (Some (codes "-p" ∷ [])) (refl, tt)) five;
  translation = of_file Translate _ (codes "p") (line (Positional (codes "p") ∷ []) None (refl, tt));
}
