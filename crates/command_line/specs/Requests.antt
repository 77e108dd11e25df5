-- The request of a list of words.
use Rattle.std.specs.Prelude.{◌≡◌, ℕ, List, [], ◌∷◌, codes}
use Rattle.command_line.specs.declared.command.Command.{Command}
use Rattle.command_line.specs.declared.command.Command.TheVariants as commands
use Rattle.command_line.specs.declared.task.ProgramTask.{ProgramTask}
use Rattle.command_line.specs.declared.task.PairTask.{PairTask}
use Rattle.command_line.specs.declared.task.NumberTask.{NumberTask}
use Rattle.command_line.specs.declared.task.FileTask.{FileTask}
pub use Rattle.command_line.specs.declared.task.ProgramTask.TheVariants.{Analyse, Prove, Facts, Best, Certify}
pub use Rattle.command_line.specs.declared.task.PairTask.TheVariants.{Check, Replay, Lasso}
pub use Rattle.command_line.specs.declared.task.NumberTask.TheVariants.{Generate, Selfrun}
pub use Rattle.command_line.specs.declared.task.FileTask.TheVariants.{Lp, Translate}
use Rattle.command_line.specs.Lines.{Word, Words, AreWordsWith}
use Rattle.command_line.specs.Numerals.{IsNumber}

-- the requests, by form: a task for the program in a file, with this many pivots for each linear program; a task for
-- the program in a file and a second file about it; a task for a number; a task for a file of another kind; or the
-- analysis of the while program in a file, with this many pivots for each linear program
pub data Request : Type 0 where
  OfProgram : ProgramTask → ℕ → Word → Request
  OfPair : PairTask → Word → Word → Request
  OfNumber : NumberTask → ℕ → Request
  OfFile : FileTask → Word → Request
  While : ℕ → Word → Request

-- the word of a command
abbrev pub word_of : Command → Word
word_of (commands.OfProgram Analyse) = codes "analyse"
word_of (commands.OfProgram Prove) = codes "prove"
word_of (commands.OfProgram Facts) = codes "facts"
word_of (commands.OfProgram Best) = codes "best"
word_of (commands.OfProgram Certify) = codes "certify"
word_of (commands.OfPair Check) = codes "check"
word_of (commands.OfPair Replay) = codes "replay"
word_of (commands.OfPair Lasso) = codes "lasso"
word_of (commands.OfNumber Generate) = codes "generate"
word_of (commands.OfNumber Selfrun) = codes "selfrun"
word_of (commands.OfFile Lp) = codes "lp"
word_of (commands.OfFile Translate) = codes "translate"
word_of commands.While = codes "while"

-- the commands, in the order in which the usage text lists them
abbrev pub all_commands : List Command
all_commands =
    commands.OfProgram Best
    ∷ commands.OfProgram Analyse
    ∷ commands.OfProgram Prove
    ∷ commands.OfPair Check
    ∷ commands.OfPair Replay
    ∷ commands.OfNumber Generate
    ∷ commands.OfNumber Selfrun
    ∷ commands.OfProgram Facts
    ∷ commands.OfProgram Certify
    ∷ commands.While
    ∷ commands.OfFile Translate
    ∷ commands.OfPair Lasso
    ∷ commands.OfFile Lp
    ∷ []

-- the command of a request
abbrev pub command_of : Request → Command
command_of (OfProgram task pivots file) = commands.OfProgram task
command_of (OfPair task file second) = commands.OfPair task
command_of (OfNumber task n) = commands.OfNumber task
command_of (OfFile task file) = commands.OfFile task
command_of (While pivots file) = commands.While

-- this many pivots are allowed if the option isn't given
abbrev pub default_pivots : ℕ
default_pivots = 10000

-- the most pivots that can be allowed
abbrev pub maximum_pivots : ℕ
maximum_pivots = 1000000

-- a program is generated of a number up to this one
abbrev pub maximum_generated : ℕ
maximum_generated = 100

-- how many pivots the values of the option allow: the option is given once at most, and then with a number in its range
abbrev pub AllowsPivots : Words → ℕ → Type 0
AllowsPivots [] n = n ≡ default_pivots
AllowsPivots (value ∷ []) n = IsNumber maximum_pivots value n
AllowsPivots (value ∷ other ∷ values) n = ⊥

-- the values of the option allow this many pivots, and the file is the only positional
pub record AreProgramOperands (values positionals : Words) (pivots : ℕ) (file : Word) : Type 0 where
  pub allowed : AllowsPivots values pivots
  pub one : positionals ≡ file ∷ []

-- the option isn't given, and these are the two positionals
pub record AreTwoFiles (values positionals : Words) (first second : Word) : Type 0 where
  pub no_option : values ≡ []
  pub two : positionals ≡ first ∷ second ∷ []

-- the option isn't given, and the file is the only positional
pub record IsOneFile (values positionals : Words) (file : Word) : Type 0 where
  pub no_option : values ≡ []
  pub one : positionals ≡ file ∷ []

-- the option isn't given, and the only positional is the number, which is in its range
pub record IsOneNumber (values positionals : Words) (n : ℕ) : Type 0 where
  pub no_option : values ≡ []
  pub word : Word
  pub one : positionals ≡ word ∷ []
  pub number : IsNumber maximum_generated word n

-- these values of the option and these positionals are those of the request
abbrev pub IsRequestWith : Request → Words → Words → Type 0
IsRequestWith (OfProgram task pivots file) values positionals = AreProgramOperands values positionals pivots file
IsRequestWith (OfPair task file second) values positionals = AreTwoFiles values positionals file second
IsRequestWith (OfNumber task n) values positionals = IsOneNumber values positionals n
IsRequestWith (OfFile task file) values positionals = IsOneFile values positionals file
IsRequestWith (While pivots file) values positionals = AreProgramOperands values positionals pivots file

-- the words after the program's name have this request: they are the word of its command, followed by the values of the
-- option and the positionals of the request, options before or after positionals
pub record HasRequest (words : Words) (request : Request) : Type 0 where
  pub others : Words
  pub values : Words
  pub positionals : Words
  pub command : words ≡ word_of (command_of request) ∷ others
  pub gives : AreWordsWith others values positionals
  pub parts : IsRequestWith request values positionals
