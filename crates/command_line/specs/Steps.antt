-- How the words after the command are read, one by one.
use Rattle.std.specs.Prelude.{◌≡◌, ◌≢◌, [], ◌∷◌, ◌++◌, map, string_bytes, IsTrue, IsFalse, codes}
use Rattle.command_line.specs.Lines.{Word, Words, is_plain, is_value, AreWordsWith}
use Rattle.command_line.specs.Requests.{Request, command_of, IsRequestWith}
use Rattle.command_line.specs.declared.command.Command.{Command}
use Rattle.command_line.specs.declared.kind.Kind.{Kind}
use Rattle.command_line.specs.declared.kind.Kind.TheVariants as kinds
use Rattle.command_line.specs.declared.line.Next.{Next}
use Rattle.command_line.specs.declared.line.Next.TheVariants as nexts
use Rattle.command_line.specs.declared.line.Line.{Line}

-- no item can begin with this word
pub record IsOther (word : Word) : Type 0 where
  pub end : word ≢ codes "--"
  pub option_then_value : word ≢ codes "--pivots"
  pub option_with_value : (value : Word) → word ≢ codes "--pivots=" ++ value
  pub plain : IsFalse (is_plain word)

-- the kind of a word where options are permitted
abbrev pub IsKind : Kind → Word → Type 0
IsKind kinds.End word = word ≡ codes "--"
IsKind kinds.Pivots word = word ≡ codes "--pivots"
IsKind (kinds.PivotsOf value) word = word ≡ codes "--pivots=" ++ value.now
IsKind kinds.Plain word = IsTrue (is_plain word)
IsKind kinds.Other word = IsOther word

-- a word that is the value of the option before it, and what the later words give
pub record AreValueThenWordsWith (words values positionals : Words) : Type 0 where
  pub value : Word
  pub others : Words
  pub more : Words
  pub first : words ≡ value ∷ others
  pub proper : IsTrue (is_value value)
  pub gives : AreWordsWith others more positionals
  pub has_values : values ≡ value ∷ more

-- the values and positionals that the remaining words give, by what may come next
abbrev pub AreNextWordsWith : Next → Words → Words → Words → Type 0
AreNextWordsWith nexts.Word words values positionals = AreWordsWith words values positionals
AreNextWordsWith nexts.Value words values positionals = AreValueThenWordsWith words values positionals
AreNextWordsWith nexts.Positional words values positionals = (values ≡ []) × (positionals ≡ words)

-- the state of reading a line: what may come next, the values of the option, and the positionals
pub record State : Type 0 where
  pub next : Next
  pub values : Words
  pub positionals : Words

-- the values and positionals that the remaining words give, added to those that were read
pub record CompletesTo (read : State) (words values positionals : Words) : Type 0 where
  pub more_values : Words
  pub more_positionals : Words
  pub gives : AreNextWordsWith read.next words more_values more_positionals
  pub has_values : values ≡ read.values ++ more_values
  pub has_positionals : positionals ≡ read.positionals ++ more_positionals

-- the values and the positionals of a line as plain data
abbrev pub values_in : Line → Words
values_in line = map (λ value. value.items) line.values.items

abbrev pub positionals_in : Line → Words
positionals_in line = map string_bytes line.positionals.items

abbrev pub state_of : Line → State
state_of line = record { next = line.next; values = values_in line; positionals = positionals_in line }

-- the state is the one that reading leads to before the remaining words: completing it with these gives the result of
-- all words, and conversely
pub record IsStateBefore (all : Words) (read : State) (left : Words) : Type 0 where
  pub forth : (values positionals : Words) → CompletesTo read left values positionals
      → AreWordsWith all values positionals
  pub back : (values positionals : Words) → AreWordsWith all values positionals
      → CompletesTo read left values positionals

-- the word is taken: after it, the remaining words give what they and the word gave before it
pub record AcceptsWord (old : State) (word : Word) (new : State) : Type 0 where
  pub forth : (left values positionals : Words) → CompletesTo new left values positionals
      → CompletesTo old (word ∷ left) values positionals
  pub back : (left values positionals : Words) → CompletesTo old (word ∷ left) values positionals
      → CompletesTo new left values positionals

-- the word isn't permitted there, whatever follows it
pub record Refuses (old : State) (word : Word) : Type 0 where
  pub none : (left values positionals : Words) → ¬ (CompletesTo old (word ∷ left) values positionals)

-- the line has one more positional
pub record HasOnePositional (old : Line) (word : Word) (new : Line) : Type 0 where
  pub values : values_in new ≡ values_in old
  pub positionals : positionals_in new ≡ positionals_in old ++ word ∷ []
  pub next : new.next ≡ old.next

-- the line has one more value of the option, after which any word is permitted
pub record HasOneValue (old : Line) (value : Word) (new : Line) : Type 0 where
  pub values : values_in new ≡ values_in old ++ value ∷ []
  pub positionals : positionals_in new ≡ positionals_in old
  pub next : new.next ≡ nexts.Word

-- the request is that of the command with these values of the option and these positionals
pub record IsRequestOfCommand (command : Command) (values positionals : Words) (request : Request) : Type 0 where
  pub command_is : command_of request ≡ command
  pub parts : IsRequestWith request values positionals

-- no request of the command has these values of the option and these positionals
abbrev pub HaveNoRequest : Command → Words → Words → Type 0
HaveNoRequest command values positionals = (request : Request)
    → ¬ (IsRequestOfCommand command values positionals request)
