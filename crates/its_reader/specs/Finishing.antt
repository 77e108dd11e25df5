-- The end of a text: from the symbols, the rules and the start symbol to the program.
use Rattle.std.specs.Prelude.{ℕ, Bool, false, slice_get, List, [], ◌∷◌, map, Option, Some, None, Result}
use Rattle.model.specs.Programs as plain
use Rattle.model.specs.Programs.{Name, Symbol, Program}
use Rattle.text_core.specs.Names.{is_same}
use Rattle.its_model.specs.declared.program.Program as code
use Rattle.its_text.specs.Written.{WrittenRule}
use Rattle.its_text.specs.Numbering.{first_leaving, program_from}
use Rattle.its_text.specs.Answers.{program_or}
use Rattle.its_reader.specs.Faults.{Says}
use Rattle.its_reader.specs.Standing.{limited_rule, KnowsRules}
use Rattle.its_reader.specs.declared.draft.Draft.{Draft}
use Rattle.its_reader.specs.declared.error.ReadError.{ReadError}
use Rattle.its_reader.specs.declared.symbols.SymbolEntry.{SymbolEntry}

-- the symbols of a table: a list of names, and a list of their numbers of places
abbrev pub tabled : List Name → List ℕ → List Symbol
tabled [] arities = []
tabled (n ∷ names) [] = []
tabled (n ∷ names) (a ∷ arities) = record { name = n; arity = a } ∷ tabled names arities

-- the plain symbol of an optional entry of the code
abbrev pub symbol_in : Option SymbolEntry → Option Symbol
symbol_in None = None
symbol_in (Some l) = Some (record { name = l.name.now; arity = l.arity })

-- a symbol with this many places, if that number is given
abbrev pub with_arity : Name → Option ℕ → Option Symbol
with_arity name None = None
with_arity name (Some arity) = Some (record { name = name; arity = arity })

-- this name is the one at a symbol's number
abbrev pub is_named_by : Name → Option Name → Bool
is_named_by name None = false
is_named_by name (Some known) = is_same name known

abbrev pub is_named : List Name → Name → ℕ → Bool
is_named names name number = is_named_by name (slice_get names number)

-- a rule leaves the symbol with this name
abbrev pub leaves : List Name → Name → plain.Rule → Bool
leaves names name r = is_named names name r.source

-- a program whose exponents are limited: those over 8 count as 9
abbrev pub limited_program : Option Program → Option Program
limited_program None = None
limited_program (Some p) = Some (record {
  symbols = p.symbols;
  start = p.start;
  start_names = p.start_names;
  rules = map limited_rule p.rules;
})

-- the program of a start symbol and rules, if the start symbol is the source of a rule
pub record Makes (start : Name) (at : ℕ) (d : Draft) (result : Result code.Program ReadError) : Type 0 where
  pub each : (rules : List WrittenRule) → KnowsRules rules d
      → Says (program_or at (limited_program (program_from start rules (first_leaving start rules)))) result
