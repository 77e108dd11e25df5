-- The texts of linear programs: the state of reading, and the faults of tokens.
use Rattle.std.specs.Prelude.{ℕ, Bool, ◌||◌, ◌==◌, nat_lt, nat_le, int_lt, if◌then◌else◌, ℤ, pos, unsigned_abs}
use Rattle.std.specs.Prelude.{List, [], ◌∷◌, ◌++◌, length, Option, Some, None}
use Rattle.text_grammar.specs.text_core.Choices.{when}
use Rattle.text_grammar.specs.Grammars.{rules_of}
use Rattle.text_grammar.specs.Texts.{Text}
use Rattle.text_grammar.specs.ByteTexts.{ByteText, texts_of}
use Rattle.lp_text.specs.declared.kind.LpKind.{LpKind}
use Rattle.lp_text.specs.declared.kind.LpKind.TheVariants.{Syntax, NumberTooLarge, Limit}
use Rattle.lp_text.specs.declared.section.Section.{Section}
use Rattle.lp_text.specs.declared.section.Section.TheVariants.{Head, First, Second, Rows, Right}
use Rattle.lp_text.specs.declared.grammar.TheConstants.{LETTERS, LP_GRAMMAR, ROUNDS}
use Rattle.lp_text.specs.Lps.{Row, Lp, number_limit, size_limit}

-- the part of a linear program that has been read, the section that is being read, and the numbers of the row so far
pub record State : Type 0 where
  pub lp : Lp
  pub section : Section
  pub numbers : List ℤ

-- The number of a kind of refusal.
abbrev pub number_of : LpKind → ℕ
number_of Syntax = 1
number_of NumberTooLarge = 2
number_of Limit = 3

-- how many numbers a line must have
abbrev pub columns_of : State → ℕ
columns_of s = unsigned_abs s.lp.columns

-- a number is too large
abbrev pub is_too_large : ℤ → Bool
is_too_large z = nat_lt number_limit (unsigned_abs z)

-- a number isn't one that the number of columns may be
abbrev pub is_beyond : ℤ → Bool
is_beyond z = int_lt z (pos 1) || int_lt (pos size_limit) z

-- the fault of a number of columns: it is too large, or beyond the limit
abbrev pub fault_of_columns : ℤ → Option LpKind
fault_of_columns z = if is_too_large z then Some NumberTooLarge else when (is_beyond z) Limit

-- the fault of a number of a row, after this many others: it is one too many, or too large
abbrev pub fault_of_entry : ℕ → ℕ → ℤ → Option LpKind
fault_of_entry columns count z = if nat_le columns count then Some Syntax else when (is_too_large z) NumberTooLarge

-- the fault of a signed number in a section
abbrev pub fault_of_signed_in : Section → State → ℤ → Option LpKind
fault_of_signed_in Head s z = fault_of_columns z
fault_of_signed_in Rows s z = fault_of_entry (columns_of s) (length s.numbers) z
fault_of_signed_in First s z = when (is_too_large z) NumberTooLarge
fault_of_signed_in Second s z = when (is_too_large z) NumberTooLarge
fault_of_signed_in Right s z = when (is_too_large z) NumberTooLarge

-- the fault of a byte in a line of costs, after this many costs: of a blank, if there is one for each column already;
-- of a line feed, if there isn't
abbrev pub fault_of_costs : ℕ → ℕ → ℕ → Option LpKind
fault_of_costs columns count b =
    if b == 32 then when (nat_le columns count) Syntax
    else if b == 10 then when (nat_lt count columns) Syntax
    else None

-- the fault of a byte after this many rows and this many numbers of a row: of an `r`, if it begins a row too many; of
-- `=`, if numbers are missing; of a `-`, if none is missing
abbrev pub fault_of_row : ℕ → ℕ → ℕ → ℕ → Option LpKind
fault_of_row columns rows count b =
    if b == 114 then when (nat_le size_limit rows) Limit
    else if b == 61 then when (nat_lt count columns) Syntax
    else if b == 45 then when (nat_le columns count) Syntax
    else None

-- the fault of a byte in a section
abbrev pub fault_of_byte_in : Section → State → ℕ → Option LpKind
fault_of_byte_in Head s b = None
fault_of_byte_in First s b = fault_of_costs (columns_of s) (length s.lp.first) b
fault_of_byte_in Second s b = fault_of_costs (columns_of s) (length s.lp.second) b
fault_of_byte_in Rows s b = fault_of_row (columns_of s) (length s.lp.rows) (length s.numbers) b
fault_of_byte_in Right s b = None

-- the state after a natural number, which is a cost
abbrev pub with_natural : Section → ℕ → State → State
with_natural First n s = record s { lp = record s.lp { first = s.lp.first ++ n ∷ [] } }
with_natural Second n s = record s { lp = record s.lp { second = s.lp.second ++ n ∷ [] } }
with_natural Head n s = s
with_natural Rows n s = s
with_natural Right n s = s

-- the state after a signed number: the number of columns, a number of a row, or its right side, which completes the row
abbrev pub with_signed : Section → ℤ → State → State
with_signed Head z s = record s { lp = record s.lp { columns = z } }
with_signed Rows z s = record s { numbers = s.numbers ++ z ∷ [] }
with_signed Right z s = record {
  lp = record s.lp { rows = s.lp.rows ++ record { numbers = s.numbers; right = z } ∷ [] };
  section = Rows;
  numbers = [];
}
with_signed First z s = s
with_signed Second z s = s

-- the state after a mark: before the first costs, before the second costs, after them, and before a right side
abbrev pub with_mark : ℕ → State → State
with_mark m s =
    if m == 8 then record s { section = First }
    else if m == 9 then record s { section = Second }
    else if m == 10 then record s { section = Rows }
    else if m == 11 then record s { section = Right }
    else s

-- the texts of linear programs as texts in bytes
abbrev pub lp_bytes : ByteText State Lp LpKind
lp_bytes = record {
  letters = LETTERS;
  rules = rules_of LP_GRAMMAR;
  rounds = ROUNDS;
  begun = record { lp = record { columns = pos 0; first = []; second = []; rows = [] }; section = Head; numbers = [] };
  natural = λ n s. with_natural s.section n s;
  signed = λ z s. with_signed s.section z s;
  line = λ vs s. s;
  done = with_mark;
  fault_of_natural = λ s n. when (nat_lt number_limit n) NumberTooLarge;
  fault_of_signed = λ s z. fault_of_signed_in s.section s z;
  fault_of_line = λ s n. None;
  fault_of_byte = λ s b. fault_of_byte_in s.section s b;
  tree = λ s. s.lp;
  number = number_of;
  syntax = Syntax;
  too_large = NumberTooLarge;
}

-- the texts of linear programs
abbrev pub lps : Text ℕ Lp LpKind
lps = texts_of lp_bytes
