-- Worked values of names, pieces, and the first faults of a small language.
use Rattle.std.specs.Prelude.{◌≡◌, ℕ, true, false, List, [], ◌∷◌, length, codes}
use Rattle.model.specs.Programs as plain
use Rattle.text_core.specs.Names.{IsName, is_same, position_of}
use Rattle.text_core.specs.Bytes.{has_leading_zero, value_up_to}
use Rattle.text_core.specs.Tokens.{Token, tokens_of}
use Rattle.text_core.specs.Readers.{IsBeginning, IsWhole, BreaksOff}
use Rattle.text_core.specs.Faults.{FaultAt, IsFirst}
use Rattle.text_core.specs.Reading.{IsTree}
use Rattle.text_core.specs.Laws.{Laws, AnswersAll, OneTree, OneFirst}
use Rattle.text_core.specs.Rows.{Piece, Number, Comma, Wrong, One, More, Kind, Syntax, TooLarge, TooMany, rows}
use Rattle.text_core.specs.Rows.{lexeme_at}

-- the name of one byte
abbrev pub letter : ℕ → plain.Name
letter b = b ∷ []

-- which bytes are a name
pub record NamesAreWorkedOut : Type 0 where
  -- a letter begins a name: `a` and `Z`
  pub small_letter : IsName (letter 97)
  pub capital_letter : IsName (letter 90)
  -- `_` and `$` are names
  pub underscore : IsName (letter 95)
  pub dollar : IsName (letter 36)
  -- letters, digits, `'`, `.`, `_` and `$` continue a name: `A0'._$z`
  pub goes_on : IsName (65 ∷ 48 ∷ 39 ∷ 46 ∷ 95 ∷ 36 ∷ 122 ∷ [])
  -- a digit, `'` and `.` begin no name: `0A`, `'A` and `.A`
  pub digit_first : ¬ (IsName (48 ∷ 65 ∷ []))
  pub apostrophe_first : ¬ (IsName (39 ∷ 65 ∷ []))
  pub dot_first : ¬ (IsName (46 ∷ 65 ∷ []))
  -- a space and `-` don't continue a name: `A B`, `A-` and `A'-B`
  pub space_in_it : ¬ (IsName (65 ∷ 32 ∷ 66 ∷ []))
  pub minus_behind_it : ¬ (IsName (65 ∷ 45 ∷ []))
  pub minus_in_it : ¬ (IsName (65 ∷ 39 ∷ 45 ∷ 66 ∷ []))
  -- the empty list of bytes is no name
  pub nothing : ¬ (IsName [])

-- which names are equal, and the position of a name among others
pub record PositionsAreFound : Type 0 where
  -- names with equal bytes are the same: `A'` and `A'`
  pub same : is_same (65 ∷ 39 ∷ []) (65 ∷ 39 ∷ []) ≡ true
  -- names with different bytes differ, also a small letter and a capital one: `A'` and `B'`, `A` and `a`
  pub other : is_same (65 ∷ 39 ∷ []) (66 ∷ 39 ∷ []) ≡ false
  pub small_for_capital : is_same (letter 65) (letter 97) ≡ false
  -- a name differs from its own extensions and prefixes: `A` and `A'`
  pub longer : is_same (letter 65) (65 ∷ 39 ∷ []) ≡ false
  pub shorter : is_same (65 ∷ 39 ∷ []) (letter 65) ≡ false
  -- positions count from 0: `A` among `A`, `B`
  pub first : position_of (letter 65) (letter 65 ∷ letter 66 ∷ []) ≡ 0
  -- for a name that occurs twice the first position counts: `B` among `A`, `B`, `A`, `B`
  pub twice : position_of (letter 66) (letter 65 ∷ letter 66 ∷ letter 65 ∷ letter 66 ∷ []) ≡ 1
  -- a name that isn't in the list has its length as position: `C` in `A`, `B`, and in the empty list
  pub absent : position_of (letter 67) (letter 65 ∷ letter 66 ∷ []) ≡ 2
  pub among_none : position_of (letter 67) [] ≡ 0

-- which numbers digits write
pub record DigitsAreWorkedOut : Type 0 where
  -- `007` and `7` write 7, and the former has leading zeros; `0` has none
  pub seven : value_up_to 100 (codes "007") ≡ 7
  pub leading : has_leading_zero (codes "007") ≡ true
  pub plain_seven : has_leading_zero (codes "7") ≡ false
  pub zero_alone : has_leading_zero (codes "0") ≡ false
  -- up to the limit 100, `100` is 100, and so is `12345`
  pub at_limit : value_up_to 100 (codes "100") ≡ 100
  pub past_limit : value_up_to 100 (codes "12345") ≡ 100

-- the tokens of a text of rows
abbrev pub tokens : List ℕ → List (Token Piece)
tokens bytes = tokens_of lexeme_at bytes

-- the positions of the pieces of ` 1, 23;`: each piece is found, digits are cut into the longest rows, and white space
-- makes no piece
pub record TokensAreFound : Type 0 where
  pub found : tokens (codes " 1, 23;")
      ≡ record { piece = Number 1; at = 1; upto = 2 } ∷ record { piece = Comma; at = 2; upto = 3 }
      ∷ record { piece = Number 23; at = 4; upto = 6 } ∷ record { piece = Wrong; at = 6; upto = 7 } ∷ []
  pub nothing : tokens [] ≡ []

-- which pieces begin a row, and where texts break off; pieces that have been read have the last one first
pub record BreaksAreWorked : Type 0 where
  -- `1,` begins a text but isn't a whole one; `1,2` is whole, and begins others
  pub comma_begins : IsBeginning rows (Comma ∷ Number 1 ∷ [])
  pub comma_is_none : ¬ IsWhole rows (Comma ∷ Number 1 ∷ [])
  pub two_are_whole : IsWhole rows (Number 2 ∷ Comma ∷ Number 1 ∷ [])
  pub two_begin : IsBeginning rows (Number 2 ∷ Comma ∷ Number 1 ∷ [])
  -- the empty list of pieces begins each text, but isn't a whole one; `,` begins none
  pub nothing_begins : IsBeginning rows []
  pub nothing_is_none : ¬ IsWhole rows []
  pub no_comma_first : ¬ IsBeginning rows (Comma ∷ [])
  -- `1,` breaks off at its end, and at a second comma, but not at a number; `1` doesn't break off
  pub ends_early : BreaksOff rows (Comma ∷ Number 1 ∷ []) []
  pub second_comma : BreaksOff rows (Comma ∷ Number 1 ∷ []) (Comma ∷ [])
  pub goes_on : ¬ BreaksOff rows (Comma ∷ Number 1 ∷ []) (Number 2 ∷ [])
  pub ends_well : ¬ BreaksOff rows (Number 1 ∷ []) []
  -- after pieces that begin no text, no text breaks off: it broke off before
  pub broken_before : ¬ BreaksOff rows (Comma ∷ []) (Comma ∷ [])

-- a text of rows has this fault; it has this first fault
abbrev pub HasFault : List ℕ → Kind → ℕ → Type 0
HasFault bytes kind at = FaultAt rows (length bytes) (tokens bytes) (record { kind = kind; at = at })

abbrev pub HasFirst : List ℕ → Kind → ℕ → Type 0
HasFirst bytes kind at = IsFirst rows (length bytes) (tokens bytes) (record { kind = kind; at = at })

-- the faults of texts of rows
pub record FaultsAreWorked : Type 0 where
  -- `1,2` denotes a row
  pub row : IsTree rows 3 (tokens (codes "1,2")) (More (One 1) 2)
  -- `1, ` ends too early, at its length; `1,,` has a fault at the second comma, and `;` at its first byte
  pub ends_early : HasFirst (codes "1, ") Syntax 3
  pub second_comma : HasFirst (codes "1,,") Syntax 2
  pub no_piece : HasFirst (codes ";") Syntax 0
  -- `12,,` has a large number as its first fault, although it breaks off later
  pub large_first : HasFirst (codes "12,,") TooLarge 0
  pub breaks_later : HasFault (codes "12,,") Syntax 3
  pub not_first : ¬ HasFirst (codes "12,,") Syntax 3
  -- `1,,12` has no fault after the comma at which it breaks off, and `1 12` none at a number that can't follow
  pub nothing_behind : ¬ HasFault (codes "1,,12") TooLarge 3
  pub cannot_follow : ¬ HasFault (codes "1 12") TooLarge 2
  -- `1,2,3,4 ` has too many numbers, a fault at the last byte of the last one; `1,2,3` hasn't
  pub too_many : HasFirst (codes "1,2,3,4 ") TooMany 6
  pub three : (at : ℕ) → ¬ HasFault (codes "1,2,3") TooMany at
  -- `1,2,3,4,` is refused where it breaks off, and has no fault of too many numbers
  pub broken_many : HasFirst (codes "1,2,3,4,") Syntax 8
  -- `1,2,3,10` has a large number, a fault at its first byte, and too many numbers, a fault at its last byte
  pub large_and_many : HasFirst (codes "1,2,3,10") TooLarge 6
  pub many_too : HasFault (codes "1,2,3,10") TooMany 7

-- the reader of rows satisfies the laws, so it answers exactly the row or the first fault
pub record RowsAreRead : Type 0 where
  pub laws : Laws rows
  pub answers : AnswersAll rows
  pub one_row : OneTree rows
  pub one_first : OneFirst rows

-- All worked values of this file.
pub record WorkedValues : Type 0 where
  pub names : NamesAreWorkedOut
  pub positions : PositionsAreFound
  pub digits : DigitsAreWorkedOut
  pub tokens_found : TokensAreFound
  pub breaks : BreaksAreWorked
  pub faults : FaultsAreWorked
  pub read : RowsAreRead
