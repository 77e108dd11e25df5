-- Worked values of the order of faults, of where faults are shown, of limits and of laws, for the reader of rows and
-- for readers that differ from it in one part.
use Rattle.std.specs.Prelude.{ℕ, ◌≤◌, List, [], ◌∷◌, Option, Some, None, ◌≡◌, ⊤}
use Rattle.text_core.specs.Tokens.{Token}
use Rattle.text_core.specs.Readers.{Fault, Reader, walk}
use Rattle.text_core.specs.Faults.{NotAfter}
use Rattle.text_core.specs.Stopping.{ShowsBehind, ShowsNext}
use Rattle.text_core.specs.Limits.{KeepsLimits, ShowsNoLimit}
use Rattle.text_core.specs.Laws.{Laws}
use Rattle.text_core.specs.Rows.{Piece, Comma, Row, One, More, ParserState, Begins, Behind, Open}
use Rattle.text_core.specs.Rows.{Kind, Syntax, TooLarge, TooMany, number_of, count, Writes, step, finish}
use Rattle.text_core.specs.Rows.{large_next, shown, rows}

-- a reader like that of rows, with other steps, ends, numbers of kinds, or shown faults
abbrev pub rows_with : (ParserState → Piece → Option ParserState) → (ParserState → Option Row) → (Kind → ℕ)
    → (ℕ → List (Token Piece) → ParserState → List (Token Piece) → List (Fault Kind)) → Reader Piece Row ParserState Kind
rows_with steps ends numbers shows = record {
  Writes = Writes;
  beginning = Begins;
  step = steps;
  finish = ends;
  number = numbers;
  shown = shows;
  stop_kind = λ f rest. Syntax;
}

-- the steps of a reader in which a comma may come first
abbrev pub leading_comma : ParserState → Piece → Option ParserState
leading_comma Begins Comma = Some Begins
leading_comma f p = step f p

-- the ends of a reader that lets a text end after a comma, and drops the comma
abbrev pub ending_open : ParserState → Option Row
ending_open (Open row) = Some row
ending_open f = finish f

-- each law can fail while the others hold: a state that begins no row; a tree that isn't written like its text; a row
-- that isn't read; and kinds that aren't distinct
pub record LawsAreWorkedOut : Type 0 where
  pub leads_nowhere : ¬ Laws (rows_with leading_comma finish number_of shown)
  pub ends_wrongly : ¬ Laws (rows_with step ending_open number_of shown)
  pub never_ends : ¬ Laws (rows_with step (λ f. None) number_of shown)
  pub one_number : ¬ Laws (rows_with step finish (λ kind. 1) shown)

-- a fault of a kind at a position
abbrev pub fault : Kind → ℕ → Fault Kind
fault kind at = record { kind = kind; at = at }

-- of two faults the one at the lesser position comes first; of two at one position the one with the lesser number; and
-- no fault comes after itself
pub record OrderIsWorked : Type 0 where
  pub earlier : NotAfter rows (fault TooMany 1) (fault Syntax 2)
  pub lesser_kind : NotAfter rows (fault Syntax 3) (fault TooLarge 3)
  pub itself : NotAfter rows (fault TooLarge 3) (fault TooLarge 3)
  pub later : ¬ NotAfter rows (fault Syntax 2) (fault TooMany 1)
  pub greater_kind : ¬ NotAfter rows (fault TooLarge 3) (fault Syntax 3)

-- a reader that shows only large numbers, at the next token
abbrev pub large_alone : Reader Piece Row ParserState Kind
large_alone = rows_with step finish number_of (λ n done f rest. large_next rest)

-- a reader that shows a fault at the beginning of the text, in whatever state it is
abbrev pub back_at_beginning : Reader Piece Row ParserState Kind
back_at_beginning = rows_with step finish number_of (λ n done f rest. fault TooMany 0 ∷ [])

-- the reader of rows shows no fault before the last token, but shows too many numbers at that token; the reader of
-- large numbers shows them at the next token; and a fault at the beginning of the text is before the last token
pub record PlacesAreWorkedOut : Type 0 where
  pub rows_behind : ShowsBehind rows
  pub rows_not_next : ¬ ShowsNext rows
  pub large_next_alone : ShowsNext large_alone
  pub before_the_last : ¬ ShowsBehind back_at_beginning

-- all numbers of the row are at most 9
abbrev pub HasSmallNumbers : Row → Type 0
HasSmallNumbers (One n) = n ≤ 9
HasSmallNumbers (More row n) = HasSmallNumbers row × (n ≤ 9)

-- all numbers that have been read are at most 9
abbrev pub HasReadSmall : ParserState → List Piece → Type 0
HasReadSmall Begins ps = ⊤
HasReadSmall (Behind row) ps = HasSmallNumbers row
HasReadSmall (Open row) ps = HasSmallNumbers row

-- a row within both limits
abbrev pub IsWithin : Row → Type 0
IsWithin row = HasSmallNumbers row × (count row ≤ 3)

-- the remaining pieces lead to a row within the limits
pub record LeadsWithin (f : ParserState) (ps : List Piece) : Type 0 where
  pub row : Row
  pub front : ParserState
  pub walked : walk step (Some f) ps ≡ Some front
  pub ended : finish front ≡ Some row
  pub within : IsWithin row

-- small numbers are an invariant of texts that show no fault, and imply a row with small numbers, but not one of at
-- most three; without an invariant nothing is implied. On the text of a row within both limits `LeadsWithin` is
-- preserved, and implies that no fault is shown; a condition that always holds doesn't imply it, and one that never
-- holds isn't satisfied at the beginning
pub record LimitsAreWorkedOut : Type 0 where
  pub small_numbers : KeepsLimits rows HasSmallNumbers HasReadSmall
  pub unkept_numbers : ¬ KeepsLimits rows HasSmallNumbers (λ f ps. ⊤)
  pub unkept_count : ¬ KeepsLimits rows (λ row. count row ≤ 3) HasReadSmall
  pub shows_nothing : ShowsNoLimit rows IsWithin LeadsWithin
  pub any_state : ¬ ShowsNoLimit rows IsWithin (λ f ps. ⊤)
  pub no_state : ¬ ShowsNoLimit rows IsWithin (λ f ps. ⊥)

-- All worked values of this file.
pub record WorkedReaders : Type 0 where
  pub laws : LawsAreWorkedOut
  pub order : OrderIsWorked
  pub places : PlacesAreWorkedOut
  pub limits : LimitsAreWorkedOut
