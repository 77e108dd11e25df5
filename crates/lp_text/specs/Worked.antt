-- Worked values of the results of reading small texts of linear programs, on both sides.
use Rattle.std.specs.Prelude.{◌≡◌, ◌≢◌, ◌≤◌, ◌-◌, ◌^◌, ℕ, pos, negsuc, Some, None, List, [], ◌∷◌, ◌++◌, codes, length, map}
use Rattle.text_grammar.specs.text_core.Reading.{Answer, Parsed, Refused, answer}
use Rattle.text_grammar.specs.Texts.{reader}
use Rattle.text_grammar.specs.ByteTexts.{tokens}
use Rattle.lp_builder.specs.simplex_core.Problem.{entry_value}
use Rattle.lp_builder.specs.Entries.{entries_of}
use Rattle.lp_text.specs.declared.kind.LpKind.{LpKind}
use Rattle.lp_text.specs.declared.kind.LpKind.TheVariants.{Syntax, NumberTooLarge, Limit}
use Rattle.lp_text.specs.declared.section.Section.TheVariants.{Rows}
use Rattle.lp_text.specs.Lps.{Row, Lp}
use Rattle.lp_text.specs.Texts.{State, number_of, lp_bytes, lps, fault_of_columns, fault_of_row}
use Rattle.lp_text.specs.Spelled.{text_of, AreCosts, AreNumbers, IsRowOf, IsWithin}
use Rattle.lp_text.specs.Problems.{lines_of, program_in}

-- the answer to a text
abbrev pub answer_to : List ℕ → Answer Lp LpKind
answer_to bytes = answer (reader lps) (length bytes) (tokens bytes)

-- The refusal of this kind at this position.
abbrev pub refused : LpKind → ℕ → Answer Lp LpKind
refused kind at = Refused (record { kind = kind; at = at })

-- a text, and the right answer to it
pub record LpCase : Type 0 where
  pub text : List ℕ
  pub expected : Answer Lp LpKind

abbrev pub lp_case : List ℕ → Answer Lp LpKind → LpCase
lp_case text expected = record { text = text; expected = expected }

-- texts that follow `koat-lp 1` and `cols ` (15 bytes), with the right answers
abbrev pub columns_cases : List LpCase
columns_cases =
    -- the number of columns is refused if it is 0, negative or too many; beyond 2^31-1 it is refused as a number that
    -- is too large
    lp_case (codes "0\n") (refused Limit 15)
    ∷ lp_case (codes "-1\n") (refused Limit 15)
    ∷ lp_case (codes "65\n") (refused Limit 15)
    ∷ lp_case (codes "2147483647\n") (refused Limit 15)
    ∷ lp_case (codes "2147483648\n") (refused NumberTooLarge 15)
    ∷ lp_case (codes "-2147483648\n") (refused NumberTooLarge 15)
    -- a text without a number is refused, as is a number with a zero before it, and a `-` before 0; a fault at the `0`
    -- is reported before one after it
    ∷ lp_case (codes "x\n") (refused Syntax 15)
    ∷ lp_case (codes "01\n") (refused Limit 15)
    ∷ lp_case (codes "-0\n") (refused Syntax 16)
    ∷ lp_case (codes "1 \n") (refused Syntax 16)
    ∷ []

-- texts that follow `koat-lp 1`, `cols 1` and `first` (22 bytes), with the right answers
abbrev pub costs_cases : List LpCase
costs_cases =
    -- no cost is refused at the line feed, and one too many at the blank: they can't follow
    lp_case (codes "\n") (refused Syntax 22)
    ∷ lp_case (codes " 1 2\n") (refused Syntax 24)
    -- a cost that is too large is refused; so is one with a sign, a missing one, and one with a zero before it
    ∷ lp_case (codes " 2147483648\n") (refused NumberTooLarge 23)
    ∷ lp_case (codes " -1\n") (refused Syntax 23)
    ∷ lp_case (codes " \n") (refused Syntax 23)
    ∷ lp_case (codes " 01\n") (refused Syntax 24)
    -- the second costs are read in the same way (31 bytes come before them)
    ∷ lp_case (codes " 1\nsecond\n") (refused Syntax 31)
    ∷ lp_case (codes " 1\nsecond 1 2\n") (refused Syntax 33)
    ∷ lp_case (codes " 1\nsecond 2147483648\n") (refused NumberTooLarge 32)
    ∷ []

-- a linear program with one column, whose costs are 2 and 3, and with these rows
abbrev pub with_rows : List Row → Answer Lp LpKind
with_rows rows = Parsed (record { columns = pos 1; first = 2 ∷ []; second = 3 ∷ []; rows = rows })

-- texts that follow `koat-lp 1`, `cols 1`, `first 2` and `second 3` (34 bytes), with the right answers
abbrev pub rows_cases : List LpCase
rows_cases =
    -- no row, and two rows; numbers with either sign, and the greatest and the least
    lp_case (codes "end\n") (with_rows [])
    ∷ lp_case (codes "row 0 = 7\nrow -5 = -6\nend\n")
    (with_rows (record { numbers = pos 0 ∷ []; right = pos 7 } ∷ record { numbers = negsuc 4 ∷ []; right = negsuc 5 } ∷ []))
    ∷ lp_case (codes "row -2147483647 = 2147483647\nend\n")
    (with_rows (record { numbers = negsuc 2147483646 ∷ []; right = pos 2147483647 } ∷ []))
    -- too few numbers are refused at the `=`, and one too many at its first byte, whatever follows its `-`
    ∷ lp_case (codes "row = 7\nend\n") (refused Syntax 38)
    ∷ lp_case (codes "row 1 2 = 7\nend\n") (refused Syntax 40)
    ∷ lp_case (codes "row 1 -x") (refused Syntax 40)
    ∷ lp_case (codes "row 1 9999999999 = 7\n") (refused Syntax 40)
    -- numbers that are too large are refused at their first byte
    ∷ lp_case (codes "row 2147483648 = 7\n") (refused NumberTooLarge 38)
    ∷ lp_case (codes "row -2147483648 = 7\n") (refused NumberTooLarge 38)
    ∷ lp_case (codes "row 1 = 2147483648\n") (refused NumberTooLarge 42)
    ∷ lp_case (codes "row 1 = -2147483648\n") (refused NumberTooLarge 42)
    -- blanks that are missing, too many, or at the end of a line are refused; so are a missing right side, and two of
    -- them
    ∷ lp_case (codes "row1 = 7\n") (refused Syntax 37)
    ∷ lp_case (codes "row  1 = 7\n") (refused Syntax 38)
    ∷ lp_case (codes "row 1= 7\n") (refused Syntax 39)
    ∷ lp_case (codes "row 1 =7\n") (refused Syntax 41)
    ∷ lp_case (codes "row 1 = 7 \n") (refused Syntax 43)
    ∷ lp_case (codes "row 1 = \n") (refused Syntax 42)
    ∷ lp_case (codes "row 1 = 7 8\n") (refused Syntax 43)
    ∷ lp_case (codes "row 1\n") (refused Syntax 39)
    -- a zero before a number, and a `-` before 0, are refused
    ∷ lp_case (codes "row 01 = 7\n") (refused Syntax 39)
    ∷ lp_case (codes "row -0 = 7\n") (refused Syntax 39)
    -- a text that ends too early, a line feed after another byte, and one line too many are refused
    ∷ lp_case (codes "end") (refused Syntax 37)
    ∷ lp_case (codes "end\r\n") (refused Syntax 37)
    ∷ lp_case (codes "end\n\n") (refused Syntax 38)
    ∷ []

-- the answers to texts that follow a beginning are the right ones
abbrev pub AreAnswered : List ℕ → List LpCase → Type 0
AreAnswered beginning cases = map (λ c. answer_to (beginning ++ c.text)) cases ≡ map (λ c. c.expected) cases

-- a linear program with two columns and two rows
abbrev pub small : Lp
small = record {
  columns = pos 2;
  first = 1 ∷ 2 ∷ [];
  second = 0 ∷ 3 ∷ [];
  rows = record { numbers = pos 0 ∷ negsuc 4 ∷ []; right = negsuc 2 } ∷ record { numbers = pos 7 ∷ pos 1 ∷ []; right = pos 6 }
      ∷ [];
}

-- small texts have the right answers, and a linear program has its text, its entries and its meaning
pub record TextsAreWorkedOut : Type 0 where
  pub columns : AreAnswered (codes "koat-lp 1\ncols ") columns_cases
  pub costs : AreAnswered (codes "koat-lp 1\ncols 1\nfirst") costs_cases
  pub rows : AreAnswered (codes "koat-lp 1\ncols 1\nfirst 2\nsecond 3\n") rows_cases
  -- the empty text ends too early at 0, and a text of another format is refused at its first different byte
  pub empty : answer_to [] ≡ refused Syntax 0
  pub other : answer_to (codes "koat-run 1\n") ≡ refused Syntax 5
  pub read : answer_to (text_of small) ≡ Parsed small
  pub text : text_of small ≡ codes "koat-lp 1\ncols 2\nfirst 1 2\nsecond 0 3\nrow 0 -5 = -3\nrow 7 1 = 6\nend\n"
  -- the kinds are numbered in this order
  pub kinds : map number_of (Syntax ∷ NumberTooLarge ∷ Limit ∷ []) ≡ 1 ∷ 2 ∷ 3 ∷ []
  -- 1 and 64 columns are permitted, 0 and 65 aren't
  pub least : fault_of_columns (pos 1) ≡ None
  pub greatest : fault_of_columns (pos 64) ≡ None
  pub none : fault_of_columns (pos 0) ≡ Some Limit
  pub past : fault_of_columns (pos 65) ≡ Some Limit
  -- after 64 rows no line may begin with `r`, and after 63 one may
  pub full : (columns count : ℕ) → fault_of_row columns 64 count 114 ≡ Some Limit
  pub room : (columns count : ℕ) → fault_of_row columns 63 count 114 ≡ None
  -- no number over 2^31-1 is within the limits
  pub cost : AreCosts ((2 ^ 31 - 1) ∷ [])
  pub large_cost : ¬ AreCosts (0 ∷ (2 ^ 31) ∷ [])
  pub number : AreNumbers (negsuc (2 ^ 31 - 2) ∷ [])
  pub large_number : ¬ AreNumbers (pos 0 ∷ negsuc (2 ^ 31 - 1) ∷ [])
  pub large_right : ¬ IsRowOf 0 (record { numbers = []; right = pos (2 ^ 31) })
  -- `small` is within the limits; with another number of columns, or without columns, it isn't
  pub within : IsWithin small
  pub wider : ¬ IsWithin (record small { columns = pos 3 })
  pub empty_within : ¬ IsWithin (record { columns = pos 0; first = []; second = []; rows = [] })
  -- the nonzero entries, row by row, each with its row, its column and its number
  pub entries : entries_of 0 (lines_of small) ≡ record { row = 0; col = 1; value = negsuc 4 }
      ∷ record { row = 1; col = 0; value = pos 7 } ∷ record { row = 1; col = 1; value = pos 1 } ∷ []
  -- the numbers of the linear program
  pub entry : (program_in small).entry 0 1 ≡ negsuc 4
  pub other_entry : (program_in small).entry 1 0 ≡ pos 7
  pub right : (program_in small).right 0 ≡ negsuc 2
  pub first : (program_in small).first 1 ≡ pos 2
  pub second : (program_in small).second 1 ≡ pos 3
