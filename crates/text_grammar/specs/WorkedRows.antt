-- Worked values, on both sides, of parts, numbers and texts in single bytes, for a small text of rows.
use Rattle.std.specs.Prelude.{◌≡◌, ℕ, ◌^◌, ◌-◌, ◌==◌, not, true, false, List, [], ◌∷◌, codes, ℤ, pos, negsuc, Some}
use Rattle.std.specs.Prelude.{None, map}
use Rattle.text_core.specs.Choices.{when}
use Rattle.text_core.specs.Reading.{Answer, Parsed, Refused}
use Rattle.text_grammar.specs.declared.numeral.NumberContext.TheVariants.{Words}
use Rattle.text_grammar.specs.Grammars.{Event, Read, Did}
use Rattle.text_grammar.specs.Parts.{Part, Says, Does, Puts, events_of, spelled, come, Stand, ComesTo}
use Rattle.text_grammar.specs.ByteTexts.{Numeral, Numbered, Spelling, Value, Natural, Line, class_of, only, fresh}
use Rattle.text_grammar.specs.ByteTexts.{signed, with_byte, fold_of, numbers_of, HasNumbers, IsBounded, AreShort}
use Rattle.text_grammar.specs.ByteTexts.{line_text, line_rule, values_rule}
use Rattle.text_grammar.specs.SmallRows.{Row, Rows, State, rules_with, rows_bytes, answer_to}

-- the number that is being spelled after bytes
abbrev pub spelling : Numeral → List ℕ → Numeral
spelling m [] = m
spelling m (b ∷ bytes) = spelling (with_byte b m) bytes

-- worked values of classes of bytes, and of numbers that are spelled
pub record NumeralsAreWorkedOut : Type 0 where
  -- the classes of `0`, `1`, other digits, `-`, a blank, a line feed, the first and the last letter, and another byte
  pub classes : map (class_of (codes "rowend")) (codes "0159- \nrdz") ≡ 0 ∷ 1 ∷ 2 ∷ 2 ∷ 3 ∷ 4 ∷ 5 ∷ 6 ∷ 11 ∷ 12 ∷ []
  -- each class but two contains only one byte
  pub bytes : map (only (codes "rowend")) (0 ∷ 1 ∷ 2 ∷ 3 ∷ 4 ∷ 5 ∷ 6 ∷ 12 ∷ [])
      ≡ Some 48 ∷ Some 49 ∷ None ∷ Some 45 ∷ Some 32 ∷ Some 10 ∷ Some 114 ∷ None ∷ []
  -- `-12` is a negative number of three bytes; at any other byte a new number begins; numbers are capped at 2^64
  pub negative : spelling fresh (codes "-12") ≡ record { negative = true; number = 12; spelled = 3 }
  pub value : signed (spelling fresh (codes "-12")) ≡ negsuc 11
  pub behind_letter : spelling fresh (codes "12x7") ≡ record { negative = false; number = 7; spelled = 1 }
  pub capped : spelling fresh (codes "99999999999999999999")
      ≡ record { negative = false; number = 2 ^ 64; spelled = 20 }
  -- a value may have 64 digits and a sign, but not 65 digits, also if another value comes before it
  pub short : AreShort (pos (10 ^ 64 - 1) ∷ negsuc (10 ^ 64 - 2) ∷ [])
  pub long : ¬ AreShort (pos 1 ∷ pos (10 ^ 64) ∷ [])
  pub long_below : ¬ AreShort (pos 1 ∷ negsuc (10 ^ 64 - 1) ∷ [])

-- the state between rows, after some rows, with this number and these values of the next one
abbrev pub between : Rows → ℕ → List ℤ → Spelling State
between rows n vs = record {
  own = record { rows = rows; number = n; values = vs };
  numeral = fresh;
  within = Words;
  values = [];
}

-- a row with this number
abbrev pub row : ℕ → List ℤ → Row
row n vs = record { number = n; values = vs }

-- the events of parts of rows, the state after them, and when they have no fault
abbrev pub events : List (Part ℕ Numbered) → List (Event ℕ)
events xs = events_of (fold_of rows_bytes) (numbers_of rows_bytes) xs

abbrev pub comes : Spelling State → List (Part ℕ Numbered) → Spelling State
comes s xs = come (fold_of rows_bytes) (numbers_of rows_bytes) s xs

abbrev pub PartsHaveNoFault : Spelling State → List (Part ℕ Numbered) → Type 0
PartsHaveNoFault s xs = Stand (fold_of rows_bytes) (numbers_of rows_bytes) s xs

abbrev pub Come : Spelling State → Spelling State → List ℕ → List (Part ℕ Numbered) → Type 0
Come s t bytes xs = ComesTo (fold_of rows_bytes) (numbers_of rows_bytes) s t bytes xs

-- worked values of parts of rows: their text, their events, the state after them, and their faults
pub record PartsAreWorked : Type 0 where
  pub text : spelled (fold_of rows_bytes) (numbers_of rows_bytes)
      (Says 114 ∷ Does 8 ∷ Puts (Line (pos 1 ∷ negsuc 1 ∷ [])) ∷ Puts (Natural 30) ∷ Puts (Value (negsuc 4)) ∷ [])
      ≡ codes "r 1 -2\n30-5"
  pub value : events (Says 114 ∷ Puts (Value (negsuc 1)) ∷ Does 8 ∷ [])
      ≡ Read 114 ∷ Did 0 ∷ Read 45 ∷ Read 50 ∷ Did 1 ∷ Did 8 ∷ []
  pub natural : events (Puts (Natural 30) ∷ []) ≡ Did 3 ∷ Read 51 ∷ Read 48 ∷ Did 2 ∷ []
  pub line : events (Puts (Line (pos 1 ∷ negsuc 1 ∷ [])) ∷ [])
      ≡ Did 4 ∷ Read 32 ∷ Did 0 ∷ Read 49 ∷ Did 1 ∷ Read 32 ∷ Did 0 ∷ Read 45 ∷ Read 50 ∷ Did 1 ∷ Read 10 ∷ Did 5 ∷ []
  -- a row consists of its number, its line and its mark; each value is appended to the values read
  pub row_comes : comes (between [] 0 []) (Puts (Natural 1) ∷ Puts (Line (pos 5 ∷ [])) ∷ Does 8 ∷ [])
      ≡ between (row 1 (pos 5 ∷ []) ∷ []) 1 (pos 5 ∷ [])
  pub value_comes : (comes (between [] 0 []) (Puts (Value (pos 5)) ∷ Puts (Value (negsuc 1)) ∷ [])).values
      ≡ pos 5 ∷ negsuc 1 ∷ []
  -- the values -(2^63-1) and 9 have no fault; the value 2^63 and the numbers 0 and 10 have one
  pub small : PartsHaveNoFault (between [] 0 []) (Puts (Value (negsuc (2 ^ 63 - 2))) ∷ [])
  pub large : ¬ PartsHaveNoFault (between [] 0 []) (Puts (Value (pos (2 ^ 63))) ∷ [])
  pub nine : PartsHaveNoFault (between [] 0 []) (Puts (Natural 9) ∷ [])
  pub ten : ¬ PartsHaveNoFault (between [] 0 []) (Puts (Natural 10) ∷ [])
  pub nought : ¬ PartsHaveNoFault (between [] 0 []) (Puts (Natural 0) ∷ [])
  -- a line has no fault if it has as many values as the row's number says, and a fault if it has more, or a value of
  -- 2^63
  pub counted : PartsHaveNoFault (between [] 2 []) (Puts (Line (pos 1 ∷ pos 1 ∷ [])) ∷ [])
  pub surplus : ¬ PartsHaveNoFault (between [] 1 []) (Puts (Line (pos 1 ∷ pos 1 ∷ [])) ∷ [])
  pub large_line : ¬ PartsHaveNoFault (between [] 2 []) (Puts (Line (pos 1 ∷ pos (2 ^ 63) ∷ [])) ∷ [])
  -- an `r` has no fault after two rows, and has one after three
  pub third : PartsHaveNoFault (between (row 1 [] ∷ row 1 [] ∷ []) 0 []) (Says 114 ∷ [])
  pub fourth : ¬ PartsHaveNoFault (between (row 1 [] ∷ row 1 [] ∷ row 1 [] ∷ []) 0 []) (Says 114 ∷ [])
  -- a line leads to the state with its values and is spelled as its text; it leads to no other state and has no other
  -- text; with a value of 2^63 it has a fault
  pub itself : Come (between [] 1 []) (between [] 1 (pos 1 ∷ [])) (codes " 1\n") (Puts (Line (pos 1 ∷ [])) ∷ [])
  pub other_text : ¬ Come (between [] 1 []) (between [] 1 (pos 1 ∷ [])) (codes " 2\n") (Puts (Line (pos 1 ∷ [])) ∷ [])
  pub other_end : ¬ Come (between [] 1 []) (between [] 1 (pos 1 ∷ [])) (codes " 2\n") (Puts (Line (pos 2 ∷ [])) ∷ [])
  pub none_comes : ¬ Come (between [] 1 []) (between [] 1 (pos (2 ^ 63) ∷ [])) (line_text (pos (2 ^ 63) ∷ []))
      (Puts (Line (pos (2 ^ 63) ∷ [])) ∷ [])

-- The refusal of this kind at this position.
abbrev pub refused : ℕ → ℕ → Answer Rows ℕ
refused kind at = Refused (record { kind = kind; at = at })

-- a text, and the right answer to it
pub record Case : Type 0 where
  pub text : List ℕ
  pub comes : Answer Rows ℕ

abbrev pub case_of : List ℕ → Answer Rows ℕ → Case
case_of text comes = record { text = text; comes = comes }

-- texts with the right answers
abbrev pub cases : List Case
cases =
    -- no row, two rows, and one with the greatest number of values
    case_of (codes "end\n") (Parsed [])
    ∷ case_of (codes "row 2 1 -2\nrow 1 0\nend\n") (Parsed (row 2 (pos 1 ∷ negsuc 1 ∷ []) ∷ row 1 (pos 0 ∷ []) ∷ []))
    ∷ case_of (codes "row 9 1 1 1 1 1 1 1 1 1\nend\n")
    (Parsed (row 9 (pos 1 ∷ pos 1 ∷ pos 1 ∷ pos 1 ∷ pos 1 ∷ pos 1 ∷ pos 1 ∷ pos 1 ∷ pos 1 ∷ []) ∷ []))
    -- a number that no row may have is refused at its first byte; `01` is refused for the number 0 at its beginning
    ∷ case_of (codes "row 0\nend\n") (refused 3 4)
    ∷ case_of (codes "row 10\nend\n") (refused 3 4)
    ∷ case_of (codes "row 01 1\nend\n") (refused 3 4)
    -- too few values and too many are refused at the line feed
    ∷ case_of (codes "row 2 1\nend\n") (refused 4 7)
    ∷ case_of (codes "row 1 1 2\nend\n") (refused 4 9)
    -- three rows are accepted, and a fourth one is refused at its `r`
    ∷ case_of (codes "row 1 1\nrow 1 1\nrow 1 1\nend\n")
    (Parsed (row 1 (pos 1 ∷ []) ∷ row 1 (pos 1 ∷ []) ∷ row 1 (pos 1 ∷ []) ∷ []))
    ∷ case_of (codes "row 1 1\nrow 1 1\nrow 1 1\nrow 1 1\nend\n") (refused 5 24)
    -- a value of 2^63-1 is accepted, and one of 2^63 is refused at its first byte, which is its sign if it has one
    ∷ case_of (codes "row 1 9223372036854775807\nend\n") (Parsed (row 1 (pos 9223372036854775807 ∷ []) ∷ []))
    ∷ case_of (codes "row 1 9223372036854775808\nend\n") (refused 2 6)
    ∷ case_of (codes "row 1 -9223372036854775808\nend\n") (refused 2 6)
    -- bytes that can't follow are refused: a leading zero, a sign before a row's number, and the end of a text without
    -- its last line
    ∷ case_of (codes "row 1 01\nend\n") (refused 1 7)
    ∷ case_of (codes "row -1\nend\n") (refused 1 4)
    ∷ case_of (codes "row 1 1\n") (refused 1 8)
    ∷ []

-- the conditions on a text in bytes, each with a text that violates it; and the answers to bytes
pub record ByteTextsAreWorkedOut : Type 0 where
  pub bounded : IsBounded rows_bytes
  -- numbers aren't bounded if each number is accepted, nor if 2 is accepted and 1 isn't
  pub endless : ¬ IsBounded (record rows_bytes { fault_of_natural = λ s n. None })
  pub gap : ¬ IsBounded (record rows_bytes { fault_of_natural = λ s n. when (not (n == 2)) 3 })
  -- the rules of numbers must be these, with both rules of lines of values at their place
  pub numbers : HasNumbers rows_bytes.rules
  pub no_numbers : ¬ HasNumbers []
  pub other_line : ¬ HasNumbers (rules_with values_rule values_rule)
  pub other_values : ¬ HasNumbers (rules_with line_rule line_rule)
  pub answers : map (λ c. answer_to c.text) cases ≡ map (λ c. c.comes) cases
