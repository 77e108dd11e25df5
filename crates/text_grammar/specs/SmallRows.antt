-- A small complete text in single bytes that uses each construct of such texts: rows, each of which has the word `row`,
-- a number and as many values, and a last line `end`.
use Rattle.std.specs.Prelude.{◌≡◌, ◌≤◌, ℕ, zero, suc, Bool, not, ◌||◌, ◌==◌, nat_lt, nat_le, if◌then◌else◌, List, []}
use Rattle.std.specs.Prelude.{◌∷◌, ◌++◌, codes, length, ℤ, Some, None, ⊤}
use Rattle.std.specs.Fmt.{decimal}
use Rattle.text_core.specs.Choices.{when}
use Rattle.text_core.specs.Reading.{Answer, Parsed, answer}
use Rattle.text_grammar.specs.declared.symbol.Symbol.{Symbol}
use Rattle.text_grammar.specs.declared.symbol.Symbol.TheVariants.{Piece, Made, Mark}
use Rattle.text_grammar.specs.Parts.{Part, Says, Does, Puts}
use Rattle.text_grammar.specs.Texts.{reader}
use Rattle.text_grammar.specs.ByteTexts.{ByteText, Numbered, Natural, Line, says, tokens, texts_of, value_rule}
use Rattle.text_grammar.specs.ByteTexts.{natural_rule, number_rule, positive_rule, digits_rule, line_rule, values_rule}
use Rattle.text_grammar.specs.ByteTexts.{signed_rule}
use Rattle.text_grammar.specs.ByteTexts.{line_text, AreSmall}

-- a row: its number and its values
pub record Row : Type 0 where
  pub number : ℕ
  pub values : List ℤ

abbrev pub Rows : Type 0
Rows = List Row

-- text = rows; then the rules of numbers, and these of lines of values; rows = "row " natural line, mark 8, rows |
-- "end" and a line feed. Signed numbers don't occur
abbrev pub rules_with : List (List Symbol) → List (List Symbol) → List (List (List Symbol))
rules_with line values =
    ((Made 9 ∷ []) ∷ []) ∷ value_rule ∷ natural_rule ∷ number_rule ∷ positive_rule ∷ digits_rule ∷ line ∷ values
    ∷ signed_rule ∷ ((Piece 6 ∷ Piece 7 ∷ Piece 8 ∷ Piece 4 ∷ Made 2 ∷ Made 6 ∷ Mark 8 ∷ Made 9 ∷ [])
    ∷ (Piece 9 ∷ Piece 10 ∷ Piece 11 ∷ Piece 5 ∷ []) ∷ []) ∷ []

-- the rows so far, and the number and the values read of the next one
pub record State : Type 0 where
  pub rows : Rows
  pub number : ℕ
  pub values : List ℤ

-- the row that has been read is appended to the rows
abbrev pub with_row : State → State
with_row s = record s { rows = s.rows ++ record { number = s.number; values = s.values } ∷ [] }

-- a row may not have this number
abbrev pub is_no_number : ℕ → Bool
is_no_number n = (n == 0) || nat_lt 9 n

-- the kinds of refusals: 1 for a byte that can't follow, 2 for a value that is too large, 3 for a number that no row
-- may have, 4 for a line with another number of values than its row's, and 5 for the `r` of a fourth row
abbrev pub rows_bytes : ByteText State Rows ℕ
rows_bytes = record {
  letters = codes "rowend";
  rules = rules_with line_rule values_rule;
  rounds = 9;
  begun = record { rows = []; number = 0; values = [] };
  natural = λ n s. record s { number = n };
  signed = λ z s. s;
  line = λ vs s. record s { values = vs };
  done = λ m s. if m == 8 then with_row s else s;
  fault_of_natural = λ s n. when (is_no_number n) 3;
  fault_of_signed = λ s z. Some 1;
  fault_of_line = λ s n. when (not (n == s.number)) 4;
  fault_of_byte = λ s b. if b == 114 then when (nat_le 3 (length s.rows)) 5 else None;
  tree = λ s. s.rows;
  number = λ kind. kind;
  syntax = 1;
  too_large = 2;
}

-- the answer to bytes
abbrev pub answer_to : List ℕ → Answer Rows ℕ
answer_to bytes = answer (reader (texts_of rows_bytes)) (length bytes) (tokens bytes)

-- the text of rows
abbrev pub rows_text : Rows → List ℕ
rows_text [] = codes "end" ++ 10 ∷ []
rows_text (r ∷ rs) = codes "row " ++ (decimal r.number ++ (line_text r.values ++ rows_text rs))

-- a row has a number from 1 to 9, and this many values, each of at most 2^63-1 in absolute value
pub record IsNumbered (r : Row) : Type 0 where
  pub some : 1 ≤ r.number
  pub few : r.number ≤ 9
  pub counted : length r.values ≡ r.number
  pub small : AreSmall r.values

-- each row has a permitted number, and as many values
abbrev pub AreNumbered : Rows → Type 0
AreNumbered [] = ⊤
AreNumbered (r ∷ rs) = IsNumbered r × AreNumbered rs

-- each row has a permitted number and as many values, and there are at most three rows
pub record AreFew (rows : Rows) : Type 0 where
  pub each : AreNumbered rows
  pub few : length rows ≤ 3

-- at most three such rows are read back from their printed text, and each text that is read is the printed text of such
-- rows
pub record RowsAreRead : Type 0 where
  pub printed : (rows : Rows) → AreFew rows → answer_to (rows_text rows) ≡ Parsed rows
  pub read : (bytes : List ℕ) (rows : Rows) → answer_to bytes ≡ Parsed rows → (rows_text rows ≡ bytes) × AreFew rows

-- the values of the text's own nonterminal, which are rows, and the parts that print them
abbrev pub RowsValue : ℕ → Type 0
RowsValue zero = Rows
RowsValue (suc zero) = Rows
RowsValue (suc (suc n)) = ⊥

abbrev pub rows_parts : Rows → List (Part ℕ Numbered)
rows_parts [] = says (codes "end") (Says 10 ∷ [])
rows_parts (r ∷ rs) = says (codes "row ") (Puts (Natural r.number) ∷ Puts (Line r.values) ∷ Does 8 ∷ rows_parts rs)

abbrev pub own_parts : (n : ℕ) → RowsValue n → List (Part ℕ Numbered)
own_parts zero rows = rows_parts rows
own_parts (suc zero) rows = rows_parts rows
own_parts (suc (suc n)) b = absurd b
