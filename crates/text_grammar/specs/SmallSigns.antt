-- A small text in single bytes with signed numbers, and with refusals of `-` and of blanks: any number of lines, each
-- of the letter `n` and a number or of the letter `v` and a line of values, and then a line feed.
use Rattle.std.specs.Prelude.{◌≡◌, ◌≤◌, ℕ, Bool, ◌||◌, ◌==◌, nat_lt, nat_le, if◌then◌else◌, List, [], ◌∷◌, ◌++◌}
use Rattle.std.specs.Prelude.{codes, length, ℤ, pos, negsuc, Some, None}
use Rattle.text_core.specs.Choices.{when}
use Rattle.text_core.specs.Reading.{Answer, answer}
use Rattle.text_grammar.specs.declared.symbol.Symbol.{Symbol}
use Rattle.text_grammar.specs.declared.symbol.Symbol.TheVariants.{Piece, Made}
use Rattle.text_grammar.specs.Texts.{reader}
use Rattle.text_grammar.specs.ByteTexts.{ByteText, tokens, texts_of, value_rule, natural_rule, number_rule}
use Rattle.text_grammar.specs.ByteTexts.{positive_rule, digits_rule, line_rule, values_rule, signed_rule}

-- text = lines; then the rules of numbers, and this one of signed numbers; lines = "n" signed lines | "v" line lines |
-- a line feed
abbrev pub rules_with_signed : List (List Symbol) → List (List (List Symbol))
rules_with_signed signed =
    ((Made 9 ∷ []) ∷ []) ∷ value_rule ∷ natural_rule ∷ number_rule ∷ positive_rule ∷ digits_rule ∷ line_rule
    ∷ values_rule ∷ signed
    ∷ ((Piece 6 ∷ Made 8 ∷ Made 9 ∷ []) ∷ (Piece 7 ∷ Made 6 ∷ Made 9 ∷ []) ∷ (Piece 5 ∷ []) ∷ []) ∷ []

-- a signed number isn't permitted: permitted are those from -20 to 9 except 0
abbrev pub is_outside : ℤ → Bool
is_outside (pos n) = (n == 0) || nat_lt 9 n
is_outside (negsuc n) = nat_lt 19 n

-- the state consists of the numbers and values so far. The kinds of refusals: 1 for a byte that can't follow, 2 for a
-- value that is too large, 3 for a signed number that isn't permitted, 4 for a `-` after two numbers, and 5 for a blank
-- after three
abbrev pub signs_bytes : ByteText (List ℤ) (List ℤ) ℕ
signs_bytes = record {
  letters = codes "nv";
  rules = rules_with_signed signed_rule;
  rounds = 9;
  begun = [];
  natural = λ n s. s;
  signed = λ z s. s ++ z ∷ [];
  line = λ vs s. s ++ vs;
  done = λ m s. s;
  fault_of_natural = λ s n. Some 1;
  fault_of_signed = λ s z. when (is_outside z) 3;
  fault_of_line = λ s n. None;
  fault_of_byte = λ s b. if b == 45 then when (nat_le 2 (length s)) 4
      else if b == 32 then when (nat_le 3 (length s)) 5 else None;
  tree = λ s. s;
  number = λ kind. kind;
  syntax = 1;
  too_large = 2;
}

-- the answer to bytes
abbrev pub signs_answer : List ℕ → Answer (List ℤ) ℕ
signs_answer bytes = answer (reader (texts_of signs_bytes)) (length bytes) (tokens bytes)
