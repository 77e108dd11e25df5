-- A literal of a text consists of digits.
use Rattle.std.specs.Prelude.{◌≡◌, ℕ, zero, suc, ◌+◌, ◌-◌, Bool, true, false, IsTrue, if◌then◌else◌, List, [], ◌∷◌}
use Rattle.std.specs.Prelude.{Option, Some, None, refl}
use Rattle.std.specs.List.{list_all}
use Rattle.std.specs.Char.{is_ascii_digit}
use Rattle.text_core.specs.Prefixes.{prefix}
use Rattle.text_core.specs.Tokens.{token_then, tokens_in}
use Rattle.its_text.specs.expr_text.Pieces as inner
use Rattle.its_text.specs.Pieces.{Piece, In}
use Rattle.its_text.proofs.LexemeCases.{IsMark, HoldsOfPieces, of_lexeme}
use Rattle.its_text.specs.Lexing.{Mode, Outside, lexeme_in, lexer, tokens_of}
use Rattle.its_text.specs.StateFaults.{Tokens}
use Rattle.its_reader.specs.FaultTests.{IsDigital}
use Rattle.its_reader.specs.Reading.{AreDigital}

-- a prefix of digits consists of digits
prefix_digital : (bytes : List ℕ) → IsTrue (list_all is_ascii_digit (prefix is_ascii_digit bytes))
prefix_digital [] = refl
prefix_digital (b ∷ bytes) = go (is_ascii_digit b) refl (prefix_digital bytes)
  where
    go : (v : Bool) → is_ascii_digit b ≡ v → IsTrue (list_all is_ascii_digit (prefix is_ascii_digit bytes))
        → IsTrue (list_all is_ascii_digit (if v then b ∷ prefix is_ascii_digit bytes else []))
    go false e h = refl
    go true e h = rw e h

digits_digital : (b : ℕ) (bytes : List ℕ) → is_ascii_digit b ≡ true
    → IsTrue (list_all is_ascii_digit (b ∷ prefix is_ascii_digit bytes))
digits_digital b bytes e = rw e (prefix_digital bytes)

-- a mark is no literal
mark_digital : (o : Option Piece) → IsMark o → IsDigital o
mark_digital None h = tt
mark_digital (Some (In (inner.Digits ds))) h = absurd h
mark_digital (Some (In _)) h = tt
mark_digital (Some _) h = tt

-- each literal that the lexer finds consists of digits
each_digital : HoldsOfPieces IsDigital
each_digital = record {
  marks = mark_digital;
  words = λ b bytes e. tt;
  literals = digits_digital;
}

-- if the first token and each token after it hold digits, so does the whole list
token_digital : (at len : ℕ) (o : Option Piece) (ts : Tokens) → IsDigital o → AreDigital ts
    → AreDigital (token_then at len o ts)
token_digital at len None ts h k = k
token_digital at len (Some p) ts h k = (h, k)

digital_in : (bytes : List ℕ) (mode : Mode) (at skip : ℕ) → AreDigital (tokens_in lexer mode at skip bytes)
digital_in [] mode at skip = tt
digital_in (b ∷ bytes) mode at (suc skip) = digital_in bytes mode (at + 1) skip
digital_in (b ∷ bytes) mode at zero =
    token_digital at (lexeme_in mode b bytes).len (lexeme_in mode b bytes).piece _
    (of_lexeme IsDigital each_digital mode b bytes)
    (digital_in bytes (lexer.mode_behind mode (lexeme_in mode b bytes).piece) (at + 1)
    ((lexeme_in mode b bytes).len - 1))

-- each literal among a text's tokens consists of digits
pub tokens_digital : (bytes : List ℕ) → AreDigital (tokens_of bytes)
tokens_digital bytes = digital_in bytes Outside 0 0
