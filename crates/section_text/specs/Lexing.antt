-- The tokens of a section: names, rows of digits, and all other bytes one by one.
use Rattle.std.specs.Prelude.{ℕ, ◌+◌, ◌-◌, ◌==◌, if◌then◌else◌, List, ◌∷◌, length, codes, Option, Some}
use Rattle.std.specs.Char.{is_ascii_digit}
use Rattle.text_grammar.specs.text_core.Prefixes.{prefix}
use Rattle.text_grammar.specs.text_core.Names.{begins_name, continues_name, is_same}
use Rattle.text_grammar.specs.text_core.Bytes.{has_leading_zero, value_up_to}
use Rattle.text_grammar.specs.text_core.Tokens.{Token, Lexeme}
use Rattle.text_grammar.specs.Marks.{tokens_of}
use Rattle.its_model.specs.linear_forms.Limits.{certificate_limit}
use Rattle.section_text.specs.declared.piece.Word.{Word}
use Rattle.section_text.specs.declared.piece.Word.TheVariants as words
use Rattle.section_text.specs.declared.piece.Sign.TheVariants as signs
use Rattle.section_text.specs.declared.piece.Sort.{Sort}
use Rattle.section_text.specs.declared.piece.Sort.TheVariants.{Name, Number, Sign, Wrong}
use Rattle.section_text.specs.declared.piece.Piece.{Piece}
use Rattle.section_text.specs.declared.lexer.Sorted.{Sorted}

-- the word of cases that a name is, if it is one
abbrev pub case_word : List ℕ → Word
case_word name =
    if is_same name (codes "to") then words.To
    else if is_same name (codes "by") then words.By
    else if is_same name (codes "never") then words.Never
    else if is_same name (codes "if") then words.If
    else if is_same name (codes "then") then words.Then
    else if is_same name (codes "else") then words.Else
    else words.Other

-- the word that a name is, if it is one
abbrev pub word_of : List ℕ → Word
word_of name =
    if is_same name (codes "copy") then words.Copy
    else if is_same name (codes "of") then words.Of
    else if is_same name (codes "facts") then words.Facts
    else if is_same name (codes "from") then words.From
    else if is_same name (codes "rule") then words.Rule
    else case_word name

-- the sort of a byte that begins neither a name nor a number
abbrev pub sign_at : ℕ → Sort
sign_at b =
    if b == 32 then Sign signs.Blank
    else if b == 10 then Sign signs.LineFeed
    else if b == 91 then Sign signs.OpenSquare
    else if b == 93 then Sign signs.CloseSquare
    else if b == 40 then Sign signs.Open
    else if b == 41 then Sign signs.Close
    else if b == 59 then Sign signs.Semicolon
    else if b == 45 then Sign signs.Minus
    else Wrong

-- the sort of digits: a number, capped at 2^56+1; digits with a leading zero are wrong
abbrev pub sort_of_digits : List ℕ → Sort
sort_of_digits digits =
    if has_leading_zero digits then Wrong else Number (value_up_to (certificate_limit + 1) digits)

-- a lexeme of this sort with this many bytes
abbrev pub lexeme : Sort → ℕ → Lexeme Sort
lexeme sort len = record { piece = sort; len = len }

-- the lexeme of the longest name, and that of the longest row of digits
abbrev pub name_at : ℕ → List ℕ → Lexeme Sort
name_at b bytes =
    lexeme (Name (word_of (b ∷ prefix continues_name bytes))) (length (b ∷ prefix continues_name bytes))

abbrev pub digits_at : ℕ → List ℕ → Lexeme Sort
digits_at b bytes =
    lexeme (sort_of_digits (b ∷ prefix is_ascii_digit bytes)) (length (b ∷ prefix is_ascii_digit bytes))

-- the lexeme that bytes begin with
abbrev pub sorted_at : ℕ → List ℕ → Lexeme Sort
sorted_at b bytes =
    if begins_name b then name_at b bytes
    else if is_ascii_digit b then digits_at b bytes
    else lexeme (sign_at b) 1

-- the sort of a piece with the number of its bytes, as plain data
abbrev pub sorted_of : Sorted → Lexeme Sort
sorted_of s = record { piece = s.sort; len = s.len }

-- the piece that bytes begin with, which are the last bytes of a text of n bytes
abbrev pub pieced : ℕ → List ℕ → Lexeme Sort → Lexeme (Option Piece)
pieced n bytes l = record {
  piece = Some (record { sort = l.piece; at = n - length bytes; len = l.len });
  len = l.len;
}

abbrev pub lexeme_at : ℕ → ℕ → List ℕ → Lexeme (Option Piece)
lexeme_at n b bytes = pieced n (b ∷ bytes) (sorted_at b bytes)

-- the tokens of a text
abbrev pub tokens : List ℕ → List (Token Piece)
tokens bytes = tokens_of (lexeme_at (length bytes)) bytes
