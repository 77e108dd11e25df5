-- The tokens of lines: names, rows of digits, and all other bytes one by one.
use Rattle.std.specs.Prelude.{ℕ, ◌+◌, ◌-◌, ◌==◌, if◌then◌else◌, List, ◌∷◌, length, codes, Option, Some}
use Rattle.std.specs.Char.{is_ascii_digit}
use Rattle.text_grammar.specs.text_core.Prefixes.{prefix}
use Rattle.text_grammar.specs.text_core.Names.{begins_name, continues_name, is_same}
use Rattle.text_grammar.specs.text_core.Bytes.{has_leading_zero, value_up_to}
use Rattle.text_grammar.specs.text_core.Tokens.{Token, Lexeme}
use Rattle.text_grammar.specs.Marks.{tokens_of}
use Rattle.signed_bounds.specs.Limits.{constant_limit}
use Rattle.potential_text.specs.declared.piece.Word.{Word}
use Rattle.potential_text.specs.declared.piece.Word.TheVariants as words
use Rattle.potential_text.specs.declared.piece.Sign.TheVariants as signs
use Rattle.potential_text.specs.declared.piece.Sort.{Sort}
use Rattle.potential_text.specs.declared.piece.Sort.TheVariants.{Name, Number, Sign, Wrong}
use Rattle.potential_text.specs.declared.piece.Piece.{Piece}
use Rattle.potential_text.specs.declared.lexer.Sorted.{Sorted}

-- the word of claims that a name is, if it is one
abbrev pub claim_word : List ℕ → Word
claim_word name =
    if is_same name (codes "claim") then words.Claim
    else if is_same name (codes "time") then words.Time
    else if is_same name (codes "cost") then words.Cost
    else if is_same name (codes "total") then words.Total
    else if is_same name (codes "above") then words.Above
    else if is_same name (codes "below") then words.Below
    else words.Other

-- the word of bounds that a name is, or one of those below
abbrev pub bound_word : List ℕ → Word
bound_word name =
    if is_same name (codes "part") then words.Part
    else if is_same name (codes "sum") then words.Sum
    else if is_same name (codes "product") then words.Product
    else if is_same name (codes "maximum") then words.Maximum
    else if is_same name (codes "minimum") then words.Minimum
    else if is_same name (codes "quotient") then words.Quotient
    else if is_same name (codes "root") then words.Root
    else if is_same name (codes "power") then words.Power
    else claim_word name

-- the word of the parts of lemmas that a name is, or one of those below
abbrev pub part_word : List ℕ → Word
part_word name =
    if is_same name (codes "functions") then words.Functions
    else if is_same name (codes "den") then words.Den
    else if is_same name (codes "moves") then words.Moves
    else if is_same name (codes "pays") then words.Pays
    else if is_same name (codes "counts") then words.Counts
    else if is_same name (codes "keep") then words.Keep
    else if is_same name (codes "reset") then words.Reset
    else if is_same name (codes "by") then words.By
    else if is_same name (codes "most") then words.Most
    else if is_same name (codes "to") then words.To
    else bound_word name

-- the word that a name is, if it is one: those that begin lines, lemmas and summands first
abbrev pub word_of : List ℕ → Word
word_of name =
    if is_same name (codes "signed") then words.Signed
    else if is_same name (codes "fall") then words.Fall
    else if is_same name (codes "peak") then words.Peak
    else if is_same name (codes "row") then words.Row
    else if is_same name (codes "rows") then words.Rows
    else if is_same name (codes "zero") then words.Zero
    else if is_same name (codes "times") then words.Times
    else if is_same name (codes "least") then words.Least
    else if is_same name (codes "add") then words.Add
    else if is_same name (codes "among") then words.Among
    else if is_same name (codes "sized") then words.Sized
    else if is_same name (codes "phases") then words.Phases
    else part_word name

-- the sort of a byte that begins neither a name nor a number
abbrev pub sign_at : ℕ → Sort
sign_at b =
    if b == 32 then Sign signs.Blank
    else if b == 10 then Sign signs.LineFeed
    else if b == 91 then Sign signs.OpenSquare
    else if b == 93 then Sign signs.CloseSquare
    else if b == 123 then Sign signs.OpenCurly
    else if b == 125 then Sign signs.CloseCurly
    else if b == 40 then Sign signs.Open
    else if b == 41 then Sign signs.Close
    else if b == 59 then Sign signs.Semicolon
    else if b == 45 then Sign signs.Minus
    else if b == 42 then Sign signs.Star
    else if b == 46 then Sign signs.Dot
    else Wrong

-- a number, which counts up to 2^127; digits with a leading zero are none
abbrev pub sort_of_digits : List ℕ → Sort
sort_of_digits digits = if has_leading_zero digits then Wrong else Number (value_up_to (constant_limit + 1) digits)

-- a sort of piece, of this many bytes
abbrev pub lexeme : Sort → ℕ → Lexeme Sort
lexeme sort len = record { piece = sort; len = len }

-- the longest name, and the longest row of digits
abbrev pub name_at : ℕ → List ℕ → Lexeme Sort
name_at b bytes =
    lexeme (Name (word_of (b ∷ prefix continues_name bytes))) (length (b ∷ prefix continues_name bytes))

abbrev pub digits_at : ℕ → List ℕ → Lexeme Sort
digits_at b bytes =
    lexeme (sort_of_digits (b ∷ prefix is_ascii_digit bytes)) (length (b ∷ prefix is_ascii_digit bytes))

-- what bytes begin with
abbrev pub sorted_at : ℕ → List ℕ → Lexeme Sort
sorted_at b bytes =
    if begins_name b then name_at b bytes
    else if is_ascii_digit b then digits_at b bytes
    else lexeme (sign_at b) 1

-- the sort of a piece with the number of its bytes, as plain data
abbrev pub sorted_of : Sorted → Lexeme Sort
sorted_of s = record { piece = s.sort; len = s.len }

-- the piece that bytes begin with, with which a text of n bytes ends
abbrev pub pieced : ℕ → List ℕ → Lexeme Sort → Lexeme (Option Piece)
pieced n bytes l = record {
  piece = Some (record { sort = l.piece; at = n - length bytes; len = l.len });
  len = l.len;
}

abbrev pub lexeme_at : ℕ → ℕ → List ℕ → Lexeme (Option Piece)
lexeme_at n b bytes = pieced n (b ∷ bytes) (sorted_at b bytes)

-- the tokens of a text
abbrev pub tokens : List ℕ → List (Token Piece)
tokens bytes = tokens_of (lexeme_at (length bytes)) bytes
