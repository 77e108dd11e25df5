-- The pieces of a bound's text.
use Rattle.std.specs.Prelude.{ℕ, ◌+◌, List, ◌∷◌, length, codes, if◌then◌else◌, ◌==◌}
use Rattle.std.specs.Char.{is_ascii_digit}
use Rattle.text_core.specs.model.Programs.{Name}
use Rattle.text_core.specs.Prefixes.{prefix, rest}
use Rattle.text_core.specs.Names.{begins_name, continues_name, is_same, position_of}
use Rattle.text_core.specs.Bytes.{begins_with, has_leading_zero, value_up_to}
use Rattle.text_core.specs.Tokens.{Token, Lexeme, each_piece, tokens_of}
use Rattle.bound_expr.specs.Limits.{cap}
use Rattle.bound_text.specs.Pieces.{Piece, Variable, Number, Maximum, Open, Close, Times, Caret, Plus, Blank, Comma}
use Rattle.bound_text.specs.Pieces.{Wrong}

-- a piece with the number of its bytes
abbrev pub lexeme_with : Piece → ℕ → Lexeme Piece
lexeme_with piece len = record { piece = piece; len = len }

-- the piece of a name with these bytes after it: before an opening bracket only `max` is a piece, and elsewhere the
-- name is the variable of that name; a name that isn't listed counts as the variable after the last one
abbrev pub word_at : List Name → Name → List ℕ → Lexeme Piece
word_at names name behind =
    if begins_with 40 behind
    then (if is_same name (codes "max") then lexeme_with Maximum (length name + 1) else lexeme_with Wrong (length name))
    else lexeme_with (Variable (position_of name names)) (length name)

-- the piece of digits: the number that they denote, or 2^127 if it is greater
abbrev pub number_at : List ℕ → Lexeme Piece
number_at digits =
    lexeme_with (if has_leading_zero digits then Wrong else Number (value_up_to cap digits)) (length digits)

-- the piece of a byte that begins neither a name nor a number
abbrev pub mark_at : ℕ → Piece
mark_at b =
    if b == 40 then Open
    else if b == 41 then Close
    else if b == 42 then Times
    else if b == 94 then Caret
    else if b == 43 then Plus
    else if b == 32 then Blank
    else if b == 44 then Comma
    else Wrong

-- the lexeme that begins with the byte b; it takes the longest name, or the longest row of digits
abbrev pub lexeme_at : List Name → ℕ → List ℕ → Lexeme Piece
lexeme_at names b bytes =
    if begins_name b then word_at names (b ∷ prefix continues_name bytes) (rest continues_name bytes)
    else if is_ascii_digit b then number_at (b ∷ prefix is_ascii_digit bytes)
    else lexeme_with (mark_at b) 1

-- the tokens of a text; each byte belongs to one token
abbrev pub tokens : List Name → List ℕ → List (Token Piece)
tokens names bytes = tokens_of (each_piece (lexeme_at names)) bytes
