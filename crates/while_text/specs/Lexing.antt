-- The tokens of a while program: each is the longest possible one, and white space may come between tokens.
use Rattle.std.specs.Prelude.{ℕ, ◌+◌, ◌-◌, ◌||◌, ◌==◌, nat_lt, if◌then◌else◌, List, [], ◌∷◌, length, drop}
use Rattle.std.specs.Prelude.{codes, Option, Some, None}
use Rattle.std.specs.Char.{is_ascii_digit}
use Rattle.text_grammar.specs.text_core.Prefixes.{prefix}
use Rattle.text_grammar.specs.text_core.Names.{begins_name, continues_name, is_same}
use Rattle.text_grammar.specs.text_core.Bytes.{is_white_space, begins_with, value_up_to}
use Rattle.text_grammar.specs.text_core.Tokens.{Token, Lexeme}
use Rattle.text_grammar.specs.Marks.{tokens_of}
use Rattle.while_text.specs.model.Limits.{coefficient_limit}
use Rattle.while_text.specs.declared.piece.Sort.{Sort}
use Rattle.while_text.specs.declared.piece.Sort.TheVariants as sorts
use Rattle.while_text.specs.declared.piece.Follower.{Follower}
use Rattle.while_text.specs.declared.piece.Follower.TheVariants as followers
use Rattle.while_text.specs.declared.piece.Piece.{Piece}

-- The lexeme of a token of this sort and number of bytes.
abbrev pub lexeme : Sort → ℕ → Lexeme (Option Sort)
lexeme sort len = record { piece = Some sort; len = len }

-- The keyword that a word is, or the sort of names.
abbrev pub word_sort : List ℕ → Sort
word_sort name =
    if is_same name (codes "input") then sorts.Input
    else if is_same name (codes "skip") then sorts.Skip
    else if is_same name (codes "while") then sorts.While
    else if is_same name (codes "if") then sorts.If
    else if is_same name (codes "else") then sorts.Else
    else if is_same name (codes "TRUE") || is_same name (codes "true") then sorts.Truth
    else sorts.Name

-- The lexeme of a token of two bytes if the second one follows, and else that of the token of one byte.
abbrev pub pair_or : ℕ → Sort → Sort → List ℕ → Lexeme (Option Sort)
pair_or second two one bytes = if begins_with second bytes then lexeme two 2 else lexeme one 1

-- The sort of a byte that is a token by itself; a byte over 127 and any other byte begin none.
abbrev pub single_at : ℕ → Sort
single_at b =
    if b == 63 then sorts.Question
    else if b == 59 then sorts.Semicolon
    else if b == 44 then sorts.Comma
    else if b == 40 then sorts.Open
    else if b == 41 then sorts.Close
    else if b == 123 then sorts.BlockOpen
    else if b == 125 then sorts.BlockClose
    else if b == 43 then sorts.Plus
    else if b == 45 then sorts.Minus
    else if b == 42 then sorts.Times
    else if b == 94 then sorts.Caret
    else if nat_lt 127 b then sorts.Strange
    else sorts.Wrong

-- The lexeme of a byte that is neither white space nor begins a name or number.
abbrev pub sign_at : ℕ → List ℕ → Lexeme (Option Sort)
sign_at b bytes =
    if b == 58 then pair_or 61 sorts.Becomes sorts.Wrong bytes
    else if b == 38 then pair_or 38 sorts.Joint sorts.Wrong bytes
    else if b == 47 then pair_or 92 sorts.Joint sorts.Wrong bytes
    else if b == 62 then pair_or 61 sorts.AtLeast sorts.MoreThan bytes
    else if b == 60 then pair_or 61 sorts.AtMost sorts.LessThan bytes
    else if b == 61 then pair_or 61 sorts.Equal sorts.Equal bytes
    else lexeme (single_at b) 1

-- The lexemes of the longest name, and of the longest row of digits, whose number counts up to 2^63.
abbrev pub name_at : ℕ → List ℕ → Lexeme (Option Sort)
name_at b bytes =
    lexeme (word_sort (b ∷ prefix continues_name bytes)) (length (b ∷ prefix continues_name bytes))

abbrev pub number_at : ℕ → List ℕ → Lexeme (Option Sort)
number_at b bytes =
    lexeme (sorts.Number (value_up_to (coefficient_limit + 1) (b ∷ prefix is_ascii_digit bytes)))
    (length (b ∷ prefix is_ascii_digit bytes))

-- The lexeme at the beginning of bytes; white space is no token.
abbrev pub sort_at : ℕ → List ℕ → Lexeme (Option Sort)
sort_at b bytes =
    if is_white_space b then record { piece = None; len = 1 }
    else if begins_name b then name_at b bytes
    else if is_ascii_digit b then number_at b bytes
    else sign_at b bytes

-- How a byte continues an expression.
abbrev pub follower_in : ℕ → Follower
follower_in b =
    if (b == 43) || (b == 45) || (b == 42) then followers.Operator
    else if b == 94 then followers.Caret
    else followers.Other

-- How the next byte that is no white space continues an expression.
abbrev pub follower_of : List ℕ → Follower
follower_of [] = followers.Other
follower_of (b ∷ bytes) = if is_white_space b then follower_of bytes else follower_in b

-- The token of a lexeme of these bytes, which are the last ones of a text of n bytes.
abbrev pub piece_in : ℕ → List ℕ → Lexeme (Option Sort) → Option Sort → Option Piece
piece_in n bytes l None = None
piece_in n bytes l (Some sort) = Some (record {
  sort = sort;
  at = n - length bytes;
  len = l.len;
  follower = follower_of (drop l.len bytes);
})

-- The lexeme with its token's position and follower, for the last bytes of a text of n bytes.
abbrev pub pieced : ℕ → List ℕ → Lexeme (Option Sort) → Lexeme (Option Piece)
pieced n bytes l = record { piece = piece_in n bytes l l.piece; len = l.len }

-- The lexeme at the beginning of the last bytes of a text of n bytes.
abbrev pub lexeme_at : ℕ → ℕ → List ℕ → Lexeme (Option Piece)
lexeme_at n b bytes = pieced n (b ∷ bytes) (sort_at b bytes)

-- The tokens of a text.
abbrev pub tokens : List ℕ → List (Token Piece)
tokens bytes = tokens_of (lexeme_at (length bytes)) bytes
