-- The tokens of a program's text: the lexer takes the longest token; white space may separate tokens; and in a section
-- that begins with `COMMENT`, everything up to the matching bracket is one token.
use Rattle.std.specs.Prelude.{ℕ, zero, suc, ◌+◌, if◌then◌else◌, ◌==◌, ◌&&◌, nat_lt, List, [], ◌∷◌, length, codes}
use Rattle.std.specs.Prelude.{Option, Some, None}
use Rattle.std.specs.Char.{is_ascii_digit}
use Rattle.expr_text.specs.model.Programs.{Name}
use Rattle.expr_text.specs.text_core.Prefixes.{prefix}
use Rattle.expr_text.specs.text_core.Names.{begins_name, continues_name, is_same}
use Rattle.expr_text.specs.text_core.Bytes.{is_white_space, begins_with}
use Rattle.expr_text.specs.text_core.Tokens.{Token, Lexeme, Lexer, tokens_in}
use Rattle.expr_text.specs.Pieces as inner
use Rattle.its_text.specs.Pieces.{Piece, In, Comma, Arrow, CostOpen, CostClose, GuardMark, SquareOpen, SquareClose}
use Rattle.its_text.specs.Pieces.{Disjoining, Remark, Wrong, Strange, word, digits, open_bracket, close_bracket}

-- The lexeme of a token with this many bytes.
abbrev pub lexeme : Piece → ℕ → Lexeme (Option Piece)
lexeme p len = record { piece = Some p; len = len }

-- The lexeme of bytes that begin with `-`.
abbrev pub minus_at : List ℕ → Lexeme (Option Piece)
minus_at bytes =
    if begins_with 62 bytes then lexeme Arrow 2
    else if begins_with 123 bytes then lexeme CostOpen 2
    else lexeme (In inner.Minus) 1

-- The lexeme of one of two relations, by whether `=` follows.
abbrev pub related_at : inner.Sign → inner.Sign → List ℕ → Lexeme (Option Piece)
related_at with_equal alone bytes =
    if begins_with 61 bytes then lexeme (In (inner.Related with_equal)) 2 else lexeme (In (inner.Related alone)) 1

-- The lexeme of a token of two bytes if the second one follows.
abbrev pub pair_at : ℕ → Piece → List ℕ → Lexeme (Option Piece)
pair_at second p bytes = if begins_with second bytes then lexeme p 2 else lexeme Wrong 1

-- The lexeme of `:|:` if its other bytes follow.
abbrev pub guard_mark_at : List ℕ → Lexeme (Option Piece)
guard_mark_at [] = lexeme Wrong 1
guard_mark_at (b ∷ []) = lexeme Wrong 1
guard_mark_at (b ∷ c ∷ bytes) = if (b == 124) && (c == 58) then lexeme GuardMark 3 else lexeme Wrong 1

-- The lexeme of bytes that begin with any other byte.
abbrev pub mark_at : ℕ → List ℕ → Lexeme (Option Piece)
mark_at b bytes =
    if b == 40 then lexeme open_bracket 1
    else if b == 41 then lexeme close_bracket 1
    else if b == 44 then lexeme Comma 1
    else if b == 91 then lexeme SquareOpen 1
    else if b == 93 then lexeme SquareClose 1
    else if b == 43 then lexeme (In inner.Plus) 1
    else if b == 42 then lexeme (In inner.Times) 1
    else if b == 94 then lexeme (In inner.Caret) 1
    else if b == 45 then minus_at bytes
    else if b == 62 then related_at inner.AtLeastSign inner.MoreThanSign bytes
    else if b == 60 then related_at inner.AtMostSign inner.LessThanSign bytes
    else if b == 61 then related_at inner.DoubleEqualSign inner.EqualSign bytes
    else if b == 58 then guard_mark_at bytes
    else if b == 38 then pair_at 38 (In (inner.Joining inner.Ampersands)) bytes
    else if b == 47 then pair_at 92 (In (inner.Joining inner.Wedge)) bytes
    else if b == 124 then pair_at 124 Disjoining bytes
    else if b == 125 then pair_at 62 CostClose bytes
    else if nat_lt 127 b then lexeme Strange 1
    else lexeme Wrong 1

-- The first lexeme of bytes outside a comment.
abbrev pub lexeme_at : ℕ → List ℕ → Lexeme (Option Piece)
lexeme_at b bytes =
    if is_white_space b then record { piece = None; len = 1 }
    else if begins_name b then lexeme (word (b ∷ prefix continues_name bytes))
    (1 + length (prefix continues_name bytes))
    else if is_ascii_digit b then lexeme (digits (b ∷ prefix is_ascii_digit bytes))
    (1 + length (prefix is_ascii_digit bytes))
    else mark_at b bytes

-- A byte of a comment opens a bracket, closes one, or does neither.
pub data BracketSort : Type 0 where
  Opening : BracketSort
  Closing : BracketSort
  Neither : BracketSort

abbrev pub bracket_sort_of : ℕ → BracketSort
bracket_sort_of b = if b == 40 then Opening else if b == 41 then Closing else Neither

-- One more than a number of bytes, if there is one.
abbrev pub one_more : Option ℕ → Option ℕ
one_more None = None
one_more (Some n) = Some (suc n)

-- The number of bytes up to the closing bracket, from a byte that may open or close one, with this many brackets open
-- in the comment.
abbrev pub closing_by : BracketSort → (ℕ → Option ℕ) → ℕ → Option ℕ
closing_by Opening behind depth = one_more (behind (suc depth))
closing_by Closing behind zero = Some 1
closing_by Closing behind (suc depth) = one_more (behind depth)
closing_by Neither behind depth = one_more (behind depth)

-- The number of bytes of a comment, with the bracket that closes it, if one does.
abbrev pub closing_at : List ℕ → ℕ → Option ℕ
closing_at [] depth = None
closing_at (b ∷ bytes) depth = closing_by (bracket_sort_of b) (closing_at bytes) depth

-- The mode of the lexer: between sections, after the bracket that opens one, inside one with this many open brackets,
-- or after the keyword of a comment.
pub data Mode : Type 0 where
  Outside : Mode
  AtKeyword : Mode
  Within : ℕ → Mode
  InComment : Mode

-- The mode after a keyword.
abbrev pub behind_keyword : Name → Mode
behind_keyword name = if is_same name (codes "COMMENT") then InComment else Within 0

-- The mode after a token.
abbrev pub mode_behind : Mode → Option Piece → Mode
mode_behind mode None = mode
mode_behind Outside (Some (In inner.Open)) = AtKeyword
mode_behind Outside (Some p) = Outside
mode_behind AtKeyword (Some (In (inner.Word name))) = behind_keyword name
mode_behind AtKeyword (Some (In inner.Open)) = Within 1
mode_behind AtKeyword (Some (In inner.Close)) = Outside
mode_behind AtKeyword (Some p) = Within 0
mode_behind (Within depth) (Some (In inner.Open)) = Within (suc depth)
mode_behind (Within zero) (Some (In inner.Close)) = Outside
mode_behind (Within (suc depth)) (Some (In inner.Close)) = Within depth
mode_behind (Within depth) (Some p) = Within depth
mode_behind InComment (Some p) = Outside

-- The first n elements of a list.
abbrev pub take_prefix : ℕ → List ℕ → List ℕ
take_prefix zero bytes = []
take_prefix (suc n) [] = []
take_prefix (suc n) (b ∷ bytes) = b ∷ take_prefix n bytes

-- The lexeme of a comment: its bytes up to the bracket that closes it; one that isn't closed is no token, and the text
-- ends with it.
abbrev pub remark_of : ℕ → List ℕ → Option ℕ → Lexeme (Option Piece)
remark_of b bytes None = record { piece = None; len = 1 + length bytes }
remark_of b bytes (Some len) = lexeme (Remark (take_prefix len (b ∷ bytes))) len

-- The first lexeme of bytes, by the mode.
abbrev pub lexeme_in : Mode → ℕ → List ℕ → Lexeme (Option Piece)
lexeme_in Outside b bytes = lexeme_at b bytes
lexeme_in AtKeyword b bytes = lexeme_at b bytes
lexeme_in (Within depth) b bytes = lexeme_at b bytes
lexeme_in InComment b bytes = remark_of b bytes (closing_at (b ∷ bytes) 0)

-- The lexer of program texts.
abbrev pub lexer : Lexer Piece Mode
lexer = record { lexeme_in = lexeme_in; mode_behind = mode_behind }

-- The tokens of a text.
abbrev pub tokens_of : List ℕ → List (Token Piece)
tokens_of bytes = tokens_in lexer Outside 0 0 bytes
