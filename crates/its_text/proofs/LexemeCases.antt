-- A property of each mark, each word and each literal holds of every lexeme of a program's text.
use Rattle.std.proofs.Common.{◌≡◌, ℕ, ◌+◌, Bool, true, false, if◌then◌else◌, ◌&&◌, ◌==◌, nat_lt, List, [], ◌∷◌, length}
use Rattle.std.proofs.Common.{Option, Some, None, refl}
use Rattle.std.specs.Prelude.{⊤}
use Rattle.std.specs.Char.{is_ascii_digit}
use Rattle.expr_text.specs.text_core.Prefixes.{prefix}
use Rattle.expr_text.specs.text_core.Names.{begins_name, continues_name}
use Rattle.expr_text.specs.text_core.Bytes.{is_white_space, begins_with}
use Rattle.expr_text.specs.text_core.Tokens.{Lexeme}
use Rattle.expr_text.specs.Pieces as inner
use Rattle.its_text.specs.Pieces.{Piece, In, word, digits}
use Rattle.its_text.specs.Lexing.{lexeme, minus_at, related_at, guard_mark_at, mark_at, lexeme_at, closing_at, Mode}
use Rattle.its_text.specs.Lexing.{Outside, AtKeyword, Within, InComment, remark_of, lexeme_in}

-- The token, if there is one, is neither a word nor a literal.
abbrev pub IsMark : Option Piece → Type 0
IsMark (Some (In (inner.Word name))) = ⊥
IsMark (Some (In (inner.Digits ds))) = ⊥
IsMark _ = ⊤

-- The property holds of each mark, each word and each literal.
pub record HoldsOfPieces (P : Option Piece → Type 0) : Type 0 where
  pub marks : (o : Option Piece) → IsMark o → P o
  pub words : (b : ℕ) (bytes : List ℕ) → begins_name b ≡ true → P (Some (word (b ∷ prefix continues_name bytes)))
  pub literals : (b : ℕ) (bytes : List ℕ) → is_ascii_digit b ≡ true
      → P (Some (digits (b ∷ prefix is_ascii_digit bytes)))

-- A property of two lexemes holds of a choice between them.
of_either : (P : Option Piece → Type 0) (v : Bool) (l m : Lexeme (Option Piece)) → P l.piece → P m.piece
    → P (if v then l else m).piece
of_either P true l m a b = a
of_either P false l m a b = b

-- The lexemes of these bytes are marks.
minus_is_mark : (bytes : List ℕ) → IsMark (minus_at bytes).piece
minus_is_mark bytes =
    of_either IsMark (begins_with 62 bytes) _ _ tt (of_either IsMark (begins_with 123 bytes) _ _ tt tt)

related_is_mark : (with_equal alone : inner.Sign) (bytes : List ℕ) → IsMark (related_at with_equal alone bytes).piece
related_is_mark with_equal alone bytes = of_either IsMark (begins_with 61 bytes) _ _ tt tt

guard_mark_is_mark : (bytes : List ℕ) → IsMark (guard_mark_at bytes).piece
guard_mark_is_mark [] = tt
guard_mark_is_mark (b ∷ []) = tt
guard_mark_is_mark (b ∷ c ∷ bytes) = of_either IsMark ((b == 124) && (c == 58)) _ _ tt tt

mark_is_mark : (b : ℕ) (bytes : List ℕ) → IsMark (mark_at b bytes).piece
mark_is_mark b bytes =
    of_either IsMark (b == 40) _ _ tt
    (of_either IsMark (b == 41) _ _ tt
    (of_either IsMark (b == 44) _ _ tt
    (of_either IsMark (b == 91) _ _ tt
    (of_either IsMark (b == 93) _ _ tt
    (of_either IsMark (b == 43) _ _ tt
    (of_either IsMark (b == 42) _ _ tt
    (of_either IsMark (b == 94) _ _ tt
    (of_either IsMark (b == 45) _ _ (minus_is_mark bytes)
    (of_either IsMark (b == 62) _ _ (related_is_mark inner.AtLeastSign inner.MoreThanSign bytes)
    (of_either IsMark (b == 60) _ _ (related_is_mark inner.AtMostSign inner.LessThanSign bytes)
    (of_either IsMark (b == 61) _ _ (related_is_mark inner.DoubleEqualSign inner.EqualSign bytes)
    (of_either IsMark (b == 58) _ _ (guard_mark_is_mark bytes)
    (of_either IsMark (b == 38) _ _ (of_either IsMark (begins_with 38 bytes) _ _ tt tt)
    (of_either IsMark (b == 47) _ _ (of_either IsMark (begins_with 92 bytes) _ _ tt tt)
    (of_either IsMark (b == 124) _ _ (of_either IsMark (begins_with 124 bytes) _ _ tt tt)
    (of_either IsMark (b == 125) _ _ (of_either IsMark (begins_with 62 bytes) _ _ tt tt)
    (of_either IsMark (nat_lt 127 b) _ _ tt tt)))))))))))))))))

remark_is_mark : (b : ℕ) (bytes : List ℕ) (o : Option ℕ) → IsMark (remark_of b bytes o).piece
remark_is_mark b bytes None = tt
remark_is_mark b bytes (Some len) = tt

module _ (P : Option Piece → Type 0) (each : HoldsOfPieces P) where
  -- The property holds of the lexeme of a byte outside of comments.
  of_lexeme_at : (b : ℕ) (bytes : List ℕ) → P (lexeme_at b bytes).piece
  of_lexeme_at b bytes = of_either P (is_white_space b) _ _ (each.marks None tt) (named (begins_name b) refl)
    where
      numbered : (v : Bool) → is_ascii_digit b ≡ v
          → P (if v then lexeme (digits (b ∷ prefix is_ascii_digit bytes)) (1 + length (prefix is_ascii_digit bytes)) else mark_at b bytes).piece
      numbered true e = each.literals b bytes e
      numbered false e = each.marks (mark_at b bytes).piece (mark_is_mark b bytes)

      named : (v : Bool) → begins_name b ≡ v
          → P (if v then lexeme (word (b ∷ prefix continues_name bytes)) (1 + length (prefix continues_name bytes)) else if is_ascii_digit b then lexeme (digits (b ∷ prefix is_ascii_digit bytes)) (1 + length (prefix is_ascii_digit bytes)) else mark_at b bytes).piece
      named true e = each.words b bytes e
      named false e = numbered (is_ascii_digit b) refl

  -- The property holds of the lexeme of a byte in each mode.
  pub of_lexeme : (mode : Mode) (b : ℕ) (bytes : List ℕ) → P (lexeme_in mode b bytes).piece
  of_lexeme Outside b bytes = of_lexeme_at b bytes
  of_lexeme AtKeyword b bytes = of_lexeme_at b bytes
  of_lexeme (Within depth) b bytes = of_lexeme_at b bytes
  of_lexeme InComment b bytes =
      each.marks (remark_of b bytes (closing_at (b ∷ bytes) 0)).piece (remark_is_mark b bytes (closing_at (b ∷ bytes) 0))
