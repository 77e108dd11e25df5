-- Each token of a program's text has at least one byte, and no more than remain; so the tokens are in order of
-- position.
use Rattle.std.proofs.Common.{◌≡◌, ℕ, zero, suc, ◌+◌, ◌<◌, ◌≤◌, Bool, true, false, if◌then◌else◌, ◌&&◌, ◌==◌, nat_lt}
use Rattle.std.proofs.Common.{List, [], ◌∷◌, length, length-append, Option, Some, None, ap, subst, arith}
use Rattle.std.specs.Prelude.{⊤}
use Rattle.std.specs.Char.{is_ascii_digit}
use Rattle.expr_text.specs.text_core.Prefixes.{prefix, rest}
use Rattle.expr_text.specs.text_core.Names.{begins_name, continues_name}
use Rattle.expr_text.specs.text_core.Bytes.{is_white_space, begins_with}
use Rattle.expr_text.specs.text_core.Tokens.{Lexeme, LexesWithin, AreInOrder}
use Rattle.expr_text.proofs.text_core.PrefixLaws.{prefix-rest}
use Rattle.expr_text.proofs.text_core.Lexing.{in_order_in}
use Rattle.expr_text.specs.Pieces as inner
use Rattle.its_text.specs.Pieces.{Piece, In, Comma, CostClose, SquareOpen, SquareClose, Disjoining, Wrong, Strange}
use Rattle.its_text.specs.Pieces.{open_bracket}
use Rattle.its_text.specs.Pieces.{close_bracket}
use Rattle.its_text.specs.Lexing.{lexeme, minus_at, related_at, pair_at, guard_mark_at, mark_at, lexeme_at, BracketSort}
use Rattle.its_text.specs.Lexing.{Opening, Closing, Neither, bracket_sort_of, one_more, closing_by, closing_at, Mode, Outside}
use Rattle.its_text.specs.Lexing.{AtKeyword, Within, InComment, remark_of, lexeme_in, lexer, tokens_of}

-- A lexeme has at least one byte, and at most this many.
abbrev Fits : ℕ → Lexeme (Option Piece) → Type 0
Fits most l = (0 < l.len) × (l.len ≤ most)

-- A choice between two lexemes that fit fits.
either_fits : (most : ℕ) (v : Bool) (l m : Lexeme (Option Piece)) → Fits most l → Fits most m → Fits most (if v then l else m)
either_fits most true l m a b = a
either_fits most false l m a b = b

one_fits : (p : Piece) (bytes : List ℕ) → Fits (1 + length bytes) (lexeme p 1)
one_fits p bytes = (omega arith, omega arith)

minus_fits : (bytes : List ℕ) → Fits (1 + length bytes) (minus_at bytes)
minus_fits [] = (omega arith, omega arith)
minus_fits (b ∷ bytes) =
    either_fits (1 + length (b ∷ bytes)) (begins_with 62 (b ∷ bytes)) _ _ (omega arith, omega arith)
    (either_fits (1 + length (b ∷ bytes)) (begins_with 123 (b ∷ bytes)) _ _ (omega arith, omega arith) (one_fits (In inner.Minus) (b ∷ bytes)))

related_fits : (with_equal alone : inner.Sign) (bytes : List ℕ) → Fits (1 + length bytes) (related_at with_equal alone bytes)
related_fits with_equal alone [] = (omega arith, omega arith)
related_fits with_equal alone (b ∷ bytes) = either_fits (1 + length (b ∷ bytes)) (begins_with 61 (b ∷ bytes)) _ _ (omega arith, omega arith) (one_fits (In (inner.Related alone)) (b ∷ bytes))

pair_fits : (second : ℕ) (p : Piece) (bytes : List ℕ) → Fits (1 + length bytes) (pair_at second p bytes)
pair_fits second p [] = (omega arith, omega arith)
pair_fits second p (b ∷ bytes) = either_fits (1 + length (b ∷ bytes)) (begins_with second (b ∷ bytes)) _ _ (omega arith, omega arith) (one_fits Wrong (b ∷ bytes))

guard_mark_fits : (bytes : List ℕ) → Fits (1 + length bytes) (guard_mark_at bytes)
guard_mark_fits [] = (omega arith, omega arith)
guard_mark_fits (b ∷ []) = (omega arith, omega arith)
guard_mark_fits (b ∷ c ∷ bytes) = either_fits (1 + length (b ∷ c ∷ bytes)) ((b == 124) && (c == 58)) _ _ (omega arith, omega arith) (one_fits Wrong (b ∷ c ∷ bytes))

mark_fits : (b : ℕ) (bytes : List ℕ) → Fits (1 + length bytes) (mark_at b bytes)
mark_fits b bytes =
    either_fits most (b == 40) _ _ (one_fits open_bracket bytes)
    (either_fits most (b == 41) _ _ (one_fits close_bracket bytes)
    (either_fits most (b == 44) _ _ (one_fits Comma bytes)
    (either_fits most (b == 91) _ _ (one_fits SquareOpen bytes)
    (either_fits most (b == 93) _ _ (one_fits SquareClose bytes)
    (either_fits most (b == 43) _ _ (one_fits (In inner.Plus) bytes)
    (either_fits most (b == 42) _ _ (one_fits (In inner.Times) bytes)
    (either_fits most (b == 94) _ _ (one_fits (In inner.Caret) bytes)
    (either_fits most (b == 45) _ _ (minus_fits bytes)
    (either_fits most (b == 62) _ _ (related_fits inner.AtLeastSign inner.MoreThanSign bytes)
    (either_fits most (b == 60) _ _ (related_fits inner.AtMostSign inner.LessThanSign bytes)
    (either_fits most (b == 61) _ _ (related_fits inner.DoubleEqualSign inner.EqualSign bytes)
    (either_fits most (b == 58) _ _ (guard_mark_fits bytes)
    (either_fits most (b == 38) _ _ (pair_fits 38 (In (inner.Joining inner.Ampersands)) bytes)
    (either_fits most (b == 47) _ _ (pair_fits 92 (In (inner.Joining inner.Wedge)) bytes)
    (either_fits most (b == 124) _ _ (pair_fits 124 Disjoining bytes)
    (either_fits most (b == 125) _ _ (pair_fits 62 CostClose bytes)
    (either_fits most (nat_lt 127 b) _ _ (one_fits Strange bytes) (one_fits Wrong bytes))))))))))))))))))
  where
    most : ℕ
    most = 1 + length bytes

-- a prefix is no longer than the whole
prefix_fits : (test : ℕ → Bool) (bytes : List ℕ) → length (prefix test bytes) ≤ length bytes
prefix_fits test bytes = let e = length-append (prefix test bytes) (rest test bytes) in let f = ap length (prefix-rest test bytes) in omega (arith, e, f)

lexeme_fits : (b : ℕ) (bytes : List ℕ) → Fits (1 + length bytes) (lexeme_at b bytes)
lexeme_fits b bytes =
    either_fits (1 + length bytes) (is_white_space b) _ _ (omega arith, omega arith)
    (either_fits (1 + length bytes) (begins_name b) _ _ (omega arith, (let h = prefix_fits continues_name bytes in omega (arith, h)))
    (either_fits (1 + length bytes) (is_ascii_digit b) _ _ (omega arith, (let h = prefix_fits is_ascii_digit bytes in omega (arith, h))) (mark_fits b bytes)))

-- The number, if there is one, is at least 1 and at most this.
abbrev FitsMaybe : ℕ → Option ℕ → Type 0
FitsMaybe most None = ⊤
FitsMaybe most (Some len) = (0 < len) × (len ≤ most)

one_more_fits : (most : ℕ) (o : Option ℕ) → FitsMaybe most o → FitsMaybe (suc most) (one_more o)
one_more_fits most None h = tt
one_more_fits most (Some len) h = (omega arith, (let k = h.1 in omega (arith, k)))

closing_by_fits : (bracket_sort : BracketSort) (behind : ℕ → Option ℕ) (most : ℕ) → ((depth : ℕ) → FitsMaybe most (behind depth)) → (depth : ℕ) → FitsMaybe (suc most) (closing_by bracket_sort behind depth)
closing_by_fits Opening behind most h depth = one_more_fits most (behind (suc depth)) (h (suc depth))
closing_by_fits Closing behind most h zero = (omega arith, omega arith)
closing_by_fits Closing behind most h (suc depth) = one_more_fits most (behind depth) (h depth)
closing_by_fits Neither behind most h depth = one_more_fits most (behind depth) (h depth)

closing_fits : (bytes : List ℕ) (depth : ℕ) → FitsMaybe (length bytes) (closing_at bytes depth)
closing_fits [] depth = tt
closing_fits (b ∷ bytes) depth = closing_by_fits (bracket_sort_of b) (closing_at bytes) (length bytes) (closing_fits bytes) depth

remark_fits : (b : ℕ) (bytes : List ℕ) (o : Option ℕ) → FitsMaybe (1 + length bytes) o → Fits (1 + length bytes) (remark_of b bytes o)
remark_fits b bytes None h = (omega arith, omega arith)
remark_fits b bytes (Some len) h = h

in_mode : (mode : Mode) (b : ℕ) (bytes : List ℕ) → Fits (1 + length bytes) (lexeme_in mode b bytes)
in_mode Outside b bytes = lexeme_fits b bytes
in_mode AtKeyword b bytes = lexeme_fits b bytes
in_mode (Within depth) b bytes = lexeme_fits b bytes
in_mode InComment b bytes = remark_fits b bytes (closing_at (b ∷ bytes) 0) (subst (λ (n : ℕ). FitsMaybe n (closing_at (b ∷ bytes) 0)) (let e : length (b ∷ bytes) ≡ 1 + length bytes = omega arith in e) (closing_fits (b ∷ bytes) 0))

-- Each token has at least one byte, and no more than the bytes left.
pub lexes_within : (mode : Mode) → LexesWithin (lexeme_in mode)
lexes_within mode = record { each = λ b bytes. let h = in_mode mode b bytes in (h.0, (let k = h.1 in omega (arith, k))) }

-- the tokens of a text are in order of position
pub tokens_in_order : (bytes : List ℕ) → AreInOrder 0 (tokens_of bytes) (length bytes)
tokens_in_order bytes =
    subst (AreInOrder 0 (tokens_of bytes)) (let e : 0 + length bytes ≡ length bytes = omega arith in e) (in_order_in lexer lexes_within bytes Outside 0 0 (omega arith))
