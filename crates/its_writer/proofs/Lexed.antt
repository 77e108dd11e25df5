-- The pieces of the parts of a text, one after the other.
use Rattle.std.proofs.Common.{◌≡◌, ℕ, suc, ◌+◌, true, false, List, [], ◌∷◌, ◌++◌, length}
use Rattle.std.proofs.Common.{drop, Some, refl, ap, ◌∙◌, arith}
use Rattle.std.specs.Prelude.{◌==◌}
use Rattle.std.specs.List.{list_all}
use Rattle.std.specs.Char.{is_ascii_digit}
use Rattle.std.proofs.lemmas.Bool.Decides.{nat_tests}
use Rattle.std.proofs.lemmas.Bool.{and_parts}
use Rattle.its_text.specs.expr_text.model.Programs.{Name}
use Rattle.its_text.specs.expr_text.text_core.Names.{IsName, begins_name, continues_name}
use Rattle.its_text.specs.expr_text.text_core.Bytes.{is_white_space, begins_with}
use Rattle.its_text.specs.expr_text.text_core.Tokens.{pieces, tokens_in}
use Rattle.its_text.proofs.expr_text.text_core.PrefixLaws.{Stops, prefix-append}
use Rattle.its_text.proofs.expr_text.text_core.Lexing.{tokens_in-first, pieces_in}
use Rattle.its_text.specs.expr_text.Pieces as inner
use Rattle.its_text.specs.Pieces.{Piece, In, word, digits}
use Rattle.its_text.specs.Lexing.{Mode, Within, lexer, lexeme, lexeme_at, minus_at, mode_behind}
use Rattle.its_writer.specs.Layout.{numeral}
use Rattle.its_writer.proofs.Numerals.{IsNumeral, numeral_is}

-- the pieces of bytes, depending on the lexer's mode before them
abbrev pub lexed : Mode → List ℕ → List Piece
lexed mode bytes = pieces (tokens_in lexer mode 0 0 bytes)

-- the lexemes of bytes don't depend on the position at which the bytes begin
pub moved : (mode : Mode) (at : ℕ) (bytes : List ℕ) → pieces (tokens_in lexer mode at 0 bytes) ≡ lexed mode bytes
moved mode at bytes = pieces_in lexer bytes mode 0 at 0

-- the pieces of a text are its first one, and those of the bytes after it
piece_first : (d : ℕ) (b : ℕ) (bytes behind : List ℕ) (p : Piece) (len : ℕ) → lexeme p (suc len) ≡ lexeme_at b bytes → behind ≡ drop len bytes
    → lexed (Within d) (b ∷ bytes) ≡ p ∷ lexed (mode_behind (Within d) (Some p)) behind
piece_first d b bytes behind p len is rests =
    ap pieces (tokens_in-first lexer (Within d) 0 (b ∷ bytes) bytes behind b (lexeme p (suc len)) refl is (omega arith) rests)
    ∙ ap (λ ps. p ∷ ps) (moved (mode_behind (Within d) (Some p)) (0 + suc len) behind)

-- dropping all the bytes before others leaves the others
passed : (xs ys : List ℕ) → ys ≡ drop (length xs) (xs ++ ys)
passed [] ys = refl
passed (x ∷ xs) ys = passed xs ys

-- a byte that begins a name isn't white space
not_white : (b : ℕ) → begins_name b ≡ true → is_white_space b ≡ false
not_white b h = grind (arith, nat_tests)

-- a digit isn't white space, and begins no name
digit_not_white : (b : ℕ) → is_ascii_digit b ≡ true → is_white_space b ≡ false
digit_not_white b h = grind (arith, nat_tests)

digit_no_name : (b : ℕ) → is_ascii_digit b ≡ true → begins_name b ≡ false
digit_no_name b h = grind (arith, nat_tests)

-- a byte that doesn't continue a name isn't a digit
no_digit : (b : ℕ) → continues_name b ≡ false → is_ascii_digit b ≡ false
no_digit b h = grind (arith, nat_tests)

stops_digits : (rest : List ℕ) → Stops continues_name rest → Stops is_ascii_digit rest
stops_digits [] h = tt
stops_digits (b ∷ rest) h = no_digit b h

one_more : (n : ℕ) → suc n ≡ 1 + n
one_more n = omega arith

-- a name is one piece if the bytes after it don't continue it
word_at : (b : ℕ) (bytes rest : List ℕ) → begins_name b ≡ true → list_all continues_name bytes ≡ true → Stops continues_name rest
    → lexeme (word (b ∷ bytes)) (suc (length bytes)) ≡ lexeme_at b (bytes ++ rest)
word_at b bytes rest h all stop =
    rw (not_white b h, h, prefix-append continues_name bytes rest all stop)
    (ap (lexeme (word (b ∷ bytes))) (one_more (length bytes)))

pub word_lexed : (d : ℕ) (name : Name) (rest : List ℕ) → IsName name → Stops continues_name rest → lexed (Within d) (name ++ rest) ≡ word name ∷ lexed (Within d) rest
word_lexed d [] rest is stop = absurd is
word_lexed d (b ∷ bytes) rest is stop =
    piece_first d b (bytes ++ rest) rest (word (b ∷ bytes)) (length bytes) (word_at b bytes rest is.0 is.1 stop) (passed bytes rest)

-- a row of digits is one piece if the byte after it isn't a digit
digits_at : (b : ℕ) (bytes rest : List ℕ) → is_ascii_digit b ≡ true → list_all is_ascii_digit bytes ≡ true → Stops is_ascii_digit rest
    → lexeme (digits (b ∷ bytes)) (suc (length bytes)) ≡ lexeme_at b (bytes ++ rest)
digits_at b bytes rest h all stop =
    rw (digit_not_white b h, digit_no_name b h, h, prefix-append is_ascii_digit bytes rest all stop)
    (ap (lexeme (digits (b ∷ bytes))) (one_more (length bytes)))

digits_lexed : (d n : ℕ) (ds rest : List ℕ) → IsNumeral n ds → Stops continues_name rest → lexed (Within d) (ds ++ rest) ≡ digits ds ∷ lexed (Within d) rest
digits_lexed d n [] rest is stop = absurd (let s = is.some in omega (arith, s))
digits_lexed d n (b ∷ bytes) rest is stop =
    let t = and_parts (is_ascii_digit b) (list_all is_ascii_digit bytes) is.digits in
    piece_first d b (bytes ++ rest) rest (digits (b ∷ bytes)) (length bytes) (digits_at b bytes rest t.0 t.1 (stops_digits rest stop)) (passed bytes rest)

-- a numeral is one piece of digits
pub numeral_lexed : (d n : ℕ) (rest : List ℕ) → Stops continues_name rest → lexed (Within d) (numeral n ++ rest) ≡ digits (numeral n) ∷ lexed (Within d) rest
numeral_lexed d n rest stop = digits_lexed d n (numeral n) rest (numeral_is n) stop

-- bytes before which a `-` isn't part of an arrow
abbrev pub IsApart : List ℕ → Type 0
IsApart bytes = (begins_with 62 bytes ≡ false) × (begins_with 123 bytes ≡ false)

minus_at_is : (bytes : List ℕ) → IsApart bytes → lexeme (In inner.Minus) 1 ≡ minus_at bytes
minus_at_is bytes h = rw (h.0, h.1) refl

-- a `-` before such bytes is a minus
pub minus_lexed : (d : ℕ) (bytes : List ℕ) → IsApart bytes → lexed (Within d) (45 ∷ bytes) ≡ In inner.Minus ∷ lexed (Within d) bytes
minus_lexed d bytes h = piece_first d 45 bytes bytes (In inner.Minus) 0 (minus_at_is bytes h) refl

-- a byte that begins a name, or is a digit, is neither `>` nor `{`
name_apart_byte : (b : ℕ) → begins_name b ≡ true → ((b == 62) ≡ false) × ((b == 123) ≡ false)
name_apart_byte b h = (grind (arith, nat_tests), grind (arith, nat_tests))

digit_apart_byte : (b : ℕ) → is_ascii_digit b ≡ true → ((b == 62) ≡ false) × ((b == 123) ≡ false)
digit_apart_byte b h = (grind (arith, nat_tests), grind (arith, nat_tests))

pub name_apart : (name : Name) (rest : List ℕ) → IsName name → IsApart (name ++ rest)
name_apart [] rest is = absurd is
name_apart (b ∷ bytes) rest is = name_apart_byte b is.0

digits_apart : (n : ℕ) (ds rest : List ℕ) → IsNumeral n ds → IsApart (ds ++ rest)
digits_apart n [] rest is = absurd (let s = is.some in omega (arith, s))
digits_apart n (b ∷ bytes) rest is = digit_apart_byte b (and_parts (is_ascii_digit b) (list_all is_ascii_digit bytes) is.digits).0

pub numeral_apart : (n : ℕ) (rest : List ℕ) → IsApart (numeral n ++ rest)
numeral_apart n rest = digits_apart n (numeral n) rest (numeral_is n)
