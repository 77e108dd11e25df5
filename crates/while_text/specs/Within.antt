-- Each token of a while program has at least one byte, and no more than the bytes left.
use Rattle.std.proofs.Common.{◌≡◌, ℕ, ◌<◌, ◌≤◌, Bool, true, false, cond, List, [], ◌∷◌, length, length-append, ap, arith}
use Rattle.std.specs.Prelude.{Option, Some, None, ◌==◌}
use Rattle.std.specs.Char.{is_ascii_digit}
use Rattle.text_core.proofs.PrefixLaws.{prefix-rest}
use Rattle.text_grammar.specs.text_core.Names.{begins_name, continues_name}
use Rattle.text_grammar.specs.text_core.Bytes.{is_white_space, begins_with}
use Rattle.text_grammar.specs.text_core.Prefixes.{prefix, rest}
use Rattle.text_grammar.specs.text_core.Tokens.{Lexeme, LexesWithin}
use Rattle.while_text.specs.declared.piece.Sort.{Sort}
use Rattle.while_text.specs.declared.piece.Sort.TheVariants as sorts
use Rattle.while_text.specs.Lexing.{lexeme, pair_or, single_at, sign_at, name_at, number_at, sort_at, lexeme_at}

-- A lexeme has at least one byte, and at most this many.
abbrev Fits : ℕ → Lexeme (Option Sort) → Type 0
Fits most l = (0 < l.len) × (l.len ≤ most)

-- A choice between two lexemes that fit fits.
either_fits : (most : ℕ) (v : Bool) (a b : Lexeme (Option Sort)) → Fits most a → Fits most b → Fits most (cond v a b)
either_fits most true a b h k = h
either_fits most false a b h k = k

-- A byte and a prefix of the others are no more than all bytes.
prefix_fits : (test : ℕ → Bool) (bytes : List ℕ) → length (prefix test bytes) ≤ length bytes
prefix_fits test bytes =
    let e = length-append (prefix test bytes) (rest test bytes) in
    let f = ap length (prefix-rest test bytes) in omega (arith, e, f)

-- A token of two bytes, or of one, fits.
pair_fits : (second : ℕ) (two one : Sort) (b : ℕ) (bytes : List ℕ)
    → Fits (length (b ∷ bytes)) (pair_or second two one bytes)
pair_fits second two one b [] = (omega arith, omega arith)
pair_fits second two one b (x ∷ bytes) =
    either_fits (length (b ∷ x ∷ bytes)) (begins_with second (x ∷ bytes)) (lexeme two 2) (lexeme one 1)
    (omega arith, omega arith) (omega arith, omega arith)

one_fits : (sort : Sort) (b : ℕ) (bytes : List ℕ) → Fits (length (b ∷ bytes)) (lexeme sort 1)
one_fits sort b bytes = (omega arith, omega arith)

sign_fits : (b : ℕ) (bytes : List ℕ) → Fits (length (b ∷ bytes)) (sign_at b bytes)
sign_fits b bytes =
    either_fits (length (b ∷ bytes)) (b == 58) _ _ (pair_fits 61 sorts.Becomes sorts.Wrong b bytes)
    (either_fits (length (b ∷ bytes)) (b == 38) _ _ (pair_fits 38 sorts.Joint sorts.Wrong b bytes)
    (either_fits (length (b ∷ bytes)) (b == 47) _ _ (pair_fits 92 sorts.Joint sorts.Wrong b bytes)
    (either_fits (length (b ∷ bytes)) (b == 62) _ _ (pair_fits 61 sorts.AtLeast sorts.MoreThan b bytes)
    (either_fits (length (b ∷ bytes)) (b == 60) _ _ (pair_fits 61 sorts.AtMost sorts.LessThan b bytes)
    (either_fits (length (b ∷ bytes)) (b == 61) _ _ (pair_fits 61 sorts.Equal sorts.Equal b bytes)
    (one_fits (single_at b) b bytes))))))

pub sort_fits : (b : ℕ) (bytes : List ℕ) → Fits (length (b ∷ bytes)) (sort_at b bytes)
sort_fits b bytes =
    either_fits (length (b ∷ bytes)) (is_white_space b) _ _ (omega arith, omega arith)
    (either_fits (length (b ∷ bytes)) (begins_name b) _ _
    (omega arith, (let h = prefix_fits continues_name bytes in omega (arith, h)))
    (either_fits (length (b ∷ bytes)) (is_ascii_digit b) _ _
    (omega arith, (let h = prefix_fits is_ascii_digit bytes in omega (arith, h))) (sign_fits b bytes)))

pub lexes_within : (n : ℕ) → LexesWithin (lexeme_at n)
lexes_within n = record { each = λ b bytes. sort_fits b bytes }
