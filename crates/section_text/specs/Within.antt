-- Each piece of a section has at least one byte, and no more than remain.
use Rattle.std.proofs.Common.{ℕ, ◌<◌, ◌≤◌, Bool, true, false, cond, List, ◌∷◌, length, length-append, ap, arith}
use Rattle.std.specs.Char.{is_ascii_digit}
use Rattle.text_core.proofs.PrefixLaws.{prefix-rest}
use Rattle.text_grammar.specs.text_core.Names.{begins_name, continues_name}
use Rattle.text_grammar.specs.text_core.Prefixes.{prefix, rest}
use Rattle.text_grammar.specs.text_core.Tokens.{Lexeme, LexesWithin}
use Rattle.section_text.specs.declared.piece.Sort.{Sort}
use Rattle.section_text.specs.Lexing.{sorted_at, lexeme_at}

-- a lexeme has at least one byte, and at most this many
abbrev Fits : ℕ → Lexeme Sort → Type 0
Fits most l = (0 < l.len) × (l.len ≤ most)

-- one of two lexemes that fit, chosen by a test, fits
either_fits : (most : ℕ) (v : Bool) (a b : Lexeme Sort) → Fits most a → Fits most b → Fits most (cond v a b)
either_fits most true a b h k = h
either_fits most false a b h k = k

-- a byte and a prefix of the others are no more than all
prefix_fits : (test : ℕ → Bool) (bytes : List ℕ) → length (prefix test bytes) ≤ length bytes
prefix_fits test bytes =
    let e = length-append (prefix test bytes) (rest test bytes) in
    let f = ap length (prefix-rest test bytes) in omega (arith, e, f)

pub sorted_fits : (b : ℕ) (bytes : List ℕ) → Fits (length (b ∷ bytes)) (sorted_at b bytes)
sorted_fits b bytes =
    either_fits (length (b ∷ bytes)) (begins_name b) _ _
    (omega arith, (let h = prefix_fits continues_name bytes in omega (arith, h)))
    (either_fits (length (b ∷ bytes)) (is_ascii_digit b) _ _
    (omega arith, (let h = prefix_fits is_ascii_digit bytes in omega (arith, h))) (omega arith, omega arith))

pub lexes_within : (n : ℕ) → LexesWithin (lexeme_at n)
lexes_within n = record { each = λ b bytes. sorted_fits b bytes }
