-- Each piece of a proof file has at least one byte, and no more than remain.
use Rattle.std.proofs.Common.{◌≡◌, ℕ, ◌<◌, ◌≤◌, Bool, true, false, cond, List, ◌∷◌, length, length-append, refl, ap}
use Rattle.std.proofs.Common.{arith}
use Rattle.std.specs.Prelude.{◌&&◌, not, nat_le, take, drop, codes, Option}
use Rattle.std.specs.Char.{is_ascii_digit}
use Rattle.std.proofs.lemmas.Bool.{leb-true}
use Rattle.its_model.specs.model.Programs.{Name}
use Rattle.text_core.proofs.PrefixLaws.{prefix-rest}
use Rattle.text_grammar.specs.text_core.Names.{begins_name, continues_name, is_same}
use Rattle.text_grammar.specs.text_core.Prefixes.{prefix, rest}
use Rattle.text_grammar.specs.text_core.Tokens.{Lexeme, LexesWithin}
use Rattle.bound_text.proofs.TextLexing as bounds
use Rattle.cert_lexer.specs.declared.piece.Piece.{Piece}
use Rattle.cert_lexer.specs.declared.piece.Mode.{Mode}
use Rattle.cert_lexer.specs.declared.piece.Mode.TheVariants as mode
use Rattle.cert_lexer.specs.declared.piece.Piece.TheVariants.{First}
use Rattle.cert_lexer.specs.Lexing.{lexeme, plain_lexeme, goes_on, is_first, ends_bound, lexeme_in}

-- a lexeme has at least one byte, and at most this many
abbrev Fits : ℕ → Lexeme (Option Piece) → Type 0
Fits most l = (0 < l.len) × (l.len ≤ most)

-- one of two lexemes that fit, chosen by a test, fits
either_fits : (most : ℕ) (v : Bool) (a b : Lexeme (Option Piece)) → Fits most a → Fits most b → Fits most (cond v a b)
either_fits most true a b h k = h
either_fits most false a b h k = k

-- a prefix is no longer than the whole
prefix_fits : (test : ℕ → Bool) (bytes : List ℕ) → length (prefix test bytes) ≤ length bytes
prefix_fits test bytes =
    let e = length-append (prefix test bytes) (rest test bytes) in
    let f = ap length (prefix-rest test bytes) in omega (arith, e, f)

plain_fits : (symbols : List Name) (b : ℕ) (bytes : List ℕ) → Fits (length (b ∷ bytes)) (plain_lexeme symbols b bytes)
plain_fits symbols b bytes =
    either_fits (length (b ∷ bytes)) (begins_name b) _ _
    (omega arith, (let h = prefix_fits continues_name bytes in omega (arith, h)))
    (either_fits (length (b ∷ bytes)) (is_ascii_digit b) _ _
    (omega arith, (let h = prefix_fits is_ascii_digit bytes in omega (arith, h))) (omega arith, omega arith))

-- bytes that begin with the first word are at least 10
ten : (bytes : List ℕ) → is_first bytes ≡ true → 10 ≤ length bytes
ten bytes h = go (nat_le 10 (length bytes)) refl h
  where
    go : (v : Bool) → nat_le 10 (length bytes) ≡ v
        → v && is_same (take 10 bytes) (codes "koat-proof") && not (goes_on (drop 10 bytes)) ≡ true → 10 ≤ length bytes
    go true e k = leb-true 10 (length bytes) e
    go false e k = cc

in_mode : (symbols arguments : List Name) (m : Mode) (b : ℕ) (bytes : List ℕ)
    → Fits (length (b ∷ bytes)) (lexeme_in symbols arguments m b bytes)
in_mode symbols arguments mode.Beginning b bytes = go (is_first (b ∷ bytes)) refl
  where
    go : (v : Bool) → is_first (b ∷ bytes) ≡ v
        → Fits (length (b ∷ bytes)) (cond v (lexeme First 10) (plain_lexeme symbols b bytes))
    go true e = (omega arith, ten (b ∷ bytes) e)
    go false e = plain_fits symbols b bytes
in_mode symbols arguments mode.InShut b bytes =
    either_fits (length (b ∷ bytes)) (begins_name b) _ _
    (omega arith, (let h = prefix_fits continues_name bytes in omega (arith, h))) (plain_fits symbols b bytes)
in_mode symbols arguments (mode.InBound depth before) b bytes =
    either_fits (length (b ∷ bytes)) (ends_bound depth b) _ _ (plain_fits symbols b bytes)
    ((bounds.lexes_within arguments).each b bytes)
in_mode symbols arguments mode.Plain b bytes = plain_fits symbols b bytes
in_mode symbols arguments mode.Closed b bytes = plain_fits symbols b bytes
in_mode symbols arguments mode.ClosedBlank b bytes = plain_fits symbols b bytes
in_mode symbols arguments mode.To b bytes = plain_fits symbols b bytes

pub lexes_within : (symbols arguments : List Name) (m : Mode) → LexesWithin (lexeme_in symbols arguments m)
lexes_within symbols arguments m = record { each = λ b bytes. in_mode symbols arguments m b bytes }
