-- Each piece of lines has at least one byte, and no more than there are.
use Rattle.std.proofs.Common.{ℕ, ◌≤◌, Bool, List, ◌∷◌, length, arith}
use Rattle.std.specs.Char.{is_ascii_digit}
use Rattle.lexing_laws.proofs.FitLaws.{Fits, either_fits, prefix_fits}
use Rattle.text_grammar.specs.text_core.Names.{begins_name, continues_name}
use Rattle.text_grammar.specs.text_core.Tokens.{LexesWithin}
use Rattle.potential_text.specs.Lexing.{sorted_at, lexeme_at}

pub sorted_fits : (b : ℕ) (bytes : List ℕ) → Fits (length (b ∷ bytes)) (sorted_at b bytes)
sorted_fits b bytes =
    either_fits (length (b ∷ bytes)) (begins_name b) _ _
    (omega arith, (let h = prefix_fits continues_name bytes in omega (arith, h)))
    (either_fits (length (b ∷ bytes)) (is_ascii_digit b) _ _
    (omega arith, (let h = prefix_fits is_ascii_digit bytes in omega (arith, h))) (omega arith, omega arith))

pub lexes_within : (n : ℕ) → LexesWithin (lexeme_at n)
lexes_within n = record { each = λ b bytes. sorted_fits b bytes }
