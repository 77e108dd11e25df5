-- The prefix of a list, by its length.
use Rattle.std.specs.Prelude.{◌≡◌, ℕ, zero, suc, ◌+◌, List, [], ◌∷◌, length, refl}
use Rattle.std.proofs.Common.{ap, ◌∙◌, take, arith}
use Rattle.text_core.specs.Prefixes.{prefix}
use Rattle.text_core.proofs.PrefixLaws.{take-prefix}
use Rattle.std.specs.Prelude.{Bool}
use Rattle.std.specs.Prelude.{true, false}
use Rattle.std.specs.Char.{is_ascii_digit}
use Rattle.text_core.specs.Names.{begins_name, continues_name}
use Rattle.text_core.specs.Bytes.{is_white_space}
use Rattle.its_text.specs.Pieces.{word, digits}
use Rattle.its_text.specs.Lexing.{take_prefix, lexeme, lexeme_at}

-- taking the first n elements agrees with the definition of a prefix
pub grammar_state-take : (n : ℕ) (xs : List ℕ) → take n xs ≡ take_prefix n xs
grammar_state-take zero [] = refl
grammar_state-take zero (x ∷ xs) = refl
grammar_state-take (suc n) [] = refl
grammar_state-take (suc n) (x ∷ xs) = ap (λ ys. x ∷ ys) (grammar_state-take n xs)

-- the first element, and the prefix of those after it
pub first-take : (test : ℕ → Bool) (x : ℕ) (others text : List ℕ) → text ≡ x ∷ others
    → take (1 + length (prefix test others)) text ≡ x ∷ prefix test others
first-take test x others text e = ap (take (1 + length (prefix test others))) e
    ∙ (ap (λ n. take n (x ∷ others))
    (let k : 1 + length (prefix test others) ≡ suc (length (prefix test others)) = omega arith in k)
    ∙ ap (λ ys. x ∷ ys) (take-prefix test others))

-- at a byte that begins a name the first lexeme is this byte and the longest row of bytes that continue a name
pub named_at : (b n : ℕ) (others text : List ℕ) → is_white_space b ≡ false → begins_name b ≡ true
    → n ≡ length (prefix continues_name others) → text ≡ b ∷ others
    → lexeme (word (take (1 + n) text)) (1 + n) ≡ lexeme_at b others
named_at b n others text w h e t = rw (e, w, h)
    (ap (λ ws. lexeme (word ws) (1 + length (prefix continues_name others)))
    (first-take continues_name b others text t))

-- at a digit the first lexeme of the text is the longest row of digits
pub counted_at : (b n : ℕ) (others text : List ℕ) → is_white_space b ≡ false → begins_name b ≡ false
    → is_ascii_digit b ≡ true → n ≡ length (prefix is_ascii_digit others) → text ≡ b ∷ others
    → lexeme (digits (take (1 + n) text)) (1 + n) ≡ lexeme_at b others
counted_at b n others text w h d e t = rw (e, w, h, d)
    (ap (λ ws. lexeme (digits ws) (1 + length (prefix is_ascii_digit others)))
    (first-take is_ascii_digit b others text t))
