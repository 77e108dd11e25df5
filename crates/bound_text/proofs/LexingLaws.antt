-- Names and numbers at the beginning of a text.
use Rattle.std.proofs.Common.{◌≡◌, ℕ, suc, ◌+◌, Bool, true, false, cond, List, ◌∷◌, length, take, drop, sym, ap, ◌∙◌}
use Rattle.std.proofs.Common.{arith}
use Rattle.std.specs.Prelude.{IsTrue, Result, Ok, Err, IfOk}
use Rattle.std.specs.List.{list_all}
use Rattle.std.specs.Char.{is_ascii_digit}
use Rattle.std.specs.declared.alloc.AllocError.{AllocError}
use Rattle.text_core.specs.model.Programs.{Name}
use Rattle.text_core.specs.Names.{begins_name, continues_name}
use Rattle.text_core.specs.Tokens as plain
use Rattle.bound_text.specs.Pieces.{Piece}
use Rattle.text_core.specs.Prefixes.{prefix, rest}
use Rattle.bound_text.specs.Lexing.{lexeme_with as one, word_at, number_at, mark_at, lexeme_at}
use Rattle.bound_text.specs.Lexemes.{lexeme_of}
use Rattle.bound_text.specs.declared.lexer.Lexeme.{Lexeme}
use Rattle.text_core.proofs.PrefixLaws.{take-prefix, drop-prefix, all_prefix}

module _ (p : ℕ → Bool) where
  -- a prefix of a text is its first byte and a prefix of the others
  pub take_with_first : (text others : List ℕ) (b n : ℕ) → text ≡ b ∷ others → n ≡ length (prefix p others) → take (1 + n) text ≡ b ∷ prefix p others
  take_with_first text others b n e h =
      ap (λ (xs : List ℕ). take (1 + n) xs) e
      ∙ ap (λ (k : ℕ). take k (b ∷ others)) (let k : 1 + n ≡ suc n = omega arith in k)
      ∙ ap (λ (k : ℕ). b ∷ take k others) h
      ∙ ap (λ (xs : List ℕ). b ∷ xs) (take-prefix p others)

  -- the text after a prefix is the rest of the others after a prefix one shorter
  pub drop_with_first : (text others : List ℕ) (b n : ℕ) → text ≡ b ∷ others → n ≡ length (prefix p others) → drop (1 + n) text ≡ rest p others
  drop_with_first text others b n e h =
      ap (λ (xs : List ℕ). drop (1 + n) xs) e
      ∙ ap (λ (k : ℕ). drop k (b ∷ others)) (let k : 1 + n ≡ suc n = omega arith in k)
      ∙ ap (λ (k : ℕ). drop k others) h
      ∙ drop-prefix p others

-- a first digit and the digits after it are all digits
pub all_digits : (text others : List ℕ) (b n : ℕ) → text ≡ b ∷ others → n ≡ length (prefix is_ascii_digit others) → is_ascii_digit b ≡ true → IsTrue (list_all is_ascii_digit (take (1 + n) text))
all_digits text others b n e h d = rw (take_with_first is_ascii_digit text others b n e h, d) (all_prefix is_ascii_digit others)

-- the lexeme of a name that was found is that at the beginning of the text
pub word_found : (names : List Name) (text others name behind : List ℕ) (b n : ℕ) (r : Result Lexeme AllocError) → text ≡ b ∷ others → n ≡ length (prefix continues_name others)
    → name ≡ take (1 + n) text → behind ≡ drop (1 + n) text → begins_name b ≡ true → IfOk r (λ l. lexeme_of l ≡ word_at names name behind) → IfOk r (λ l. lexeme_of l ≡ lexeme_at names b others)
word_found names text others name behind b n (Err x) e h is_name is_rest begins found = tt
word_found names text others name behind b n (Ok l) e h is_name is_rest begins found =
    found
    ∙ ap (λ (w : List ℕ). word_at names w behind) (is_name ∙ take_with_first continues_name text others b n e h)
    ∙ ap (λ (w : List ℕ). word_at names (b ∷ prefix continues_name others) w) (is_rest ∙ drop_with_first continues_name text others b n e h)
    ∙ sym (ap (λ (v : Bool). cond v (word_at names (b ∷ prefix continues_name others) (rest continues_name others)) (other names b others)) begins)
  where
    other : List Name → ℕ → List ℕ → plain.Lexeme Piece
    other names b others = cond (is_ascii_digit b) (number_at (b ∷ prefix is_ascii_digit others)) (one (mark_at b) 1)

-- the lexeme of a number that was found is that at the beginning of the text
pub number_found : (names : List Name) (text others digits : List ℕ) (b n : ℕ) (l : Lexeme) → text ≡ b ∷ others → n ≡ length (prefix is_ascii_digit others)
    → digits ≡ take (1 + n) text → begins_name b ≡ false → is_ascii_digit b ≡ true → lexeme_of l ≡ number_at digits → lexeme_of l ≡ lexeme_at names b others
number_found names text others digits b n l e h is_digits begins digit found =
    rw (begins, digit) (found ∙ ap number_at (is_digits ∙ take_with_first is_ascii_digit text others b n e h))
