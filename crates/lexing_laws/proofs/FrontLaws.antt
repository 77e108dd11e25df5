-- A name and a row of digits at the beginning of bytes.
use Rattle.std.proofs.Common.{◌≡◌, ℕ, suc, ◌+◌, Bool, true, List, ◌∷◌, length, min, take, drop, ap, ◌∙◌, arith}
use Rattle.std.specs.List.{list_all}
use Rattle.std.specs.Char.{is_ascii_digit}
use Rattle.std.proofs.lemmas.List.{take_min, drop_min}
use Rattle.text_core.proofs.PrefixLaws.{take-prefix, all_prefix}
use Rattle.text_core.specs.Prefixes.{prefix}

-- the first byte and the prefix of the others
pub take_prefix : (test : ℕ → Bool) (bytes others : List ℕ) (b n : ℕ) → bytes ≡ b ∷ others
    → n ≡ length (prefix test others) → take (1 + n) bytes ≡ b ∷ prefix test others
take_prefix test bytes others b n e h =
    ap (λ (xs : List ℕ). take (1 + n) xs) e
    ∙ ap (λ (k : ℕ). take k (b ∷ others)) (let k : 1 + n ≡ suc n = omega arith in k)
    ∙ ap (λ (k : ℕ). b ∷ take k others) h ∙ ap (λ (xs : List ℕ). b ∷ xs) (take-prefix test others)

-- a first digit and those after it are digits
pub all_digits : (bytes others : List ℕ) (b n : ℕ) → bytes ≡ b ∷ others
    → n ≡ length (prefix is_ascii_digit others) → is_ascii_digit b ≡ true
    → list_all is_ascii_digit (take (1 + n) bytes) ≡ true
all_digits bytes others b n e h d =
    rw (take_prefix is_ascii_digit bytes others b n e h, d) (all_prefix is_ascii_digit others)

-- the bytes at a position, as many as there are
pub taken : (text : List ℕ) (at len : ℕ)
    → take (min len (length (drop (min at (length text)) text))) (drop (min at (length text)) text)
    ≡ take len (drop at text)
taken text at len =
    take_min len (drop (min at (length text)) text) ∙ ap (λ (xs : List ℕ). take len xs) (drop_min at text)
