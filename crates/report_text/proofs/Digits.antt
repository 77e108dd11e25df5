-- Numbers are determined by their digits.
use Rattle.std.proofs.Common.{◌≡◌, ℕ, zero, suc, ◌/◌, ◌%◌, ◌<◌, Bool, true, false, cond, not, ◌||◌, ◌==◌, List, [], ◌∷◌}
use Rattle.std.proofs.Common.{length, drop, ℤ, pos, negsuc, decimal, refl, sym, ap, subst, arith, eqb}
use Rattle.std.specs.List.{list_all}
use Rattle.std.specs.Fmt.{signed_decimal, digits, digits_onto, digit_glyph}
use Rattle.std.specs.Char.{is_ascii_digit}
use Rattle.std.proofs.lemmas.Fmt.{decimal_injective, decimal_nonempty}
use Rattle.std.proofs.lemmas.Bool.{and_parts}
use Rattle.std.proofs.lemmas.Bool.Decides.{nat_tests}
use Rattle.its_model.proofs.text_core.PrefixLaws.{Stops}
use Rattle.report_text.specs.Printable.{IsShort, IsShortSigned}
use Rattle.report_text.proofs.DistinguishedTexts.{Determines, same_front}

-- the bytes of numbers with a sign
abbrev pub is_number_byte : ℕ → Bool
is_number_byte b = is_ascii_digit b || (b == 45)

-- every byte but the line feed
abbrev pub is_plain : ℕ → Bool
is_plain b = not (b == 10)

-- the glyph of a digit is a digit
glyph_digit : (d : ℕ) → d < 10 → is_ascii_digit (digit_glyph false d) ≡ true
glyph_digit d h = grind (arith, nat_tests)

-- digits put before digits are digits
onto_digits : (k n : ℕ) (acc : List ℕ) → list_all is_ascii_digit acc ≡ true → list_all is_ascii_digit (digits_onto k 10 false n acc) ≡ true
onto_digits zero n acc h = h
onto_digits (suc k) n acc h =
    let more : list_all is_ascii_digit (digit_glyph false (n % 10) ∷ acc) ≡ true = rw (glyph_digit (n % 10) (omega arith), h) refl in
    go (eqb (n / 10) 0) more (onto_digits k (n / 10) (digit_glyph false (n % 10) ∷ acc) more)
  where
    go : (b : Bool) → list_all is_ascii_digit (digit_glyph false (n % 10) ∷ acc) ≡ true
        → list_all is_ascii_digit (digits_onto k 10 false (n / 10) (digit_glyph false (n % 10) ∷ acc)) ≡ true
        → list_all is_ascii_digit (cond b (digit_glyph false (n % 10) ∷ acc) (digits_onto k 10 false (n / 10) (digit_glyph false (n % 10) ∷ acc))) ≡ true
    go true more rest = more
    go false more rest = rest

-- a numeral has digits alone
pub all_digits : (n : ℕ) → list_all is_ascii_digit (decimal n) ≡ true
unfolding digits
all_digits n = onto_digits 64 n [] refl

-- if all bytes pass a test that implies another, all pass the other one
pub all_weaker : (p q : ℕ → Bool) → ((c : ℕ) → p c ≡ true → q c ≡ true) → (xs : List ℕ) → list_all p xs ≡ true → list_all q xs ≡ true
all_weaker p q leads [] h = refl
all_weaker p q leads (c ∷ xs) h =
    let t = and_parts (p c) (list_all p xs) h in
    rw (leads c t.0, all_weaker p q leads xs t.1) refl

-- a digit is a byte of numbers
digit_counts : (c : ℕ) → is_ascii_digit c ≡ true → is_number_byte c ≡ true
digit_counts c h = rw h refl

-- a digit is no line feed
digit_plain : (c : ℕ) → is_ascii_digit c ≡ true → is_plain c ≡ true
digit_plain c h = grind (arith, nat_tests)

-- all bytes of a numeral are bytes of numbers
pub all_count : (n : ℕ) → list_all is_number_byte (decimal n) ≡ true
all_count n = all_weaker is_ascii_digit is_number_byte digit_counts (decimal n) (all_digits n)

-- no byte of a numeral is a line feed
pub all_plain : (n : ℕ) → list_all is_plain (decimal n) ≡ true
all_plain n = all_weaker is_ascii_digit is_plain digit_plain (decimal n) (all_digits n)

-- a number is determined by its numeral
pub number_determined : Determines IsShort decimal (Stops is_number_byte)
number_determined = record {
  each = λ x y u v p q s t e.
      let r = same_front is_number_byte (decimal x) (decimal y) u v (all_count x) (all_count y) s t e in
      (decimal_injective x y p q r.0, r.1);
}

-- all bytes of a numeral with a sign are bytes of numbers
pub signed_count : (z : ℤ) → list_all is_number_byte (signed_decimal z) ≡ true
signed_count (pos n) = all_count n
signed_count (negsuc n) = all_count (suc n)

-- a numeral with a sign has a byte
pub signed_some : (z : ℤ) → IsShortSigned z → 0 < length (signed_decimal z)
signed_some (pos n) h = decimal_nonempty n h
signed_some (negsuc n) h = omega arith

-- a numeral doesn't begin with a sign
no_sign : (n : ℕ) (ds : List ℕ) → decimal n ≡ 45 ∷ ds → ⊥
no_sign n ds e = let h : false ≡ true = subst (λ (xs : List ℕ). list_all is_ascii_digit xs ≡ true) e (all_digits n) in cc

-- equal numerals with a sign are of equal numbers
signed_one : (y z : ℤ) → IsShortSigned y → IsShortSigned z → signed_decimal y ≡ signed_decimal z → y ≡ z
signed_one (pos m) (pos n) p q e = ap pos (decimal_injective m n p q e)
signed_one (pos m) (negsuc n) p q e = absurd (no_sign m (decimal (suc n)) e)
signed_one (negsuc m) (pos n) p q e = absurd (no_sign n (decimal (suc m)) (sym e))
signed_one (negsuc m) (negsuc n) p q e = ap negsuc (let same = decimal_injective (suc m) (suc n) p q (ap (drop 1) e) in omega (arith, same))

-- a number is determined by its numeral with a sign
pub signed_determined : Determines IsShortSigned signed_decimal (Stops is_number_byte)
signed_determined = record {
  each = λ x y u v p q s t e.
      let r = same_front is_number_byte (signed_decimal x) (signed_decimal y) u v (signed_count x) (signed_count y) s t e in
      (signed_one x y p q r.0, r.1);
}
