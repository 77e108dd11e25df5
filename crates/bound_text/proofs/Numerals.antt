-- Digits without leading zeros are the numeral of the number that they write, and the other way round.
use Rattle.std.proofs.Common.{◌≡◌, ℕ, zero, suc, ◌+◌, ◌*◌, ◌/◌, ◌%◌, ◌^◌, ◌<◌, ◌≤◌, nat_lt, nat_eq, Bool, true, false}
use Rattle.std.proofs.Common.{◌&&◌, List, [], ◌∷◌, ◌++◌, length, refl, sym, ap, ◌∙◌, arith, append_assoc, append-nil}
use Rattle.std.proofs.Common.{length-append}
use Rattle.std.specs.List.{list_all}
use Rattle.std.specs.Fmt.{decimal}
use Rattle.std.specs.Char.{is_ascii_digit, digit_value}
use Rattle.std.specs.Str.Parse.{AllDigits, digits_value_after, digits_value}
use Rattle.std.proofs.lemmas.Fmt.{decimal_digit, decimal_step_wide, decimal_by_steps_wide}
use Rattle.std.proofs.lemmas.Bool.Decides.{nat_tests}
use Rattle.text_core.specs.Bytes.{begins_with, has_leading_zero}
use Rattle.std.proofs.lemmas.Bool.{and_parts}
use Rattle.text_core.proofs.NumberLaws.{digit_value-digit}

-- the byte of a digit is 48 more than its value, and the value is below 10
digit_byte : (c : ℕ) → is_ascii_digit c ≡ true → (c ≡ 48 + digit_value c) × (digit_value c < 10)
digit_byte c h =
    let d = digit_value-digit c h in
    let low : 48 ≤ c = grind (arith, nat_tests) in
    let high : c ≤ 57 = grind (arith, nat_tests) in
    (omega (arith, d), omega (arith, d))

-- a byte whose digit value is below 10 is a digit
value_digit : (c : ℕ) → digit_value c < 10 → is_ascii_digit c ≡ true
value_digit c h = grind (arith, nat_tests)

-- digits below 10 have bytes that pass the test of digits
pub digits_pass : (ds : List ℕ) → AllDigits 10 ds → list_all is_ascii_digit ds ≡ true
digits_pass [] h = refl
digits_pass (c ∷ ds) h = rw (value_digit c h.0, digits_pass ds h.1) refl

-- reading further digits doesn't make the number smaller
grows_after : (n : ℕ) (ds : List ℕ) → n ≤ digits_value_after 10 n ds
grows_after n [] = omega arith
grows_after n (c ∷ ds) = omega (arith, grows_after (n * 10 + digit_value c) ds)

-- the numeral of a number that isn't 0, with further digits appended, is the numeral of the number that they write
numeral_after : (n : ℕ) (xs ds : List ℕ) → 1 ≤ n → decimal n ≡ xs → list_all is_ascii_digit ds ≡ true → digits_value_after 10 n ds < 10 ^ 64 → decimal (digits_value_after 10 n ds) ≡ xs ++ ds
numeral_after n xs [] some is all small = is ∙ sym (append-nil xs)
numeral_after n xs (c ∷ ds) some is all small =
    let t = and_parts (is_ascii_digit c) (list_all is_ascii_digit ds) all in
    let b = digit_byte c t.0 in
    let m : ℕ = n * 10 + digit_value c in
    let big = grows_after (n * 10 + digit_value c) ds in
    let front : m / 10 ≡ n = omega (arith, b.1) in
    let rest : m % 10 ≡ digit_value c = omega (arith, b.1) in
    let step : decimal m ≡ decimal (m / 10) ++ ((48 + m % 10) ∷ []) = decimal_step_wide m (omega (arith, some)) (omega (arith, big, small)) in
    let here : decimal m ≡ xs ++ c ∷ [] =
    step ∙ ap (λ (k : ℕ). decimal k ++ ((48 + m % 10) ∷ [])) front ∙ ap (λ (ys : List ℕ). ys ++ ((48 + m % 10) ∷ [])) is ∙ ap (λ (k : ℕ). xs ++ ((48 + k) ∷ [])) rest ∙ ap (λ (k : ℕ). xs ++ k ∷ []) (sym b.0) in
    numeral_after m (xs ++ c ∷ []) ds (omega (arith, some)) here t.1 small ∙ append_assoc xs (c ∷ []) ds

-- digits without leading zeros are the numeral of the number that they write
pub numeral_of : (c : ℕ) (ds : List ℕ) → is_ascii_digit c ≡ true → list_all is_ascii_digit ds ≡ true → has_leading_zero (c ∷ ds) ≡ false → digits_value 10 (c ∷ ds) < 10 ^ 64 → decimal (digits_value 10 (c ∷ ds)) ≡ c ∷ ds
numeral_of c [] d all lead small =
    let b = digit_byte c d in
    ap decimal (let e : 0 * 10 + digit_value c ≡ digit_value c = omega arith in e) ∙ decimal_digit (digit_value c) b.1 ∙ ap (λ (k : ℕ). k ∷ []) (sym b.0)
numeral_of c (e ∷ ds) d all lead small =
    let b = digit_byte c d in
    let more : nat_lt 1 (length (c ∷ e ∷ ds)) ≡ true = grind (arith, nat_tests) in
    let other : nat_eq c 48 ≡ false = no_zero (nat_eq c 48) (nat_lt 1 (length (c ∷ e ∷ ds))) more lead in
    let some : 1 ≤ digit_value c = nonzero c (digit_value c) b.0 other in
    let n : 0 * 10 + digit_value c ≡ digit_value c = omega arith in
    let first : decimal (0 * 10 + digit_value c) ≡ c ∷ [] = ap decimal n ∙ decimal_digit (digit_value c) b.1 ∙ ap (λ (k : ℕ). k ∷ []) (sym b.0) in
    numeral_after (0 * 10 + digit_value c) (c ∷ []) (e ∷ ds) (omega (arith, some, n)) first all small
  where
    no_zero : (a b : Bool) → b ≡ true → a && b ≡ false → a ≡ false
    no_zero true b h k = cc
    no_zero false b h k = refl

    nonzero : (c v : ℕ) → c ≡ 48 + v → nat_eq c 48 ≡ false → 1 ≤ v
    nonzero c v e h = grind (arith, nat_tests)

-- bytes that are digits without a leading zero, unless they are `0` alone
pub record IsProper (n : ℕ) (ds : List ℕ) : Type 0 where
  pub some : 0 < length ds
  pub first : 1 ≤ n → begins_with 48 ds ≡ false
  pub single : n < 10 → length ds ≡ 1

-- whether the bytes of two lists joined begin with 0 depends on the first list, if that is not empty
begins-append : (xs ys : List ℕ) → 0 < length xs → begins_with 48 (xs ++ ys) ≡ begins_with 48 xs
begins-append [] ys h = absurd (omega arith)
begins-append (x ∷ xs) ys h = refl

-- one digit is proper
proper_one : (n : ℕ) → n < 10 → IsProper n ((48 + n) ∷ [])
proper_one n h = record { some = omega arith; first = λ k. (let e : nat_eq (48 + n) 48 ≡ false = grind (arith, nat_tests) in e); single = λ k. refl }

-- a proper numeral of n / 10 with one digit more is proper
proper_more : (n : ℕ) (ds : List ℕ) → 10 ≤ n → IsProper (n / 10) ds → IsProper n (ds ++ ((48 + n % 10) ∷ []))
proper_more n ds h p = record {
  some = omega (arith, length-append ds ((48 + n % 10) ∷ []), p.some);
  first = λ k. begins-append ds ((48 + n % 10) ∷ []) p.some ∙ p.first (omega arith);
  single = λ k. absurd (omega (arith, h, k));
}

-- a numeral has no leading zero
pub decimal_proper : (n : ℕ) → n < 10 ^ 64 → has_leading_zero (decimal n) ≡ false
decimal_proper n small = go n (decimal n) (decimal_by_steps_wide IsProper proper_one proper_more n small)
  where
    go : (n : ℕ) (ds : List ℕ) → IsProper n ds → has_leading_zero ds ≡ false
    go zero ds p = let e = p.single (omega arith) in let few : nat_lt 1 (length ds) ≡ false = grind (arith, nat_tests) in ends (begins_with 48 ds) (nat_lt 1 (length ds)) few
      where
        ends : (a b : Bool) → b ≡ false → a && b ≡ false
        ends true b h = h
        ends false b h = refl
    go (suc n) ds p = ap (λ (v : Bool). v && nat_lt 1 (length ds)) (p.first (omega arith))
