-- Numerals: how they grow by a digit, their digits, and the number that they denote.
use Rattle.std.proofs.Common.{◌≡◌, ℕ, zero, suc, ◌+◌, ◌/◌, ◌%◌, ◌^◌, ◌<◌, ◌≤◌, true, List, [], ◌∷◌, ◌++◌, map, length}
use Rattle.std.proofs.Common.{length-append, refl, sym, ap, subst, ◌∙◌, arith}
use Rattle.std.specs.Prelude.{ℤ, pos, negsuc, nat_abs, nat_lt, Bool, false}
use Rattle.std.specs.Prelude.{Result, Ok, Err, OnOk}
use Rattle.std.specs.declared.alloc.AllocError.{AllocError}
use Rattle.std.specs.List.{list_all}
use Rattle.std.specs.Fmt.{decimal, signed_decimal}
use Rattle.std.specs.Char.{is_ascii_digit, digit_value}
use Rattle.std.specs.Str.Parse.{digits_value}
use Rattle.std.specs.Int.Digits.{digits_of}
use Rattle.std.proofs.lemmas.Fmt.{decimal_by_steps_wide}
use Rattle.std.proofs.lemmas.Int.Digits.{digits_of_step, digits_value_push}
use Rattle.std.proofs.lemmas.List.{map_push}
use Rattle.std.proofs.lemmas.List.Folds.{list_all-append}
use Rattle.std.proofs.lemmas.Bool.Decides.{nat_tests}
use Rattle.its_text.proofs.expr_text.text_core.NumberLaws.{digit_value-digit}
use Rattle.its_writer.specs.Layout.{numeral, integer_then}
use Rattle.its_writer.specs.Printing.{WritesAll}

-- the numeral of a number that isn't 0 has its digits
numeral_some : (n : ℕ) → 0 < n → numeral n ≡ map (λ d. 48 + d) (digits_of 10 n)
numeral_some zero h = absurd (omega arith)
numeral_some (suc n) h = refl

-- a number below 10 has one digit
pub numeral_one : (n : ℕ) → n < 10 → numeral n ≡ (48 + n) ∷ []
numeral_one zero h = refl
numeral_one (suc n) h =
    let front : suc n / 10 ≡ 0 = omega (arith, h) in
    let end : suc n % 10 ≡ suc n = omega (arith, h) in
    ap (map (λ d. 48 + d)) (digits_of_step 10 (suc n) (omega arith) (omega arith) ∙ ap (λ k. digits_of 10 k ++ (suc n % 10 ∷ [])) front ∙ ap (λ k. k ∷ []) end)

-- the numeral of a number from 10 on is the numeral of its tenth and one more digit
pub numeral_more : (n : ℕ) → 10 ≤ n → numeral n ≡ numeral (n / 10) ++ ((48 + n % 10) ∷ [])
numeral_more n h =
    numeral_some n (omega (arith, h))
    ∙ ap (map (λ d. 48 + d)) (digits_of_step 10 n (omega arith) (omega (arith, h)))
    ∙ map_push (λ d. 48 + d) (digits_of 10 (n / 10)) (n % 10)
    ∙ ap (λ (ds : List ℕ). ds ++ ((48 + n % 10) ∷ [])) (sym (numeral_some (n / 10) (omega (arith, h))))

-- the numeral of a number that 64 digits can write is its decimal text
pub numeral_decimal : (n : ℕ) → n < 10 ^ 64 → numeral n ≡ decimal n
numeral_decimal n small = decimal_by_steps_wide (λ m ds. numeral m ≡ ds) numeral_one
    (λ m ds large ih. numeral_more m large ∙ ap (λ (xs : List ℕ). xs ++ ((48 + m % 10) ∷ [])) ih) n small

-- an integer of 128 bits is written in decimal
pub integer_text : (z : ℤ) (rest : List ℕ) → nat_abs z < 10 ^ 64 → signed_decimal z ++ rest ≡ integer_then z rest
integer_text (pos n) rest small = ap (λ (ds : List ℕ). ds ++ rest) (sym (numeral_decimal n small))
integer_text (negsuc n) rest small = ap (λ (ds : List ℕ). 45 ∷ (ds ++ rest)) (sym (numeral_decimal (suc n) small))

-- the digits write this number
pub record IsNumeral (n : ℕ) (ds : List ℕ) : Type 0 where
  pub digits : list_all is_ascii_digit ds ≡ true
  pub value : digits_value 10 ds ≡ n
  pub some : 0 < length ds

-- the byte of a digit is an ASCII digit, and has the digit as its value
digit_byte : (d : ℕ) → d < 10 → (is_ascii_digit (48 + d) ≡ true) × (digit_value (48 + d) ≡ d)
digit_byte d h =
    let is : is_ascii_digit (48 + d) ≡ true = grind (arith, nat_tests) in
    (is, (let v = digit_value-digit (48 + d) is in omega (arith, v)))

one_digit : (n : ℕ) → n < 10 → IsNumeral n ((48 + n) ∷ [])
one_digit n h =
    let b = digit_byte n h in
    record { digits = rw b.0 refl; value = (let v = b.1 in omega (arith, v)); some = omega arith }

one_digit_more : (n : ℕ) (ds : List ℕ) → IsNumeral (n / 10) ds → IsNumeral n (ds ++ ((48 + n % 10) ∷ []))
one_digit_more n ds is =
    let b = digit_byte (n % 10) (omega arith) in
    record {
      digits = list_all-append is_ascii_digit ds ((48 + n % 10) ∷ []) ∙ rw (is.digits, b.0) refl;
      value = digits_value_push 10 ds (48 + n % 10) ∙ (let v = is.value in let d = b.1 in omega (arith, v, d));
      some = (let e = length-append ds ((48 + n % 10) ∷ []) in omega (arith, e));
    }

-- if the numeral of a number's tenth writes the tenth, the number's numeral writes the number
numeral_from : (n : ℕ) → (10 ≤ n → IsNumeral (n / 10) (numeral (n / 10))) → IsNumeral n (numeral n)
numeral_from n tenth = go (nat_lt n 10) refl
  where
    go : (v : Bool) → nat_lt n 10 ≡ v → IsNumeral n (numeral n)
    go true e = let few : n < 10 = grind (arith, nat_tests) in subst (IsNumeral n) (sym (numeral_one n few)) (one_digit n few)
    go false e =
        let many : 10 ≤ n = grind (arith, nat_tests) in
        subst (IsNumeral n) (sym (numeral_more n many)) (one_digit_more n (numeral (n / 10)) (tenth many))

numeral_within : (turns n : ℕ) → n ≤ turns → IsNumeral n (numeral n)
numeral_within zero n h = numeral_from n (λ many. absurd (omega (arith, many, h)))
numeral_within (suc turns) n h = numeral_from n (λ many. numeral_within turns (n / 10) (omega (arith, many, h)))

-- the numeral of a number consists of digits that write it
pub numeral_is : (n : ℕ) → IsNumeral n (numeral n)
numeral_is n = numeral_within n n (omega arith)

-- if the decimal text of an integer was written, the integer was written
pub integer_written : (z y : ℤ) (old new bytes : List ℕ) (r : Result (Unit {0}) AllocError) → nat_abs z < 10 ^ 64 → bytes ≡ signed_decimal y → y ≡ z
    → OnOk r (WritesAll old new (λ rest. bytes ++ rest)) → OnOk r (WritesAll old new (integer_then z))
integer_written z y old new bytes (Err e) small text same w = tt
integer_written z y old new bytes (Ok u) small text same w =
    record { each = λ rest. w.each rest ∙ ap (λ (bs : List ℕ). old ++ bs) (ap (λ (bs : List ℕ). bs ++ rest) (text ∙ ap signed_decimal same) ∙ integer_text z rest small) }
