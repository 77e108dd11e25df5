-- The number that digits write, up to a limit.
use Rattle.std.proofs.Common.{◌≡◌, ℕ, ◌+◌, ◌*◌, ◌-◌, ◌<◌, ◌≤◌, min, true, List, [], ◌∷◌, length, drop, get_or, sym, ap}
use Rattle.std.proofs.Common.{subst, ◌∙◌, arith}
use Rattle.std.specs.Prelude.{IsTrue}
use Rattle.std.specs.List.{list_all}
use Rattle.std.specs.Char.{is_ascii_digit, digit_value}
use Rattle.std.specs.Str.Parse.{digits_value_after}
use Rattle.std.proofs.lemmas.Bool.{and_parts}
use Rattle.std.proofs.lemmas.Bool.Decides.{nat_tests}
use Rattle.std.proofs.lemmas.List.{drop_more, drop_all}
use Rattle.text_core.specs.Bytes.{value_up_to}

-- the value of an ASCII digit is its code less 48
pub digit_value-digit : (c : ℕ) → is_ascii_digit c ≡ true → digit_value c ≡ c - 48
digit_value-digit c h = grind (arith, nat_tests)

-- replacing a number over the limit by another such number changes no value up to the limit
pub limited_after : (limit n m : ℕ) (ds : List ℕ) → min n limit ≡ min m limit → min (digits_value_after 10 n ds) limit ≡ min (digits_value_after 10 m ds) limit
limited_after limit n m [] e = e
limited_after limit n m (c ∷ ds) e = limited_after limit (n * 10 + digit_value c) (m * 10 + digit_value c) ds (omega (arith, e))

-- the value with one more digit
one_digit : (limit value digit next c : ℕ) (left all : List ℕ) → is_ascii_digit c ≡ true → digit ≡ c - 48 → next ≡ min (value * 10 + digit) limit
    → min (digits_value_after 10 value (c ∷ left)) limit ≡ value_up_to limit all → min (digits_value_after 10 next left) limit ≡ value_up_to limit all
one_digit limit value digit next c left all h d n e =
    let v = digit_value-digit c h in
    limited_after limit next (value * 10 + digit_value c) left (omega (arith, d, n, v)) ∙ e

-- the value with the digit at position i, if the digits after it are those of a list from i + 1 on
pub next_digit : (limit : ℕ) (ds : List ℕ) (i value digit next c : ℕ) → i < length ds → c ≡ get_or ds i 0 → IsTrue (list_all is_ascii_digit (drop i ds))
    → min (digits_value_after 10 value (drop i ds)) limit ≡ value_up_to limit ds → digit ≡ c - 48 → next ≡ min (value * 10 + digit) limit
    → (min (digits_value_after 10 next (drop (i + 1) ds)) limit ≡ value_up_to limit ds) × (next ≤ limit) × IsTrue (list_all is_ascii_digit (drop (i + 1) ds))
next_digit limit ds i value digit next c h at all v d n =
    let split : drop i ds ≡ c ∷ drop (i + 1) ds = drop_more ds i 0 h ∙ ap (λ (x : ℕ). x ∷ drop (i + 1) ds) (sym at) in
    let digits : IsTrue (list_all is_ascii_digit (c ∷ drop (i + 1) ds)) = subst (λ (xs : List ℕ). IsTrue (list_all is_ascii_digit xs)) split all in
    let worked : (is_ascii_digit c ≡ true) × IsTrue (list_all is_ascii_digit (drop (i + 1) ds)) = and_parts (is_ascii_digit c) (list_all is_ascii_digit (drop (i + 1) ds)) digits in (
      one_digit limit value digit next c (drop (i + 1) ds) ds worked.0 d n (subst (λ (xs : List ℕ). min (digits_value_after 10 value xs) limit ≡ value_up_to limit ds) split v),
      omega (arith, n),
      worked.1,
    )

-- if no digit is left, the value is that of all digits
pub no_digit : (limit : ℕ) (ds : List ℕ) (i value : ℕ) → length ds ≤ i → min (digits_value_after 10 value (drop i ds)) limit ≡ value_up_to limit ds → value ≤ limit → value ≡ value_up_to limit ds
no_digit limit ds i value h v small =
    let done : min value limit ≡ value_up_to limit ds = subst (λ (xs : List ℕ). min (digits_value_after 10 value xs) limit ≡ value_up_to limit ds) (drop_all i ds h) v in
    omega (arith, done)
