-- The worked values of sizes hold.
use Rattle.std.proofs.Common.{ℕ, zero, suc, ◌+◌, ◌-◌, ◌^◌, ◌<◌, ◌≤◌, [], ◌∷◌, arith}
use Rattle.std.specs.Prelude.{ℤ, pos, negsuc, unsigned_abs}
use Rattle.std.proofs.lemmas.List.Elements.{All-nil, All-cons}
use Rattle.linear_forms.specs.Forms.{at}
use Rattle.linear_forms.specs.Limits.{certificate_limit}
use Rattle.farkas_cert.specs.Sizes.{column_size, column_limit, AreParts, AreWithinLimit, AreRowNumbers}
use Rattle.farkas_cert.specs.WorkedSizes.{line, LimitsAreWorkedOut, ColumnsAreWorkedOut, SizesAreWorkedOut}

-- lists of two parts, of two multipliers and of one number
two_parts : (x y : ℤ) → unsigned_abs x ≤ 2 ^ 45 → unsigned_abs y ≤ 2 ^ 45 → AreParts (x ∷ y ∷ [])
two_parts x y h k =
    let P : ℤ → Type 0 = λ (z : ℤ). unsigned_abs z ≤ 2 ^ 45 in
    All-cons P x (y ∷ []) h (All-cons P y [] k (All-nil P))

second_part : (x y : ℤ) → AreParts (x ∷ y ∷ []) → unsigned_abs y ≤ 2 ^ 45
second_part x y h = h 1 (pos 0) (omega arith)

two_multipliers : (x y : ℕ) → x ≤ certificate_limit → y ≤ certificate_limit → AreWithinLimit (x ∷ y ∷ [])
two_multipliers x y h k =
    let P : ℕ → Type 0 = λ (z : ℕ). z ≤ certificate_limit in
    All-cons P x (y ∷ []) h (All-cons P y [] k (All-nil P))

second_multiplier : (x y : ℕ) → AreWithinLimit (x ∷ y ∷ []) → y ≤ certificate_limit
second_multiplier x y h = h 1 0 (omega arith)

one_number : (x : ℤ) → unsigned_abs x < 2 ^ 63 → AreRowNumbers (x ∷ [])
one_number x h =
    let P : ℤ → Type 0 = λ (z : ℤ). unsigned_abs z < 2 ^ 63 in
    All-cons P x [] h (All-nil P)

the_number : (x : ℤ) → AreRowNumbers (x ∷ []) → unsigned_abs x < 2 ^ 63
the_number x h = h 0 (pos 0) (omega arith)

limits : LimitsAreWorkedOut
limits = record {
  multiplier = two_multipliers (2 ^ 56) 0 (omega arith) (omega arith);
  large_multiplier = λ h. let large = second_multiplier 0 (2 ^ 56 + 1) h in omega (arith, large);
  part = two_parts (pos (2 ^ 45)) (negsuc (2 ^ 45 - 1)) (omega arith) (omega arith);
  large_part = λ h. let large = second_part (pos 0) (negsuc (2 ^ 45)) h in omega (arith, large);
  number = record { coefs = one_number (pos (2 ^ 63 - 1)) (omega arith); constant = omega arith };
  large_number = λ h. let large = the_number (pos (2 ^ 63)) h.coefs in omega (arith, large);
  large_constant = λ h. let large = h.constant in omega (arith, large);
}

columns : ColumnsAreWorkedOut
columns = record {
  one = record { coefs = one; constants = omega arith };
  two = record { coefs = two; constants = omega arith };
  large_column = λ h. let large = h.coefs 0 in omega (arith, large);
  large_constants = λ h. let large = h.constants in omega (arith, large);
}
  where
    one : (u : ℕ) → column_size (λ f. at f.coefs u) (line (pos (2 ^ 70 + 2 ^ 10)) (pos 0) ∷ []) ≤ column_limit
    one zero = omega arith
    one (suc u) = omega arith

    two : (u : ℕ) → column_size (λ f. at f.coefs u) (line (pos (2 ^ 70)) (pos 3) ∷ line (negsuc (2 ^ 10 - 1)) (negsuc 4) ∷ []) ≤ column_limit
    two zero = omega arith
    two (suc u) = omega arith

-- All worked values of this file hold.
pub sizes-are-worked-out : SizesAreWorkedOut
sizes-are-worked-out = record { limits = limits; columns = columns }
