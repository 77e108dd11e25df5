-- A fraction in lowest terms has no larger numbers than any other form of it.
use Rattle.std.proofs.Common.{◌≡◌, ◌≢◌, ℕ, ◌+◌, ◌*◌, ◌<◌, ◌≤◌, ap, arith, sym, ◌∙◌, ◌⊎◌, inl, inr}
use Rattle.std.specs.Prelude.{ℤ, pos, unsigned_abs, ◌-ℤ◌, ◌*ℤ◌, ◌<ℤ◌}
use Rattle.std.proofs.Math.Nat.{le_of_dvd, mul-le-mul_left, mul-le-mul_right}
use Rattle.std.proofs.lemmas.Nat.{mul-lt}
use Rattle.std.proofs.lemmas.Int.{ints, unsigned_abs-mul}
use Rattle.std.proofs.lemmas.Bool.{cases_lt}
use Rattle.frac128.specs.Lowest.{IsLowest}
use Rattle.frac128.proofs.Uniqueness.{divides_other as denominator-divides}

-- the numbers in lowest terms are no larger than those of another form
pub lowest-least : (n d over under : ℤ) → IsLowest n d → under ≢ pos 0 → n *ℤ under ≡ over *ℤ d
    → (unsigned_abs n ≤ unsigned_abs over) × (unsigned_abs d ≤ unsigned_abs under)
lowest-least n d over under lowest apart same =
    (numerator (cases_lt (unsigned_abs over) (unsigned_abs n)), den)
  where
    positive : 0 < unsigned_abs under
    positive = omega (arith, ints, apart)

    den : unsigned_abs d ≤ unsigned_abs under
    den = le_of_dvd positive (denominator-divides n d over under lowest same)

    sizes : unsigned_abs n * unsigned_abs under ≡ unsigned_abs over * unsigned_abs d
    sizes = sym (unsigned_abs-mul n under) ∙ (ap unsigned_abs same ∙ unsigned_abs-mul over d)

    numerator : (unsigned_abs over < unsigned_abs n) ⊎ (unsigned_abs n ≤ unsigned_abs over) → unsigned_abs n ≤ unsigned_abs over
    numerator (inr l) = l
    numerator (inl l) = absurd (clash (unsigned_abs n) (unsigned_abs over) (unsigned_abs d) (unsigned_abs under) l den positive sizes)
      where
        clash : (n o d u : ℕ) → o < n → d ≤ u → 0 < u → n * u ≡ o * d → ⊥
        clash n o d u l m p e =
            let one = mul-le-mul_left o m in
            let two = mul-le-mul_right u l in
            omega (arith, e, one, two)

-- the size of a product
pub product-below : (a b : ℤ) (m n : ℕ) → unsigned_abs a < m → unsigned_abs b < n → unsigned_abs (a *ℤ b) < m * n
product-below a b m n l k = let e = unsigned_abs-mul a b in let p = mul-lt _ _ m n l k in omega (arith, e, p)

-- the size of a difference
pub difference-below : (a b : ℤ) (m n : ℕ) → unsigned_abs a < m → unsigned_abs b < n → unsigned_abs (a -ℤ b) < m + n
difference-below a b m n l k = omega (arith, ints, l, k)

-- a fraction in lowest terms is below a limit if another form of it is
pub fraction-below : (n d over under : ℤ) (limit : ℕ) → IsLowest n d → pos 0 <ℤ under → n *ℤ under ≡ over *ℤ d
    → unsigned_abs over < limit → unsigned_abs under < limit → (unsigned_abs n < limit) × (unsigned_abs d < limit)
fraction-below n d over under limit lowest positive same l k =
    let least = lowest-least n d over under lowest (omega (arith, ints, positive)) same in
    (omega (arith, least.0, l), omega (arith, least.1, k))
