-- Fractions with the same numerator and denominator are identical.
use Rattle.std.proofs.Common.{◌≡◌, arith, sym, ◌∙◌, subst}
use Rattle.std.specs.Prelude.{ℤ, pos, ◌<ℤ◌, unsigned_abs}
use Rattle.std.specs.Int.{◌∣◌}
use Rattle.std.proofs.Math.Nat.{dvd_refl, dvd-zero}
use Rattle.std.proofs.lemmas.Int.{ints}
use Rattle.frac128.specs.Zero.{zero, zero-num, zero-den}
use Rattle.std.proofs.Props.{props}
use mathlib.Core.HLevel.{is_prop→PathP}
use Rattle.frac128.specs.declared.frac.Frac.{Frac}
use Rattle.frac128.specs.Narrow.{IsNarrow}
use Rattle.frac128.specs.Lowest.{IsLowest}

-- any two proofs that a number is within the limit are equal
narrow_prop : (z : ℤ) → IsProp (IsNarrow z)
narrow_prop z = hlevel props

-- any two proofs that a number is above 0 are equal
positive_prop : (z : ℤ) → IsProp (pos 0 <ℤ z)
positive_prop z = hlevel props

-- any two proofs that two numbers are in lowest terms are equal
lowest_prop : (n d : ℤ) → IsProp (IsLowest n d)
lowest_prop n d = hlevel props

-- fractions with the same numerator and denominator are identical
pub same_frac : (f g : Frac) → f.num ≡ g.num → f.den ≡ g.den → f ≡ g
same_frac f g n d =
    λ i. record {
      num = n i;
      den = d i;
      narrow = is_prop→PathP (λ j. IsNarrow (n j)) (λ j. narrow_prop (n j)) f.narrow g.narrow i;
      positive = is_prop→PathP (λ j. pos 0 <ℤ d j) (λ j. positive_prop (d j)) f.positive g.positive i;
      lowest = is_prop→PathP (λ j. IsLowest (n j) (d j)) (λ j. lowest_prop (n j) (d j)) f.lowest g.lowest i;
    }

-- a fraction with the numerator 0 is the fraction 0
pub same_zero : (f : Frac) → f.num ≡ pos 0 → f ≡ zero
same_zero f e = same_frac f zero (e ∙ sym zero-num) (one (f.lowest (unsigned_abs f.den) divides (dvd_refl (unsigned_abs f.den))) f.positive ∙ sym zero-den)
  where
    divides : unsigned_abs f.den ∣ unsigned_abs f.num
    divides = subst (λ (z : ℤ). unsigned_abs f.den ∣ unsigned_abs z) (sym e) (dvd-zero (unsigned_abs f.den))

    one : unsigned_abs f.den ≡ 1 → pos 0 <ℤ f.den → f.den ≡ pos 1
    one u p = omega (arith, ints)
