-- The worked values hold.
use Rattle.std.proofs.Common.{◌≡◌, ◌<◌, ◌≤◌, ℕ, true, false, nat_le, refl, arith}
use Rattle.std.proofs.lemmas.Bool.{leb-true, leb-false}
use Rattle.signed_values.specs.Worked.{StartsAreWorkedOut, BoundsAreComparedAtThem}

pub starts : StartsAreWorkedOut
starts = record {
  none = refl;
  one = refl;
  three = refl;
}

-- comparisons of numbers that compute
le : (n m : ℕ) → nat_le n m ≡ true → n ≤ m
le n m e = leb-true n m e

not-le : (n m : ℕ) → nat_le n m ≡ false → n ≤ m → ⊥
not-le n m e h = let less : m < n = leb-false n m e in omega arith

pub compared : BoundsAreComparedAtThem
compared = record {
  positive = (le _ _ refl, (le _ _ refl, (le _ _ refl, (le _ _ refl, (le _ _ refl, (le _ _ refl, tt))))));
  negative = λ h. not-le _ _ refl h.1.1.1.0;
  first = λ h. not-le _ _ refl h.1.1.0;
  second = λ h. not-le _ _ refl h.1.1.1.1.0;
  minimum = (le _ _ refl, (le _ _ refl, (le _ _ refl, (le _ _ refl, (le _ _ refl, (le _ _ refl, tt))))));
  other_minimum = (le _ _ refl, (le _ _ refl, (le _ _ refl, (le _ _ refl, (le _ _ refl, (le _ _ refl, tt))))));
  equal = (le _ _ refl, (le _ _ refl, (le _ _ refl, (le _ _ refl, (le _ _ refl, (le _ _ refl, tt))))));
  one_more = λ h. not-le _ _ refl h.0;
  at_negative = λ h. not-le _ _ refl h.1.1.1.0;
}
