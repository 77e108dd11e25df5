-- Positive parts of integers.
use Rattle.std.proofs.Common.{◌≡◌, ℕ, ◌+◌, ◌-◌, ◌*◌, ◌≤◌, refl, arith}
use Rattle.std.specs.Prelude.{ℤ, pos, negsuc, ◌+ℤ◌, ◌*ℤ◌, ◌≤ℤ◌}
use Rattle.std.proofs.lemmas.Int.{ints}
use Rattle.run_counting.specs.model.Spending.{or_zero}

-- an integer is at most its positive part
pub le-or_zero : (z : ℤ) → z ≤ℤ pos (or_zero z)
le-or_zero (pos n) = omega (arith, ints)
le-or_zero (negsuc n) = omega (arith, ints)

-- the positive part is at most each number that the integer is at most
pub or_zero-le : (z : ℤ) (n : ℕ) → z ≤ℤ pos n → or_zero z ≤ n
or_zero-le (pos m) n h = omega (arith, ints, h)
or_zero-le (negsuc m) n h = omega arith

-- the positive part grows with the integer
pub or_zero-mono : (y z : ℤ) → y ≤ℤ z → or_zero y ≤ or_zero z
or_zero-mono y z h = let above = le-or_zero z in or_zero-le y (or_zero z) (omega (arith, ints))

-- an integer of at least 0 is its positive part
pub or_zero-is : (z : ℤ) → pos 0 ≤ℤ z → z ≡ pos (or_zero z)
or_zero-is (pos n) h = refl
or_zero-is (negsuc n) h = absurd (omega (arith, ints, h))

-- if den times an integer is at most another, den times its positive part is at most the other's
pub or_zero-times : (den : ℕ) (a z : ℤ) → (pos den *ℤ a) ≤ℤ z → den * or_zero a ≤ or_zero z
or_zero-times den (pos n) z h = let above = le-or_zero z in omega (arith, ints, h, above)
or_zero-times den (negsuc n) z h = omega arith

-- the positive part of an integer that is at most a sum is at most the sum of the positive parts
pub or_zero-sum : (y a b : ℤ) → y ≤ℤ (a +ℤ b) → or_zero y ≤ or_zero a + or_zero b
or_zero-sum y a b h =
    let one = le-or_zero a in
    let two = le-or_zero b in
    or_zero-le y (or_zero a + or_zero b) (omega (arith, ints))

-- the positive part after a payment that the first part of a sum bears is at most the positive parts less the payment
pub or_zero-paid : (den : ℕ) (y amount a b : ℤ) → (y +ℤ pos den *ℤ amount) ≤ℤ (a +ℤ b) → (pos den *ℤ amount) ≤ℤ a
    → pos 0 ≤ℤ amount → den * or_zero amount + or_zero y ≤ or_zero a + or_zero b
or_zero-paid den y (pos n) a b falls floor positive =
    let one = le-or_zero a in
    let two = le-or_zero b in
    let least = or_zero-le y (or_zero a + or_zero b - den * n) (omega (arith, ints, falls, floor, one, two)) in
    let bears = or_zero-times den (pos n) a floor in
    omega (arith, least, bears)
or_zero-paid den y (negsuc n) a b falls floor positive = absurd (omega (arith, ints, positive))
