-- The least common multiple, in terms of the greatest common divisor.
use Rattle.std.proofs.Common.{mul_comm, ◌≡◌, ℕ, ◌*◌, ◌+◌, ◌<◌, ◌≤◌, ap, arith, sym, ◌∙◌, subst, ◌/◌}
use Rattle.std.specs.Int.{IsGcd, ◌∣◌}
use Rattle.std.proofs.Math.Nat.{dvd-mul_left, dvd-mul_right, div-mul_cancel, mul-dvd-mul_right, mul-dvd-mul_left}
use Rattle.std.proofs.Math.Nat.{dvd_of_mul-dvd-mul_right, eq-one_of_dvd-one, pos_of_dvd_of_pos, dvd_antisymm, one-mul}
use Rattle.std.proofs.Math.Nat.{le_of_dvd, lt-div-mul-add, mul-div_cancel_left, mul-le-mul_right}
use Rattle.int_laws.specs.Divisors.{IsLeastCommonMultiple, HasNoneWithin}
use Rattle.int_laws.proofs.Coprime.{euclid}

-- a greatest common divisor of numbers above 0 is above 0
pub gcd-positive : (a b g : ℕ) → IsGcd a b g → 0 < b → 0 < g
gcd-positive a b g h positive = pos_of_dvd_of_pos h.1 positive

-- the quotients of two numbers by their greatest common divisor have no common divisor but 1
pub quotients_apart : (a b g x y : ℕ) → 0 < g → IsGcd a b g → x * g ≡ a → y * g ≡ b → (k : ℕ) → k ∣ x → k ∣ y → k ≡ 1
quotients_apart a b g x y positive gcd of_a of_b k divides_x divides_y =
    let in_a = subst (λ (m : ℕ). k * g ∣ m) of_a (mul-dvd-mul_right k divides_x g) in
    let in_b = subst (λ (m : ℕ). k * g ∣ m) of_b (mul-dvd-mul_right k divides_y g) in
    let in_g = subst (λ (m : ℕ). k * g ∣ m) (sym (one-mul g)) (gcd.2 (k * g) in_a in_b) in
    eq-one_of_dvd-one (dvd_of_mul-dvd-mul_right k positive in_g)

-- a number times the quotient of another by their greatest common divisor is their least common multiple
pub least-multiple : (a b g y : ℕ) → 0 < a → 0 < b → IsGcd a b g → y * g ≡ b → IsLeastCommonMultiple a b (a * y)
least-multiple a b g y over_a over_b gcd of_b = record {
  first = dvd-mul_right a y;
  second = subst (λ (m : ℕ). b ∣ m) (turned x y a b of_a of_b) (dvd-mul_left b x);
  least = λ n da db. subst (λ (m : ℕ). a * y ∣ m) (mul_comm a (n / a) ∙ div-mul_cancel a da) (mul-dvd-mul_left y a (rest n da db));
}
  where
    x : ℕ
    x = a / g

    of_a : x * g ≡ a
    of_a = div-mul_cancel g gcd.0

    positive : 0 < g
    positive = gcd-positive a b g gcd over_b

    turned : (w y a b : ℕ) → w * g ≡ a → y * g ≡ b → w * b ≡ a * y
    turned w y a b e f = ap (λ (m : ℕ). w * m) (sym f) ∙ (swap w y g ∙ ap (λ (m : ℕ). m * y) e)
      where
        swap : (w y g : ℕ) → w * (y * g) ≡ (w * g) * y
        swap w y g = omega arith

    regroup : (n m : ℕ) → m * a ≡ n → n ≡ (m * x) * g
    regroup n m e = sym e ∙ (ap (λ (k : ℕ). m * k) (sym of_a) ∙ assoc m x g)
      where
        assoc : (m w g : ℕ) → m * (w * g) ≡ (m * w) * g
        assoc m w g = omega arith

    rest : (n : ℕ) → a ∣ n → b ∣ n → y ∣ n / a
    rest n da db =
        euclid x (n / a) y (quotients_apart a b g x y positive gcd of_a of_b)
        (dvd_of_mul-dvd-mul_right y positive
        (subst (λ (m : ℕ). m ∣ ((n / a) * x) * g) (sym of_b) (subst (λ (m : ℕ). b ∣ m) (regroup n (n / a) (div-mul_cancel a da)) db)))

-- the quotient of the product of two numbers by their greatest common divisor is their least common multiple
pub product-multiple : (a b g m : ℕ) → 0 < a → 0 < b → IsGcd a b g → g * m ≡ a * b → IsLeastCommonMultiple a b m
product-multiple a b g m over_a over_b gcd e =
    subst (λ (n : ℕ). IsLeastCommonMultiple a b n) (cancelled (b / g) (div-mul_cancel g gcd.1)) (least-multiple a b g (b / g) over_a over_b gcd (div-mul_cancel g gcd.1))
  where
    cancelled : (y : ℕ) → y * g ≡ b → a * y ≡ m
    cancelled y of_b = cancel (a * y) m (gcd-positive a b g gcd over_b) (swap g a y ∙ (ap (λ (n : ℕ). a * n) of_b ∙ sym e))
      where
        cancel : (v w : ℕ) → 0 < g → g * v ≡ g * w → v ≡ w
        cancel v w l e = sym (mul-div_cancel_left v l) ∙ (ap (λ (n : ℕ). n / g) e ∙ mul-div_cancel_left w l)

        swap : (g a y : ℕ) → g * (a * y) ≡ a * (y * g)
        swap g a y = omega arith

-- two least common multiples of the same numbers are equal
pub multiple-one : (a b m n : ℕ) → IsLeastCommonMultiple a b m → IsLeastCommonMultiple a b n → m ≡ n
multiple-one a b m n h k = dvd_antisymm (h.least n k.first k.second) (k.least m h.first h.second)

-- if the least common multiple is over a limit, no common multiple is within it
pub none-within : (a b g y limit : ℕ) → 0 < a → 0 < b → IsGcd a b g → y * g ≡ b → limit / a < y → HasNoneWithin a b limit
none-within a b g y limit over_a over_b gcd of_b passes = record {
  each = λ n positive da db. above n (le_of_dvd positive ((least-multiple a b g y over_a over_b gcd of_b).least n da db));
}
  where
    more : limit < limit / a * a + a
    more = lt-div-mul-add over_a

    step : (limit / a) * a + a ≤ y * a
    step = let l : limit / a + 1 ≤ y = omega arith in let k = mul-le-mul_right a l in omega (arith, k)

    above : (n : ℕ) → a * y ≤ n → limit < n
    above n l = let m = more in let k = step in omega (arith, l, m, k)
