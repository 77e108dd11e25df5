-- Numbers without a common divisor, and Euclid's lemma.
use Rattle.std.proofs.Common.{◌≡◌, ℕ, ◌*◌, ◌+◌, ◌-◌, ◌<◌, ◌≤◌, ◌⊎◌, inl, inr, zero, suc, ◌∙◌, ap, subst, arith}
use Rattle.std.specs.Int.{◌∣◌}
use Rattle.std.proofs.lemmas.Bool.{cases_lt}
use Rattle.std.proofs.Math.Nat.{dvd_refl, dvd-zero, dvd-add, dvd-sub, dvd-mul_left, mul-one}

-- a common divisor of c * a and c * b divides c, if a and b have no common divisor but 1; `most` is at least a + b
scaled : (most a b c d : ℕ) → a + b ≤ most → ((k : ℕ) → k ∣ a → k ∣ b → k ≡ 1) → d ∣ c * a → d ∣ c * b → d ∣ c
scaled most zero b c d small apart da db =
    subst (λ (n : ℕ). d ∣ n) (ap (λ (n : ℕ). c * n) (apart b (dvd-zero b) (dvd_refl b)) ∙ mul-one c) db
scaled most (suc a) zero c d small apart da db =
    subst (λ (n : ℕ). d ∣ n) (ap (λ (n : ℕ). c * n) (apart (suc a) (dvd_refl (suc a)) (dvd-zero (suc a))) ∙ mul-one c) da
scaled zero (suc a) (suc b) c d small apart da db = absurd (omega arith)
scaled (suc most) (suc a) (suc b) c d small apart da db =
    go (cases_lt a b) (λ x y s h v w. scaled most x y c d s h v w)
  where
    times_less : (x y : ℕ) → x ≤ y → c * y - c * x ≡ c * (y - x)
    times_less x y l = omega (arith, ap (λ (n : ℕ). c * n) (whole x y l))
      where
        whole : (x y : ℕ) → x ≤ y → (y - x) + x ≡ y
        whole x y l = omega arith

    less : (k x y : ℕ) → x ≤ y → k ∣ x → k ∣ y - x → k ∣ y
    less k x y l dx dr = subst (λ (n : ℕ). k ∣ n) (whole x y l) (dvd-add k dr dx)
      where
        whole : (x y : ℕ) → x ≤ y → (y - x) + x ≡ y
        whole x y l = omega arith

    go : (a < b) ⊎ (b ≤ a)
        → ((x y : ℕ) → x + y ≤ most → ((k : ℕ) → k ∣ x → k ∣ y → k ≡ 1) → d ∣ c * x → d ∣ c * y → d ∣ c)
        → d ∣ c
    go (inl l) ih =
        ih (suc a) (suc b - suc a) (omega arith) (λ k dx dr. apart k dx (less k (suc a) (suc b) (omega arith) dx dr)) da
        (subst (λ (n : ℕ). d ∣ n) (times_less (suc a) (suc b) (omega arith)) (dvd-sub d db da))
    go (inr l) ih =
        ih (suc a - suc b) (suc b) (omega arith) (λ k dr dy. apart k (less k (suc b) (suc a) (omega arith) dy dr) dy)
        (subst (λ (n : ℕ). d ∣ n) (times_less (suc b) (suc a) (omega arith)) (dvd-sub d da db)) db

-- Euclid's lemma: a divisor of c * a that has no common divisor with a but 1 divides c
pub euclid : (a c d : ℕ) → ((k : ℕ) → k ∣ a → k ∣ d → k ≡ 1) → d ∣ c * a → d ∣ c
euclid a c d apart divides = scaled (a + d) a d c d (omega arith) apart divides (dvd-mul_left d c)
