-- Sums, products and powers up to a limit: capping the operands changes nothing.
use Rattle.std.proofs.Common.{◌≡◌, ℕ, zero, suc, ◌+◌, ◌*◌, ◌^◌, ◌/◌, ◌%◌, ◌<◌, ◌≤◌, min, refl, ap, sym, ◌∙◌, inl, inr}
use Rattle.std.proofs.Common.{arith}
use Rattle.std.proofs.Math.Nat.{mul-le-mul, mul_assoc, pow-suc, pow-zero}
use Rattle.std.proofs.lemmas.Bool.{cases_lt}
use Rattle.std.proofs.lemmas.Nat.{pow-add}

-- products grow with their factors
pub le-mul : (a b c d : ℕ) → a ≤ c → b ≤ d → a * b ≤ c * d
le-mul a b c d = mul-le-mul

-- a capped factor on the right changes nothing
min-mul_right : (a b limit : ℕ) → min (a * min b limit) limit ≡ min (a * b) limit
min-mul_right zero b limit = omega arith
min-mul_right (suc a) b limit =
    elim (cases_lt limit b) [
      | inr h ↦ ap (λ (v : ℕ). min (suc a * v) limit) (let e : min b limit ≡ b = omega arith in e)
      | inl h ↦ omega (arith, le-mul 1 limit (suc a) (min b limit) (omega arith) (omega arith), le-mul 1 b (suc a) b (omega arith) (omega arith))
    ]

-- capped factors change nothing
pub min-mul : (a b limit : ℕ) → min (min a limit * min b limit) limit ≡ min (a * b) limit
min-mul a b limit =
    min-mul_right (min a limit) b limit
    ∙ ap (λ (v : ℕ). min v limit) (omega arith)
    ∙ min-mul_right b a limit
    ∙ ap (λ (v : ℕ). min v limit) (omega arith)

-- a power with exponent 0 is 1
pub power_zero : (c : ℕ) → c ^ 0 ≡ 1
power_zero c = pow-zero c

-- a base of at least 2 to a power is greater than the exponent
pub lt-pow : (c n : ℕ) → 2 ≤ c → n < c ^ n
lt-pow c zero h = omega (arith, power_zero c)
lt-pow c (suc n) h = omega (arith, pow-suc c n, le-mul (suc n) 2 (c ^ n) c (lt-pow c n h) h)

-- a base of at least 2 to a power above the limit is above the limit, too
min-pow_above : (c e limit : ℕ) → 2 ≤ c → limit < e → min (c ^ min e limit) limit ≡ min (c ^ e) limit
min-pow_above c e limit h above =
    let least : min e limit ≡ limit = omega arith in
    ap (λ (v : ℕ). min (c ^ v) limit) least ∙ omega (arith, lt-pow c limit h, lt-pow c e h)

-- a positive power of 0 is 0
zero-pow : (n : ℕ) → 0 < n → 0 ^ n ≡ 0
zero-pow zero h = absurd (omega arith)
zero-pow (suc n) h = pow-suc 0 n ∙ omega arith

-- every power of 1 is 1
one-pow : (n : ℕ) → 1 ^ n ≡ 1
one-pow zero = refl
one-pow (suc n) = pow-suc 1 n ∙ omega (arith, one-pow n)

-- a capped exponent changes nothing
pub min-pow : (c e limit : ℕ) → 0 < limit → min (c ^ min e limit) limit ≡ min (c ^ e) limit
min-pow c e limit p = elim (cases_lt limit e) [
  | inr h ↦ ap (λ (v : ℕ). min (c ^ v) limit) (let least : min e limit ≡ e = omega arith in least)
  | inl h ↦ above c h
]
  where
    above : (c : ℕ) → limit < e → min (c ^ min e limit) limit ≡ min (c ^ e) limit
    above zero h = ap (λ (v : ℕ). min v limit) (zero-pow (min e limit) (omega arith) ∙ sym (zero-pow e (omega arith)))
    above (suc zero) h = ap (λ (v : ℕ). min v limit) (one-pow (min e limit) ∙ sym (one-pow e))
    above (suc (suc c)) h = min-pow_above (suc (suc c)) e limit (omega arith) h

-- exponentiation by squaring: a power is the square of the power with half the exponent, times the base if the exponent
-- is odd
pub pow-halves : (c n : ℕ) → c ^ n ≡ c ^ (n % 2) * (c ^ (n / 2) * c ^ (n / 2))
pow-halves c n =
    ap (λ (v : ℕ). c ^ v) (let parts : n ≡ n % 2 + (n / 2 + n / 2) = omega arith in parts)
    ∙ pow-add c (n % 2) (n / 2 + n / 2)
    ∙ ap (λ (v : ℕ). c ^ (n % 2) * v) (pow-add c (n / 2) (n / 2))

-- a power with exponent 1 is its base
pub pow-one : (c : ℕ) → c ^ 1 ≡ c
pow-one c = pow-suc c 0 ∙ ap (λ (v : ℕ). v * c) (power_zero c) ∙ omega arith

-- a capped factor on the left changes nothing
pub min-mul_left : (a b limit : ℕ) → min (min a limit * b) limit ≡ min (a * b) limit
min-mul_left a b limit =
    ap (λ (v : ℕ). min v limit) (omega arith) ∙ min-mul_right b a limit ∙ ap (λ (v : ℕ). min v limit) (omega arith)

-- a capped base changes nothing
pub min-pow_base : (b n limit : ℕ) → min (min b limit ^ n) limit ≡ min (b ^ n) limit
min-pow_base b zero limit = ap (λ (v : ℕ). min v limit) (power_zero (min b limit) ∙ sym (power_zero b))
min-pow_base b (suc n) limit =
    ap (λ (v : ℕ). min v limit) (pow-suc (min b limit) n)
    ∙ min-mul_right (min b limit ^ n) b limit
    ∙ sym (min-mul_left (min b limit ^ n) b limit)
    ∙ ap (λ (v : ℕ). min (v * b) limit) (min-pow_base b n limit)
    ∙ min-mul_left (b ^ n) b limit
    ∙ ap (λ (v : ℕ). min v limit) (sym (pow-suc b n))

-- the power of a square is the square of the power
pub square-pow : (b n : ℕ) → (b * b) ^ n ≡ b ^ n * b ^ n
square-pow b zero = power_zero (b * b) ∙ sym (ap (λ (v : ℕ). v * v) (power_zero b))
square-pow b (suc n) =
    pow-suc (b * b) n ∙ ap (λ (v : ℕ). v * (b * b)) (square-pow b n)
    ∙ (omega arith ∙ sym (ap (λ (v : ℕ). v * v) (pow-suc b n)))

-- a turn of the loop of exponentiation by squaring keeps the outcome times the remaining power, up to the limit
pub min-pow_turn : (outcome square rest taken next limit : ℕ) → taken ≡ min (outcome * square ^ (rest % 2)) limit
    → next ≡ min (square * square) limit
    → min (taken * next ^ (rest / 2)) limit ≡ min (outcome * square ^ rest) limit
min-pow_turn outcome square rest taken next limit is_taken is_next =
    let a : ℕ = outcome * square ^ (rest % 2) in
    let k : ℕ = rest / 2 in
    ap (λ (v : ℕ). min (v * next ^ k) limit) is_taken
    ∙ min-mul_left a (next ^ k) limit
    ∙ sym (min-mul_right a (next ^ k) limit)
    ∙ ap (λ (v : ℕ). min (a * v) limit)
    (ap (λ (v : ℕ). min (v ^ k) limit) is_next ∙ min-pow_base (square * square) k limit)
    ∙ min-mul_right a ((square * square) ^ k) limit
    ∙ ap (λ (v : ℕ). min (a * v) limit) (square-pow square k)
    ∙ ap (λ (v : ℕ). min v limit) (mul_assoc outcome (square ^ (rest % 2)) (square ^ k * square ^ k))
    ∙ ap (λ (v : ℕ). min (outcome * v) limit) (sym (pow-halves square rest))
