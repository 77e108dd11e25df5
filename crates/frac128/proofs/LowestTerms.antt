-- Dividing by the greatest common divisor gives lowest terms, with the same cross products.
use Rattle.std.proofs.Common.{◌≡◌, ◌≢◌, ℕ, ◌<◌, ◌≤◌, refl, sym, ◌∙◌, ap, subst, arith}
use Rattle.std.specs.Int.{IsGcd, ◌∣◌}
use Rattle.std.specs.Prelude.{zero, suc, ℤ, pos, negsuc, unsigned_abs, ◌<ℤ◌, ◌+ℤ◌, ◌*ℤ◌, int_div, int_rem}
use Rattle.std.proofs.Math.Nat.{eq-one_of_dvd-one, pos_of_dvd_of_pos, dvd_refl, dvd-zero, mod-eq-zero_of_dvd}
use Rattle.std.proofs.Math.Nat.{mul-le-mul_left, le_of_dvd}
use Rattle.std.proofs.lemmas.Int.{ints, quot-rem, unsigned_abs-mul}
use Rattle.std.specs.Prelude.{◌-ℤ◌, [], ◌∷◌}
use Rattle.int_laws.specs.Polynomial.{variable, constant, ◌⊖◌, ◌⊗◌}
use Rattle.int_laws.proofs.Identities.{identity}
use Rattle.int_laws.proofs.OrderLaws.{mul-positive_ℤ}
use Rattle.int_laws.proofs.LeastMultiples.{quotients_apart}
use Rattle.int_laws.proofs.RingLaws.{mul_assoc_ℤ, mul_comm_ℤ}
use Rattle.frac128.specs.Lowest.{IsLowest}
use Rattle.frac128.specs.Narrow.{IsNarrow}

-- a number that isn't 0 has an absolute value above 0
pub size-positive : (z : ℤ) → z ≢ pos 0 → 0 < unsigned_abs z
size-positive z h = omega (arith, ints, h)

-- the remainder by a divisor is 0
pub remainder-zero : (a d : ℤ) → unsigned_abs d ∣ unsigned_abs a → int_rem a d ≡ pos 0
remainder-zero (pos a) (pos d) h = ap pos (mod-eq-zero_of_dvd d h)
remainder-zero (pos a) (negsuc d) h = ap pos (mod-eq-zero_of_dvd (suc d) h)
remainder-zero (negsuc a) (pos d) h = let e = mod-eq-zero_of_dvd d h in omega (arith, ints)
remainder-zero (negsuc a) (negsuc d) h = let e = mod-eq-zero_of_dvd (suc d) h in omega (arith, ints)

-- the quotient by a divisor, times the divisor, is the number
pub quotient-times : (a d : ℤ) → unsigned_abs d ∣ unsigned_abs a → int_div a d *ℤ d ≡ a
quotient-times a d h = from_sum _ _ a (quot-rem a d) (remainder-zero a d h)
  where
    from_sum : (p r a : ℤ) → p +ℤ r ≡ a → r ≡ pos 0 → p ≡ a
    from_sum p r a e f = omega (arith, ints)

-- the greatest common divisor of equal numbers
pub IsGcd-same : (a b g a' b' g' : ℕ) → a ≡ a' → b ≡ b' → g ≡ g' → IsGcd a b g → IsGcd a' b' g'
IsGcd-same a b g a' b' g' ea eb eg h =
    subst (λ (n : ℕ). IsGcd a' b' n) eg (subst (λ (n : ℕ). IsGcd a' n g) eb (subst (λ (n : ℕ). IsGcd n b g) ea h))

-- the greatest common divisor is at least 1, and at most each number that isn't 0
pub IsGcd-bounds : (a b g : ℕ) → IsGcd a b g → 0 < b → (0 < g) × (g ≤ b)
IsGcd-bounds a b g h positive = (pos_of_dvd_of_pos h.1 positive, le_of_dvd positive h.1)

-- the quotients of two numbers by their greatest common divisor have no common divisor but 1
pub quotients_are_lowest : (a b g n d : ℤ) → IsGcd (unsigned_abs a) (unsigned_abs b) (unsigned_abs g) → g ≢ pos 0
    → n *ℤ g ≡ a → d *ℤ g ≡ b → IsLowest n d
quotients_are_lowest a b g n d gcd nonzero of_a of_b =
    quotients_apart (unsigned_abs a) (unsigned_abs b) (unsigned_abs g) (unsigned_abs n) (unsigned_abs d) (size-positive g nonzero) gcd
    (sym (unsigned_abs-mul n g) ∙ ap unsigned_abs of_a) (sym (unsigned_abs-mul d g) ∙ ap unsigned_abs of_b)

-- a quotient is at most the number in absolute value
pub quotient-narrow : (a g n : ℤ) → g ≢ pos 0 → n *ℤ g ≡ a → IsNarrow a → IsNarrow n
quotient-narrow a g n nonzero of_a narrow =
    let size = size-positive g nonzero in
    let e = sym (unsigned_abs-mul n g) ∙ ap unsigned_abs of_a in
    let m = mul-le-mul_left (unsigned_abs n) size in
    omega (arith, m, e)

-- if a number times a square is above 0, the number is above 0
square_factor-positive : (d g : ℤ) → pos 0 <ℤ (d *ℤ (g *ℤ g)) → pos 0 <ℤ d
square_factor-positive (pos zero) (pos g) h = absurd (omega (arith, ints, h))
square_factor-positive (pos zero) (negsuc g) h = absurd (omega (arith, ints, h))
square_factor-positive (pos (suc d)) g h = omega (arith, ints)
square_factor-positive (negsuc d) (pos g) h = absurd (omega (arith, ints, h))
square_factor-positive (negsuc d) (negsuc g) h = absurd (omega (arith, ints, h))

-- the quotient of two numbers with the same sign is above 0
pub quotient-positive : (b g d : ℤ) → d *ℤ g ≡ b → pos 0 <ℤ (b *ℤ g) → pos 0 <ℤ d
quotient-positive b g d e h =
    square_factor-positive d g (subst (λ (z : ℤ). pos 0 <ℤ z) (ap (λ (z : ℤ). z *ℤ g) (sym e) ∙ mul_assoc_ℤ d g g) h)

-- a number below 0 times the negation of a number above 0 is above 0
pub negated_product-positive : (b g : ℤ) → b <ℤ pos 0 → pos 0 <ℤ g → pos 0 <ℤ (b *ℤ (pos 0 -ℤ g))
negated_product-positive b g below above =
    let p = mul-positive_ℤ (pos 0 -ℤ b) g (omega (arith, ints)) above in
    subst (λ (z : ℤ). pos 0 <ℤ z) (identity (b ∷ g ∷ []) ((constant (pos 0) ⊖ variable 0) ⊗ variable 1) (variable 0 ⊗ (constant (pos 0) ⊖ variable 1)) refl) p

-- dividing two numbers by a common divisor doesn't change their cross products
pub quotients-cross : (a b g n d : ℤ) → n *ℤ g ≡ a → d *ℤ g ≡ b → n *ℤ b ≡ a *ℤ d
quotients-cross a b g n d of_a of_b =
    ap (λ (z : ℤ). n *ℤ z) (sym of_b ∙ mul_comm_ℤ d g) ∙ (sym (mul_assoc_ℤ n g d) ∙ ap (λ (z : ℤ). z *ℤ d) of_a)

-- if the product of two numbers is above 0, neither is 0
pub factor_apart : (b g : ℤ) → pos 0 <ℤ (b *ℤ g) → g ≢ pos 0
factor_apart b g h e = let p = ap (λ (z : ℤ). b *ℤ z) e in omega (arith, ints)

-- a fraction in lowest terms with the numerator 0 has the denominator 1
pub zero_is_whole : (num den : ℤ) → IsLowest num den → pos 0 <ℤ den → num ≡ pos 0 → den ≡ pos 1
zero_is_whole num den lowest positive is_zero =
    from_size den positive (lowest (unsigned_abs den) (subst (λ (n : ℤ). unsigned_abs den ∣ unsigned_abs n) (sym is_zero) (dvd-zero (unsigned_abs den))) (dvd_refl (unsigned_abs den)))
  where
    from_size : (d : ℤ) → pos 0 <ℤ d → unsigned_abs d ≡ 1 → d ≡ pos 1
    from_size d h e = omega (arith, ints)

-- an integer is in lowest terms
pub whole_is_lowest : (num : ℤ) → IsLowest num (pos 1)
whole_is_lowest num k divides_num divides_one = eq-one_of_dvd-one divides_one
