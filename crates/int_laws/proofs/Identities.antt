-- Polynomial identities, decided by coefficients, also modulo known equations.
use Rattle.std.proofs.Common.{◌≡◌, ap, arith, refl, sym, ◌∙◌, List, true}
use Rattle.std.specs.Prelude.{ℤ, pos, negsuc, ◌+ℤ◌, ◌-ℤ◌, ◌*ℤ◌, neg_ℤ}
use Rattle.std.proofs.lemmas.Int.{ints}
use Rattle.int_laws.specs.Polynomial.{Polynomial, variable, constant, ◌⊕◌, ◌⊖◌, ◌⊗◌, negated, value}
use Rattle.int_laws.specs.NormalForm.{horner_value, horner_of, number_times, is_identity}
use Rattle.int_laws.proofs.HornerValues.{horner_variable-value, horner_sum-value, number_times-value}
use Rattle.int_laws.proofs.HornerValues.{horner_product-value, horner_zero-value}

-- Horner's form of a polynomial has the polynomial's value
pub horner_of-value : (p : Polynomial) (xs : List ℤ) → horner_value (horner_of p) xs ≡ value p xs
horner_of-value (variable i) xs = horner_variable-value i xs
horner_of-value (constant z) xs = refl
horner_of-value (p ⊕ q) xs =
    regroup _ _ _ _ _ (horner_sum-value (horner_of p) (horner_of q) xs) (horner_of-value p xs) (horner_of-value q xs)
  where
    regroup : (s v w p q : ℤ) → s ≡ v +ℤ w → v ≡ p → w ≡ q → s ≡ p +ℤ q
    regroup s v w p q d e f = omega (arith, ints)
horner_of-value (p ⊖ q) xs =
    regroup _ _ _ _ _ _ (horner_sum-value (horner_of p) (number_times (negsuc 0) (horner_of q)) xs) (number_times-value (negsuc 0) (horner_of q) xs) (horner_of-value p xs) (horner_of-value q xs)
  where
    regroup : (s v u w p q : ℤ) → s ≡ v +ℤ u → u ≡ negsuc 0 *ℤ w → v ≡ p → w ≡ q → s ≡ p -ℤ q
    regroup s v u w p q d m e f = omega (arith, ints)
horner_of-value (p ⊗ q) xs =
    regroup _ _ _ _ _ (horner_product-value (horner_of p) (horner_of q) xs) (horner_of-value p xs) (horner_of-value q xs)
  where
    regroup : (s v w p q : ℤ) → s ≡ v *ℤ w → v ≡ p → w ≡ q → s ≡ p *ℤ q
    regroup s v w p q d e f = d ∙ (ap (λ (z : ℤ). z *ℤ w) e ∙ ap (λ (z : ℤ). p *ℤ z) f)
horner_of-value (negated p) xs =
    regroup _ _ _ (number_times-value (negsuc 0) (horner_of p) xs) (horner_of-value p xs)
  where
    regroup : (s v p : ℤ) → s ≡ negsuc 0 *ℤ v → v ≡ p → s ≡ neg_ℤ p
    regroup s v p d e = omega (arith, ints)

-- two polynomials with the same coefficients have the same value
pub identity : (xs : List ℤ) (p q : Polynomial) → is_identity p q ≡ true → value p xs ≡ value q xs
identity xs p q h = from_difference _ _ (sym (horner_of-value (p ⊖ q) xs) ∙ horner_zero-value (horner_of (p ⊖ q)) xs h)
  where
    from_difference : (a b : ℤ) → a -ℤ b ≡ pos 0 → a ≡ b
    from_difference a b e = omega (arith, ints)

-- if p - q has the coefficients of k * (l - r), and l and r have the same value, so have p and q
pub identity_by_one : (xs : List ℤ) (p q k l r : Polynomial) → value l xs ≡ value r xs
    → is_identity (p ⊕ k ⊗ r) (q ⊕ k ⊗ l) ≡ true → value p xs ≡ value q xs
identity_by_one xs p q k l r e h =
    from_sums _ _ _ _ _ (identity xs (p ⊕ k ⊗ r) (q ⊕ k ⊗ l) h) e
  where
    from_sums : (p q k l r : ℤ) → p +ℤ k *ℤ r ≡ q +ℤ k *ℤ l → l ≡ r → p ≡ q
    from_sums p q k l r d e = omega (arith, ints, d, ap (λ (z : ℤ). k *ℤ z) e)

-- if p - q has the coefficients of k * (l - r) + k' * (l' - r'), and both equations hold, p and q have the same value
pub identity_by_two : (xs : List ℤ) (p q k l r k' l' r' : Polynomial) → value l xs ≡ value r xs → value l' xs ≡ value r' xs
    → is_identity (p ⊕ k ⊗ r ⊕ k' ⊗ r') (q ⊕ k ⊗ l ⊕ k' ⊗ l') ≡ true → value p xs ≡ value q xs
identity_by_two xs p q k l r k' l' r' e e' h =
    from_sums _ _ _ _ _ _ _ _ (identity xs (p ⊕ k ⊗ r ⊕ k' ⊗ r') (q ⊕ k ⊗ l ⊕ k' ⊗ l') h) e e'
  where
    from_sums : (p q k l r k' l' r' : ℤ) → p +ℤ k *ℤ r +ℤ k' *ℤ r' ≡ q +ℤ k *ℤ l +ℤ k' *ℤ l' → l ≡ r → l' ≡ r' → p ≡ q
    from_sums p q k l r k' l' r' d e e' = omega (arith, ints, d, ap (λ (z : ℤ). k *ℤ z) e, ap (λ (z : ℤ). k' *ℤ z) e')
