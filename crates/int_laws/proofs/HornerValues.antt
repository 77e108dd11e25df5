-- The values of the results of operations on Horner's forms.
use Rattle.std.proofs.Common.{◌≡◌, ℕ, zero, suc, ap, arith, refl, List, Bool, true, false}
use Rattle.std.specs.Prelude.{ℤ, pos, negsuc, ◌+ℤ◌, ◌*ℤ◌, ◌&&◌}
use Rattle.std.proofs.lemmas.Int.{ints}
use Rattle.int_laws.proofs.RingLaws.{add-mul_ℤ, mul-add_ℤ, mul_assoc_ℤ, mul_comm_ℤ}
use Rattle.int_laws.specs.Polynomial.{first_value, other_values, value_of_variable}
use Rattle.int_laws.specs.NormalForm.{Horner, number, nested, horner_value, horner_variable, number_plus, horner_sum}
use Rattle.int_laws.specs.NormalForm.{number_times, times_each, horner_product, is_zero, is_horner_zero}

-- the form of a variable has the variable's value
pub horner_variable-value : (i : ℕ) (xs : List ℤ) → horner_value (horner_variable i) xs ≡ value_of_variable i xs
horner_variable-value zero xs = from_one (first_value xs)
  where
    from_one : (x : ℤ) → pos 0 +ℤ x *ℤ pos 1 ≡ x
    from_one x = omega (arith, ints)
horner_variable-value (suc i) xs = from_zero (first_value xs) _ _ (horner_variable-value i (other_values xs))
  where
    from_zero : (x v w : ℤ) → v ≡ w → v +ℤ x *ℤ pos 0 ≡ w
    from_zero x v w e = omega (arith, ints)

-- a number added to a form has the value of the sum
pub number_plus-value : (a : ℤ) (p : Horner) (xs : List ℤ) → horner_value (number_plus a p) xs ≡ a +ℤ horner_value p xs
number_plus-value a (number b) xs = refl
number_plus-value a (nested p q) xs = regroup a _ _ (first_value xs *ℤ horner_value q xs) (number_plus-value a p (other_values xs))
  where
    regroup : (a v w y : ℤ) → v ≡ a +ℤ w → v +ℤ y ≡ a +ℤ (w +ℤ y)
    regroup a v w y e = omega (arith, ints)

-- a sum of forms has the sum of their values
pub horner_sum-value : (p q : Horner) (xs : List ℤ) → horner_value (horner_sum p q) xs ≡ horner_value p xs +ℤ horner_value q xs
horner_sum-value (number a) q xs = number_plus-value a q xs
horner_sum-value (nested p q) (number b) xs = regroup b _ _ (first_value xs *ℤ horner_value q xs) (number_plus-value b p (other_values xs))
  where
    regroup : (b v w y : ℤ) → v ≡ b +ℤ w → v +ℤ y ≡ (w +ℤ y) +ℤ b
    regroup b v w y e = omega (arith, ints)
horner_sum-value (nested p q) (nested r s) xs =
    regroup (first_value xs) _ _ _ _ _ _ (horner_sum-value p r (other_values xs)) (horner_sum-value q s xs)
  where
    regroup : (x v w p q r s : ℤ) → v ≡ p +ℤ r → w ≡ q +ℤ s → v +ℤ x *ℤ w ≡ (p +ℤ x *ℤ q) +ℤ (r +ℤ x *ℤ s)
    regroup x v w p q r s e f = omega (arith, ints, ap (λ (z : ℤ). x *ℤ z) f, mul-add_ℤ x q s)

-- a form multiplied by a number has the value of the product
pub number_times-value : (a : ℤ) (p : Horner) (xs : List ℤ) → horner_value (number_times a p) xs ≡ a *ℤ horner_value p xs
number_times-value a (number b) xs = refl
number_times-value a (nested p q) xs =
    regroup a (first_value xs) _ _ _ _ (number_times-value a p (other_values xs)) (number_times-value a q xs)
  where
    regroup : (a x v w p q : ℤ) → v ≡ a *ℤ p → w ≡ a *ℤ q → v +ℤ x *ℤ w ≡ a *ℤ (p +ℤ x *ℤ q)
    regroup a x v w p q e f =
        omega (arith, ints, ap (λ (z : ℤ). x *ℤ z) f, mul-add_ℤ a p (x *ℤ q), mul_assoc_ℤ x a q, mul_assoc_ℤ a x q, ap (λ (z : ℤ). z *ℤ q) (mul_comm_ℤ x a))

-- the product of a form without the first variable and any form has the product of their values
pub times_each-value : (f : Horner → Horner) (p : Horner)
    → ((r : Horner) (xs : List ℤ) → horner_value (f r) xs ≡ horner_value p xs *ℤ horner_value r xs)
    → (r : Horner) (xs : List ℤ) → horner_value (times_each f r) xs ≡ horner_value p (other_values xs) *ℤ horner_value r xs
times_each-value f p h (number b) xs = regroup (first_value xs) _ _ (h (number b) (other_values xs))
  where
    regroup : (x v w : ℤ) → v ≡ w → v +ℤ x *ℤ pos 0 ≡ w
    regroup x v w e = omega (arith, ints)
times_each-value f p h (nested r s) xs =
    regroup (horner_value p (other_values xs)) (first_value xs) _ _ _ _ (h r (other_values xs)) (times_each-value f p h s xs)
  where
    regroup : (a x v w p q : ℤ) → v ≡ a *ℤ p → w ≡ a *ℤ q → v +ℤ x *ℤ w ≡ a *ℤ (p +ℤ x *ℤ q)
    regroup a x v w p q e f =
        omega (arith, ints, ap (λ (z : ℤ). x *ℤ z) f, mul-add_ℤ a p (x *ℤ q), mul_assoc_ℤ x a q, mul_assoc_ℤ a x q, ap (λ (z : ℤ). z *ℤ q) (mul_comm_ℤ x a))

-- a product of forms has the product of their values
pub horner_product-value : (p r : Horner) (xs : List ℤ) → horner_value (horner_product p r) xs ≡ horner_value p xs *ℤ horner_value r xs
horner_product-value (number a) r xs = number_times-value a r xs
horner_product-value (nested p q) r xs =
    regroup (first_value xs) _ _ _ _ _ _
    (horner_sum-value (times_each (horner_product p) r) (nested (number (pos 0)) (horner_product q r)) xs)
    (times_each-value (horner_product p) p (horner_product-value p) r xs)
    (horner_product-value q r xs)
  where
    regroup : (x s v w p q r : ℤ) → s ≡ v +ℤ (pos 0 +ℤ x *ℤ w) → v ≡ p *ℤ r → w ≡ q *ℤ r → s ≡ (p +ℤ x *ℤ q) *ℤ r
    regroup x s v w p q r d e f = omega (arith, ints, ap (λ (z : ℤ). x *ℤ z) f, add-mul_ℤ p (x *ℤ q) r, mul_assoc_ℤ x q r)

-- a form whose coefficients are all 0 has the value 0
pub horner_zero-value : (p : Horner) (xs : List ℤ) → is_horner_zero p ≡ true → horner_value p xs ≡ pos 0
horner_zero-value (number z) xs h = from_test z h
  where
    from_test : (z : ℤ) → is_zero z ≡ true → z ≡ pos 0
    from_test (pos zero) h = refl
    from_test (pos (suc n)) h = cc
    from_test (negsuc n) h = cc
horner_zero-value (nested p q) xs h =
    regroup (first_value xs) _ _ (horner_zero-value p (other_values xs) (first_of_two _ _ h)) (horner_zero-value q xs (second_of_two _ _ h))
  where
    regroup : (x v w : ℤ) → v ≡ pos 0 → w ≡ pos 0 → v +ℤ x *ℤ w ≡ pos 0
    regroup x v w d e = omega (arith, ints, ap (λ (z : ℤ). x *ℤ z) e)

    first_of_two : (a b : Bool) → (a && b) ≡ true → a ≡ true
    first_of_two true b h = refl
    first_of_two false b h = cc

    second_of_two : (a b : Bool) → (a && b) ≡ true → b ≡ true
    second_of_two true b h = h
    second_of_two false b h = cc
