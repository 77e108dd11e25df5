-- A sum of squares with coefficients of at least 0 is never negative.
use Rattle.std.proofs.Common.{◌≡◌, ℕ, true, List, [], ◌∷◌, Option, Some, None, subst, arith}
use Rattle.std.specs.Prelude.{ℤ, pos, negsuc, ◌+ℤ◌, ◌*ℤ◌, ◌≤ℤ◌, ◌==◌, slice_index_or}
use Rattle.std.proofs.lemmas.Int.{ints}
use Rattle.std.proofs.lemmas.Bool.{and_parts, eqb-true}
use Rattle.poly_terms.proofs.int_laws.OrderLaws.{mul-nonneg_ℤ}
use Rattle.poly_terms.proofs.int_laws.RingLaws.{mul_assoc_ℤ}
use Rattle.poly_terms.specs.model.Terms.{Term, value}
use Rattle.poly_terms.specs.model.Polynomials.{Monomial, Polynomial, product_value, monomial_value, polynomial_value}
use Rattle.poly_terms.specs.Expanding.{expanded}
use Rattle.poly_terms.specs.Faults.{Fault, first_fault}
use Rattle.poly_terms.proofs.Values.{expanded-value}
use Rattle.signed_bounds.specs.Safe.{is_natural, are_paired, is_square_multiple, is_sum_of_squares}
use Rattle.signed_bounds.specs.Safe.{is_expanded_safe, SquaresAreSafe}
use Rattle.signed_bounds.proofs.Choices.{contradiction}

-- a natural number is at least 0
natural : (z : ℤ) → is_natural z ≡ true → pos 0 ≤ℤ z
natural (pos n) e = omega (arith, ints)
natural (negsuc n) e = contradiction e

-- a square is at least 0
square : (z : ℤ) → pos 0 ≤ℤ (z *ℤ z)
square (pos n) = omega (arith, ints)
square (negsuc n) = omega (arith, ints)

-- the product of paired variables is at least 0
paired : (vs : List ℕ) → are_paired vs ≡ true → (env : List ℤ) → pos 0 ≤ℤ product_value vs env
paired [] e env = omega (arith, ints)
paired (v ∷ []) e env = contradiction e
paired (v ∷ w ∷ vs) e env =
    let both = and_parts (v == w) (are_paired vs) e in
    let same = eqb-true v w both.0 in
    let z = slice_index_or env v (pos 0) in
    let p = product_value vs env in
    let k = mul-nonneg_ℤ (z *ℤ z) p (square z) (paired vs both.1 env) in
    subst (λ (i : ℕ). pos 0 ≤ℤ (z *ℤ (slice_index_or env i (pos 0) *ℤ p))) same
    (subst (λ (y : ℤ). pos 0 ≤ℤ y) (mul_assoc_ℤ z z p) k)

-- a multiple of a square is at least 0
square_multiple : (m : Monomial) → is_square_multiple m ≡ true → (env : List ℤ) → pos 0 ≤ℤ monomial_value m env
square_multiple m e env =
    let both = and_parts (is_natural m.coef) (are_paired m.vars) e in
    mul-nonneg_ℤ m.coef (product_value m.vars env) (natural m.coef both.0) (paired m.vars both.1 env)

-- a sum of squares is at least 0
pub sum_of_squares : (p : Polynomial) → is_sum_of_squares p ≡ true → (env : List ℤ) → pos 0 ≤ℤ polynomial_value p env
sum_of_squares [] e env = omega (arith, ints)
sum_of_squares (m ∷ ms) e env =
    let both = and_parts (is_square_multiple m) (is_sum_of_squares ms) e in
    sum (monomial_value m env) (polynomial_value ms env) (square_multiple m both.0 env) (sum_of_squares ms both.1 env)
  where
    sum : (y z : ℤ) → pos 0 ≤ℤ y → pos 0 ≤ℤ z → pos 0 ≤ℤ (y +ℤ z)
    sum y z h k = omega (arith, ints)

-- the test `expands_to_squares` is safe: it accepts only expressions that are never negative
pub squares_are_safe : SquaresAreSafe
squares_are_safe = record { safe = record { each = λ t e env. go t (first_fault t) e env } }
  where
    go : (t : Term) (o : Option Fault) → is_expanded_safe o (expanded t) ≡ true → (env : List ℤ) → pos 0 ≤ℤ value t env
    go t None e env = subst (λ (z : ℤ). pos 0 ≤ℤ z) (expanded-value t env) (sum_of_squares (expanded t) e env)
    go t (Some f) e env = contradiction e
