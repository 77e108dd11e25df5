-- Polynomials as expressions, and their positive parts where a test compares them.
use Rattle.std.proofs.Common.{◌≡◌, ℕ, ◌*◌, ◌≤◌, List, [], ◌∷◌, true, Bool, refl, ap, ap₂, arith}
use Rattle.std.specs.Prelude.{ℤ, pos, negsuc, ◌+ℤ◌, ◌-ℤ◌, ◌*ℤ◌, ◌≤ℤ◌, slice_index_or}
use Rattle.std.proofs.lemmas.Int.{ints}
use Rattle.poly_terms.specs.model.Terms.{Term, Subtraction, value}
use Rattle.poly_terms.specs.model.Polynomials.{Polynomial, product_value, polynomial_value}
use Rattle.signed_bounds.specs.Bounds.{positive_part}
use Rattle.signed_bounds.specs.Safe.{IsSafe}
use Rattle.signed_bounds.specs.Fits.{product_term, polynomial_term, weighted_difference, is_below}

-- a product of variables has the value of its expression
pub product_term-value : (vs : List ℕ) (env : List ℤ) → value (product_term vs) env ≡ product_value vs env
product_term-value [] env = refl
product_term-value (v ∷ vs) env = ap (λ (z : ℤ). slice_index_or env v (pos 0) *ℤ z) (product_term-value vs env)

-- a polynomial has the value of its expression
pub polynomial_term-value : (p : Polynomial) (env : List ℤ) → value (polynomial_term p) env ≡ polynomial_value p env
polynomial_term-value [] env = refl
polynomial_term-value (m ∷ ms) env =
    ap₂ (λ (y z : ℤ). y +ℤ z) (ap (λ (z : ℤ). m.coef *ℤ z) (product_term-value m.vars env))
    (polynomial_term-value ms env)

-- positive parts grow with the integer
pub positive_part-grows : (a b : ℤ) → a ≤ℤ b → positive_part a ≤ positive_part b
positive_part-grows (pos m) (pos n) h = omega (arith, ints)
positive_part-grows (pos m) (negsuc n) h = absurd (omega (arith, ints))
positive_part-grows (negsuc m) b h = omega arith

-- n times one positive part is at most m times another if n times the one integer is at most m times the other
pub positive_part-weighted : (n m : ℕ) (a b : ℤ) → (pos n *ℤ a) ≤ℤ (pos m *ℤ b) → n * positive_part a ≤ m * positive_part b
positive_part-weighted n m (pos a) (pos b) h = omega (arith, ints)
positive_part-weighted n m (pos a) (negsuc b) h = omega (arith, ints)
positive_part-weighted n m (negsuc a) b h = omega arith

module _ (is_safe : Term → Bool) (safe : IsSafe is_safe) where
  -- the positive part of a polynomial that is below another is at most the other's
  pub is_below-le : (f h : Polynomial) → is_below is_safe f h ≡ true → (x : List ℤ)
      → positive_part (polynomial_value f x) ≤ positive_part (polynomial_value h x)
  is_below-le f h e x =
      let d : pos 0 ≤ℤ (value (polynomial_term h) x -ℤ value (polynomial_term f) x) =
      safe.each (Subtraction (polynomial_term h) (polynomial_term f)) e x in
      positive_part-grows (polynomial_value f x) (polynomial_value h x)
      (omega (arith, ints, polynomial_term-value f x, polynomial_term-value h x))

  -- n times one positive part is at most m times another if the weighted difference is never negative
  pub weighted-le : (n m : ℕ) (f h : Polynomial) → is_safe (weighted_difference n f m h) ≡ true → (x : List ℤ)
      → n * positive_part (polynomial_value f x) ≤ m * positive_part (polynomial_value h x)
  weighted-le n m f h e x =
      let d : pos 0 ≤ℤ (pos m *ℤ value (polynomial_term h) x -ℤ pos n *ℤ value (polynomial_term f) x) =
      safe.each (weighted_difference n f m h) e x in
      let less = ap (λ (z : ℤ). pos n *ℤ z) (polynomial_term-value f x) in
      let more = ap (λ (z : ℤ). pos m *ℤ z) (polynomial_term-value h x) in
      positive_part-weighted n m (polynomial_value f x) (polynomial_value h x) (omega (arith, ints, less, more))
