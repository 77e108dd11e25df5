-- The value of a bound is the sum of the products that it is multiplied out into.
use Rattle.std.proofs.Common.{◌≡◌, ℕ, ◌+◌, ◌*◌, List, [], ◌∷◌, ◌++◌, map, ap, ap₂, arith, refl, sym, ◌∙◌}
use Rattle.std.specs.Prelude.{ℤ, pos, ◌+ℤ◌, ◌*ℤ◌}
use Rattle.std.proofs.lemmas.Int.{ints}
use Rattle.poly_terms.specs.model.Polynomials.{Monomial, Polynomial, product_value}
use Rattle.signed_bounds.specs.Bounds.{Signed, Constant, PositivePart, SumOf, ProductOf, MaximumOf, MinimumOf, Quotient}
use Rattle.signed_bounds.specs.Bounds.{Root, PowerOf, SignedParts, NoParts, Part, signed_val, signed_sum, signed_product}
use Rattle.signed_bounds.specs.Bounds.{positive_part}
use Rattle.signed_bounds.specs.Products.{Product, factors_val, products_val, joined, multiplied, scaled}
use Rattle.signed_bounds.specs.Products.{constant_part_of, part_or_number, part_product}
use Rattle.signed_bounds.specs.Products.{number, products_of, products_of_sum, multiplied_by_parts}

-- the product of the factors of two lists is the product of their products
pub factors_val-append : (fs gs : List Signed) (x : List ℤ)
    → factors_val (fs ++ gs) x ≡ factors_val fs x * factors_val gs x
factors_val-append [] gs x = omega arith
factors_val-append (f ∷ fs) gs x = omega (arith, ap (λ (v : ℕ). signed_val f x * v) (factors_val-append fs gs x))

-- the sum of the products of two lists is the sum of their sums
pub products_val-append : (ps qs : List Product) (x : List ℤ)
    → products_val (ps ++ qs) x ≡ products_val ps x + products_val qs x
products_val-append [] qs x = omega arith
products_val-append (p ∷ ps) qs x = omega (arith, products_val-append ps qs x)

-- a product joined with each of a list has the product of its value and the list's sum
products_val-joined : (p : Product) (qs : List Product) (x : List ℤ)
    → products_val (map (joined p) qs) x ≡ (p.times * factors_val p.factors x) * products_val qs x
products_val-joined p [] x = omega arith
products_val-joined p (q ∷ qs) x =
    omega (
      arith,
      ap (λ (v : ℕ). (p.times * q.times) * v) (factors_val-append p.factors q.factors x),
      products_val-joined p qs x,
    )

-- the sum of two multiplied lists is the product of their sums
pub products_val-multiplied : (ps qs : List Product) (x : List ℤ)
    → products_val (multiplied ps qs) x ≡ products_val ps x * products_val qs x
products_val-multiplied [] qs x = omega arith
products_val-multiplied (p ∷ ps) qs x =
    omega (
      arith,
      products_val-append (map (joined p) qs) (multiplied ps qs) x,
      products_val-joined p qs x,
      products_val-multiplied ps qs x,
    )

-- the sum of a list scaled by n is n times its sum
pub products_val-scaled : (n : ℕ) (ps : List Product) (x : List ℤ)
    → products_val (scaled n ps) x ≡ n * products_val ps x
products_val-scaled n [] x = omega arith
products_val-scaled n (p ∷ ps) x = omega (arith, products_val-scaled n ps x)

-- a product of one factor, taken once, has the value of the factor
factor_value : (v : ℕ) → 1 * (v * 1) + 0 ≡ v
factor_value v = omega arith

-- the product 1, taken once, times a number is the number
once : (v : ℕ) → (1 * 1 + 0) * v ≡ v
once v = omega arith

-- products of three numbers regroup
mul_assoc : (u v w : ℕ) → (u * v) * w ≡ u * (v * w)
mul_assoc u v w = omega arith

-- a number as a product without factors has the value of the number
number_value : (v : ℕ) → v * 1 + 0 ≡ v
number_value v = omega arith

-- an integer is the value of the polynomial with it as its only monomial
single_value : (z : ℤ) → z ≡ (z *ℤ pos 1) +ℤ pos 0
single_value z = omega (arith, ints)

-- the positive part of one monomial as a product has its value
monomial_part-value : (m : Monomial) (vars : List ℕ) → m.vars ≡ vars → (x : List ℤ)
    → products_val (part_or_number (m ∷ []) (constant_part_of m.coef vars) ∷ []) x
    ≡ signed_val (PositivePart (m ∷ [])) x
monomial_part-value m [] e x =
    number_value (positive_part m.coef)
    ∙ ap positive_part (single_value m.coef)
    ∙ sym (ap (λ (vars : List ℕ). positive_part ((m.coef *ℤ product_value vars x) +ℤ pos 0)) e)
monomial_part-value m (v ∷ vars) e x = factor_value (signed_val (PositivePart (m ∷ [])) x)

-- the positive part of a polynomial as a product has its value
part_product-value : (p : Polynomial) (x : List ℤ) → products_val (part_product p ∷ []) x ≡ signed_val (PositivePart p) x
part_product-value [] x = refl
part_product-value (m ∷ []) x = monomial_part-value m m.vars refl x
part_product-value (m ∷ n ∷ ms) x = factor_value (signed_val (PositivePart (m ∷ n ∷ ms)) x)

mutual
  -- the products that a bound is multiplied out into add up to its value
  pub products_of-value : (b : Signed) (x : List ℤ) → products_val (products_of b) x ≡ signed_val b x
  products_of-value (Constant c) x = omega arith
  products_of-value (PositivePart p) x = part_product-value p x
  products_of-value (SumOf bs) x = products_of_sum-value bs x
  products_of-value (ProductOf bs) x =
      multiplied_by_parts-value bs (number 1 ∷ []) x ∙ once (signed_product bs x)
  products_of-value (MaximumOf bs) x = factor_value (signed_val (MaximumOf bs) x)
  products_of-value (MinimumOf b bs) x = factor_value (signed_val (MinimumOf b bs) x)
  products_of-value (Quotient b d) x = factor_value (signed_val (Quotient b d) x)
  products_of-value (Root b) x = factor_value (signed_val (Root b) x)
  products_of-value (PowerOf c e) x = factor_value (signed_val (PowerOf c e) x)

  pub products_of_sum-value : (bs : SignedParts) (x : List ℤ) → products_val (products_of_sum bs) x ≡ signed_sum bs x
  products_of_sum-value NoParts x = refl
  products_of_sum-value (Part b bs) x =
      products_val-append (products_of b) (products_of_sum bs) x
      ∙ ap₂ (λ (v w : ℕ). v + w) (products_of-value b x) (products_of_sum-value bs x)

  pub multiplied_by_parts-value : (bs : SignedParts) (ps : List Product) (x : List ℤ)
      → products_val (multiplied_by_parts bs ps) x ≡ products_val ps x * signed_product bs x
  multiplied_by_parts-value NoParts ps x = omega arith
  multiplied_by_parts-value (Part b bs) ps x =
      multiplied_by_parts-value bs (multiplied ps (products_of b)) x
      ∙ ap (λ (v : ℕ). v * signed_product bs x)
      (products_val-multiplied ps (products_of b) x
      ∙ ap (λ (v : ℕ). products_val ps x * v) (products_of-value b x))
      ∙ mul_assoc (products_val ps x) (signed_val b x) (signed_product bs x)
