-- The values of polynomials as expressions, and the variables that they read.
use Rattle.std.proofs.Common.{◌≡◌, ℕ, zero, suc, ◌<◌, true, List, [], ◌∷◌, ◌++◌, length, map, refl, ◌∙◌, ap, arith}
use Rattle.std.specs.Prelude.{ℤ, pos, ◌+ℤ◌, ◌*ℤ◌, slice_index_or, nat_lt}
use Rattle.std.proofs.lemmas.Bool.{ltb-true}
use Rattle.potentials.specs.model.Terms.{Term, Variable, value}
use Rattle.potentials.specs.model.Polynomials.{Polynomial, product_value, monomial_value, polynomial_value}
use Rattle.potential_nodes.specs.PolynomialTerms.{product_term, polynomial_term, form_term, term_at}
use Rattle.potential_nodes.specs.PolynomialTerms.{form_after, all_below, reads_below}
use Rattle.potential_nodes.proofs.LookupLaws.{both-hold}

-- the value of variable i by a list of values, 0 past its end
abbrev pub variable_value : List ℤ → ℕ → ℤ
variable_value env i = slice_index_or env i (pos 0)

-- laws for a polynomial as an expression, where each variable's expression has the variable's value
module _ (put : ℕ → Term) (z env : List ℤ) (same : (i : ℕ) → value (put i) z ≡ slice_index_or env i (pos 0)) where
  product-value : (vars : List ℕ) → value (product_term put vars) z ≡ product_value vars env
  product-value [] = refl
  product-value (i ∷ vars) =
      ap (λ (v : ℤ). v *ℤ value (product_term put vars) z) (same i)
      ∙ ap (λ (v : ℤ). slice_index_or env i (pos 0) *ℤ v) (product-value vars)

  pub term-value : (p : Polynomial) → value (polynomial_term put p) z ≡ polynomial_value p env
  term-value [] = refl
  term-value (m ∷ ms) =
      ap (λ (v : ℤ). m.coef *ℤ v +ℤ value (polynomial_term put ms) z) (product-value m.vars)
      ∙ ap (λ (v : ℤ). monomial_value m env +ℤ v) (term-value ms)

-- a polynomial as an expression over its own variables has the polynomial's value
pub form-value : (p : Polynomial) (z : List ℤ) → value (form_term p) z ≡ polynomial_value p z
form-value p z = term-value Variable z z (λ i. refl) p

-- an expression of a list has the value at its position
pub term_at-value : (terms : List Term) (i : ℕ) (z : List ℤ)
    → value (term_at terms i) z ≡ slice_index_or (map (λ t. value t z) terms) i (pos 0)
term_at-value [] i z = refl
term_at-value (t ∷ terms) zero z = refl
term_at-value (t ∷ terms) (suc i) z = term_at-value terms i z

-- a polynomial with new values in place of its variables has the value at the new values
pub after-value : (new_values : List Term) (p : Polynomial) (z : List ℤ)
    → value (form_after new_values p) z ≡ polynomial_value p (map (λ t. value t z) new_values)
after-value new_values p z = term-value (term_at new_values) z (map (λ t. value t z) new_values) (λ i. term_at-value new_values i z) p

-- two lists of values agree at the first n positions
abbrev pub Agree : ℕ → List ℤ → List ℤ → Type 0
Agree n a b = (i : ℕ) → i < n → slice_index_or a i (pos 0) ≡ slice_index_or b i (pos 0)

-- a list of values and the list with more appended agree on the list
pub agree-append : (a more : List ℤ) → Agree (length a) (a ++ more) a
agree-append [] more i low = absurd (omega (arith, low))
agree-append (x ∷ a) more zero low = refl
agree-append (x ∷ a) more (suc i) low = agree-append a more i (omega (arith, low))

-- a polynomial that reads only the first n variables has the same value at lists that agree there
module _ (n : ℕ) (a b : List ℤ) (agree : Agree n a b) where
  product-agrees : (vars : List ℕ) → all_below n vars ≡ true → product_value vars a ≡ product_value vars b
  product-agrees [] h = refl
  product-agrees (i ∷ vars) h =
      let both = both-hold (nat_lt i n) (all_below n vars) h in
      ap (λ (v : ℤ). v *ℤ product_value vars a) (agree i (ltb-true i n both.0))
      ∙ ap (λ (v : ℤ). slice_index_or b i (pos 0) *ℤ v) (product-agrees vars both.1)

  pub polynomial-agrees : (p : Polynomial) → reads_below n p ≡ true → polynomial_value p a ≡ polynomial_value p b
  polynomial-agrees [] h = refl
  polynomial-agrees (m ∷ ms) h =
      let both = both-hold (all_below n m.vars) (reads_below n ms) h in
      ap (λ (v : ℤ). m.coef *ℤ v +ℤ polynomial_value ms a) (product-agrees m.vars both.0)
      ∙ ap (λ (v : ℤ). monomial_value m b +ℤ v) (polynomial-agrees ms both.1)

-- a polynomial that reads only the values of a list has the same value if more are appended
pub reads-append : (a more : List ℤ) (p : Polynomial) → reads_below (length a) p ≡ true
    → polynomial_value p (a ++ more) ≡ polynomial_value p a
reads-append a more p h = polynomial-agrees (length a) (a ++ more) a (agree-append a more) p h

-- a polynomial that reads only the values of a list has the same value if two lists are appended
pub reads-append_twice : (a more others : List ℤ) (p : Polynomial) → reads_below (length a) p ≡ true
    → polynomial_value p ((a ++ more) ++ others) ≡ polynomial_value p a
reads-append_twice a more others p h =
    polynomial-agrees (length a) ((a ++ more) ++ others) a (agrees a) p h
  where
    agrees : (a : List ℤ) → Agree (length a) ((a ++ more) ++ others) a
    agrees [] i low = absurd (omega (arith, low))
    agrees (x ∷ a) zero low = refl
    agrees (x ∷ a) (suc i) low = agrees a i (omega (arith, low))
