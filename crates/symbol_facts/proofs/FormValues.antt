-- The value of a form is its constant and the value of its summands.
use Rattle.std.proofs.Common.{◌≡◌, ℕ, suc, Bool, true, false, List, [], ◌∷◌, ◌++◌, refl, ◌∙◌, ap, arith}
use Rattle.std.proofs.lemmas.Int.{ints}
use Rattle.std.specs.Ordering.{int_eq}
use Rattle.std.specs.Prelude.{ℤ, pos, negsuc, ◌+ℤ◌, ◌*ℤ◌, slice_index_or}
use Rattle.model.specs.Polynomials.{Polynomial, polynomial_value}
use Rattle.model.specs.Terms.{Term, value}
use Rattle.refined_programs.specs.its_model.linear_forms.Forms.{Form}
use Rattle.refined_programs.specs.Affine.{number_term, with_product, with_products}
use Rattle.refined_programs.specs.Annotated.{form_term}
use Rattle.symbol_facts.specs.Common.{summand, summands}

number-value : (a : ℤ) (env : List ℤ) → value (number_term a) env ≡ a
number-value (pos n) env = refl
number-value (negsuc n) env = refl

plus_zero : (u : ℤ) → u ≡ u +ℤ pos 0
plus_zero u = omega (arith, ints)

times-one : (u : ℤ) → u ≡ u *ℤ pos 1
times-one u = omega (arith, ints)

add-assoc : (u v w : ℤ) → (u +ℤ v) +ℤ w ≡ u +ℤ (v +ℤ w)
add-assoc u v w = omega (arith, ints)

-- one product more
product-value : (t : Term) (i : ℕ) (a : ℤ) (rest : Polynomial) (env : List ℤ)
    → value (with_product t i a) env +ℤ polynomial_value rest env
    ≡ value t env +ℤ polynomial_value (summand i a ++ rest) env
product-value t i a rest env = go (int_eq a (pos 0)) refl
  where
    x : ℤ
    x = slice_index_or env i (pos 0)

    go : (v : Bool) → int_eq a (pos 0) ≡ v
        → value (with_product t i a) env +ℤ polynomial_value rest env
        ≡ value t env +ℤ polynomial_value (summand i a ++ rest) env
    go true e = rw e refl
    go false e =
        rw e (ap (λ (u : ℤ). (value t env +ℤ (u *ℤ x)) +ℤ polynomial_value rest env) (number-value a env)
        ∙ (ap (λ (y : ℤ). (value t env +ℤ (a *ℤ y)) +ℤ polynomial_value rest env) (times-one x)
        ∙ add-assoc (value t env) (a *ℤ (x *ℤ pos 1)) (polynomial_value rest env)))

products-value : (t : Term) (i : ℕ) (coefs env : List ℤ)
    → value (with_products t i coefs) env ≡ value t env +ℤ polynomial_value (summands i coefs) env
products-value t i [] env = plus_zero (value t env)
products-value t i (a ∷ coefs) env =
    products-value (with_product t i a) (suc i) coefs env ∙ product-value t i a (summands (suc i) coefs) env

pub form-value : (f : Form) (env : List ℤ)
    → value (form_term f) env ≡ f.constant +ℤ polynomial_value (summands 0 f.coefs) env
form-value f env =
    products-value (number_term f.constant) 0 f.coefs env
    ∙ ap (λ (z : ℤ). z +ℤ polynomial_value (summands 0 f.coefs) env) (number-value f.constant env)
