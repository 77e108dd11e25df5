-- An affine form reads as many variables as it has coefficients.
use Rattle.std.proofs.Common.{◌≡◌, ℕ, suc, ◌+◌, ◌≤◌, Bool, true, false, List, [], ◌∷◌, length}
use Rattle.std.proofs.Common.{refl, arith}
use Rattle.std.specs.Ordering.{int_eq}
use Rattle.std.specs.Prelude.{ℤ, pos, negsuc}
use Rattle.std.specs.List.{AllByRecursion}
use Rattle.refined_programs.specs.model.Terms.{Term}
use Rattle.refined_programs.specs.refinement.Obligations.{ReadsFirst}
use Rattle.refined_programs.specs.poly_terms.Checked.{ReadsBelow}
use Rattle.refined_programs.proofs.its_model.poly_terms.VariableLaws.{value-append_right}
use Rattle.refined_programs.specs.its_model.linear_forms.Forms.{Form}
use Rattle.refined_programs.specs.Affine.{number_term, with_product, with_products}
use Rattle.refined_programs.specs.Annotated.{form_term}
use Rattle.section_checks.specs.Faults.{IsWide}

-- a number reads no variable
number-reads : (n : ℕ) (z : ℤ) → ReadsBelow n (number_term z)
number-reads n (pos k) = tt
number-reads n (negsuc k) = tt

-- one more product reads its variable
product-reads : (n i : ℕ) (t : Term) (a : ℤ) → suc i ≤ n → ReadsBelow n t → ReadsBelow n (with_product t i a)
product-reads n i t a low h = go (int_eq a (pos 0)) refl
  where
    go : (v : Bool) → int_eq a (pos 0) ≡ v → ReadsBelow n (with_product t i a)
    go true e = rw e h
    go false e = rw e (h, (number-reads n a, omega (arith, low)))

-- the products of coefficients with the variables from i on read at most the first n, if there are at most that many
products-read : (n i : ℕ) (t : Term) (coefs : List ℤ) → i + length coefs ≤ n → ReadsBelow n t
    → ReadsBelow n (with_products t i coefs)
products-read n i t [] low h = h
products-read n i t (a ∷ coefs) low h =
    products-read n (suc i) (with_product t i a) coefs (omega (arith, low))
    (product-reads n i t a (omega (arith, low)) h)

-- a form of n coefficients reads at most the first n variables
pub form-reads : (n : ℕ) (a : Form) → IsWide n a → ReadsFirst n (form_term a)
form-reads n a wide = record {
  each = λ values more len. value-append_right (form_term a) values more
      (products-read (length values) 0 (number_term a.constant) a.coefs (omega (arith, wide, len))
      (number-reads (length values) a.constant));
}

pub forms-read : (n : ℕ) (forms : List Form) → AllByRecursion (IsWide n) forms
    → AllByRecursion (λ a. ReadsFirst n (form_term a)) forms
forms-read n [] h = tt
forms-read n (a ∷ forms) h = (form-reads n a h.0, forms-read n forms h.1)
