-- Worked values of affine expressions that have one value everywhere, and of expressions that don't.
use Rattle.std.specs.Prelude.{◌≡◌, true, false, pos, negsuc}
use Rattle.poly_terms.specs.model.Terms.{Term, Literal, Variable, Negation, Addition, Subtraction, Multiplication}
use Rattle.poly_terms.specs.model.Terms.{Exponentiation}
use Rattle.affine_constants.specs.Constants.{is_affine, is_natural_constant}

-- 2*(x + 3) - (x + x)
abbrev pub six : Term
six = Subtraction (Multiplication (Literal (pos 2)) (Addition (Variable 0) (Literal (pos 3))))
    (Addition (Variable 0) (Variable 0))

-- 2*(x + 3) - (x + x) is 6 everywhere, and so is its product with 1; less 7 it is negative, and less 6 it is 0; x - y
-- isn't constant, but y - y is; x - x reads more than no variable; x*x and x^1 aren't written as affine; 2^127 exceeds
-- 128 bits, and 2^127 - 1 doesn't
pub record ConstantsAreWorkedOut : Type 0 where
  pub six_everywhere : is_natural_constant 1 six ≡ true
  pub times_one : is_natural_constant 1 (Multiplication six (Literal (pos 1))) ≡ true
  pub negative : is_natural_constant 1 (Subtraction six (Literal (pos 7))) ≡ false
  pub zero_everywhere : is_natural_constant 1 (Subtraction six (Literal (pos 6))) ≡ true
  pub not_constant : is_natural_constant 2 (Subtraction (Variable 0) (Variable 1)) ≡ false
  pub second_variable : is_natural_constant 2 (Subtraction (Variable 1) (Variable 1)) ≡ true
  pub few_variables : is_natural_constant 0 (Subtraction (Variable 0) (Variable 0)) ≡ false
  pub square : is_affine 1 (Multiplication (Variable 0) (Variable 0)) ≡ false
  pub power : is_affine 1 (Exponentiation (Variable 0) 1) ≡ false
  pub large : is_natural_constant 0 (Literal (pos 170141183460469231731687303715884105728)) ≡ false
  pub largest : is_natural_constant 0 (Literal (pos 170141183460469231731687303715884105727)) ≡ true
