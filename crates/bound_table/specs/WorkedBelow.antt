-- Which small bounds are below which, worked out by hand on both sides.
use Rattle.std.specs.Prelude.{◌≡◌, true, false}
use Rattle.bound_expr.specs.model.Bounds.{Bound, Constant, SumOf, ProductOf, MaximumOf, PowerOf, NoParts}
use Rattle.bound_expr.specs.model.Worked.{two_parts}
use Rattle.bound_table.specs.Below.{below}
use Rattle.bound_table.specs.Worked.{input_a, input_b, input_c, a_and_b}
use Rattle.bound_table.specs.WorkedParts.{three_parts}

-- the product, and the maximum, of two bounds
abbrev pub product : Bound → Bound → Bound
product a b = ProductOf (two_parts a b)

abbrev pub greater_of : Bound → Bound → Bound
greater_of a b = MaximumOf (two_parts a b)

-- 0 is below everything; a constant is below a greater one, and below an input only where it is 0
pub record ConstantsAreBelow : Type 0 where
  pub nothing : below (Constant 0) input_a ≡ true
  pub nothing_of_nothing : below (Constant 0) (Constant 0) ≡ true
  pub greater : below (Constant 2) (Constant 3) ≡ true
  pub less : below (Constant 3) (Constant 2) ≡ false
  pub input : below (Constant 1) input_a ≡ false
  pub input_of_nothing : below input_a (Constant 0) ≡ false

-- each part of a sum takes a part of the other that it is below, in order, none twice
pub record SumsAreBelow : Type 0 where
  pub more : below input_a (SumOf (two_parts input_a (Constant 7))) ≡ true
  pub less : below (SumOf (two_parts input_a (Constant 7))) input_a ≡ false
  pub between : below a_and_b (SumOf (three_parts input_a input_c input_b)) ≡ true
  pub other_order : below a_and_b (SumOf (two_parts input_b input_a)) ≡ false
  pub twice : below (SumOf (two_parts input_a input_a)) (SumOf (two_parts input_a input_b)) ≡ false
  pub other : below input_a (SumOf (two_parts input_b input_c)) ≡ false

-- a maximum is below what all of its parts are below; what is no maximum is below one where it is below one of its
-- parts
pub record MaximumsAreBelow : Type 0 where
  pub of_both : below (greater_of input_a input_b) a_and_b ≡ true
  pub of_one : below (greater_of input_a input_b) input_a ≡ false
  pub part : below input_b (greater_of input_a input_b) ≡ true
  pub no_part : below input_c (greater_of input_a input_b) ≡ false
  pub sum_of_both : below a_and_b (greater_of input_a input_b) ≡ false
  pub other_order : below (greater_of input_a input_b) (greater_of input_b input_a) ≡ true
  pub empty : below (MaximumOf NoParts) (Constant 0) ≡ true
  pub in_empty : below input_a (MaximumOf NoParts) ≡ false

-- a power is below one of no smaller base and an exponent that it is below; a power is at least 1, so 1 is below it,
-- and it may be left over among factors
pub record PowersAreBelow : Type 0 where
  pub base : below (PowerOf 2 input_a) (PowerOf 3 input_a) ≡ true
  pub less_base : below (PowerOf 3 input_a) (PowerOf 2 input_a) ≡ false
  pub exponent : below (PowerOf 2 input_a) (PowerOf 2 a_and_b) ≡ true
  pub less_exponent : below (PowerOf 2 a_and_b) (PowerOf 2 input_a) ≡ false
  pub one : below (Constant 1) (PowerOf 2 input_a) ≡ true
  pub two : below (Constant 2) (PowerOf 2 input_a) ≡ false
  pub left_over : below input_a (product (PowerOf 2 input_b) input_a) ≡ true
  pub input : below input_a (PowerOf 2 input_a) ≡ false

-- A is below A^2, since an input may be left over if it is taken too, and not below A*B, since B may be 0; constants
-- in front count, and there may be none among the factors
pub record ProductsAreBelow : Type 0 where
  pub square : below input_a (product input_a input_a) ≡ true
  pub root : below (product input_a input_a) input_a ≡ false
  pub with_other : below input_a (product input_a input_b) ≡ false
  pub doubled : below input_a (product (Constant 2) input_a) ≡ true
  pub halved : below (product (Constant 2) input_a) input_a ≡ false
  pub other_order : below (product input_a input_b) (product input_b input_a) ≡ false
  pub larger_factor : below (product input_a input_b) (product input_a (SumOf (two_parts input_b (Constant 1)))) ≡ true
  pub smaller_factor : below (product input_a (SumOf (two_parts input_b (Constant 1)))) (product input_a input_b)
      ≡ false
  pub constant_inside : below (product input_a (Constant 2)) (product input_a (Constant 2)) ≡ false
