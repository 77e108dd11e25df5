-- Worked values of the cases on powers and of distribution, and of rewriting by both tables.
use Rattle.std.specs.Prelude.{◌≡◌, ◌^◌, true, false, [], ◌∷◌}
use Rattle.bound_expr.specs.model.Bounds.{Bound, Constant, Input, SumOf, ProductOf, MaximumOf, PowerOf, NoParts, Part}
use Rattle.bound_expr.specs.model.Worked.{one_part, two_parts}
use Rattle.bound_expr.specs.Worked.{copies}
use Rattle.bound_table.specs.declared.kinds.Kind.TheVariants.{AsSum, AsProd}
use Rattle.bound_table.specs.Powers.{evaluated, shifted, powers_merged}
use Rattle.bound_table.specs.Distribution.{is_multiplied_out, distributed}
use Rattle.bound_table.specs.Rewriting.{simplified}
use Rattle.bound_table.specs.InForce.{small_cases, large_cases}

-- the inputs A, B, C and D, and the sum of the first two
abbrev pub input_a : Bound
input_a = Input 0

abbrev pub input_b : Bound
input_b = Input 1

abbrev pub input_c : Bound
input_c = Input 2

abbrev pub input_d : Bound
input_d = Input 3

abbrev pub a_and_b : Bound
a_and_b = SumOf (two_parts input_a input_b)

-- powers of constants, up to 2^127 - 1 and beyond; 0^0 is 1; other powers stay
pub record PowersAreEvaluated : Type 0 where
  pub small : evaluated 2 (Constant 10) ≡ Constant 1024
  pub none : evaluated 0 (Constant 0) ≡ Constant 1
  pub nothing : evaluated 0 (Constant 3) ≡ Constant 0
  pub greatest : evaluated 2 (Constant 126) ≡ Constant (2 ^ 126)
  pub beyond : evaluated 2 (Constant 127) ≡ PowerOf 2 (Constant 127)
  pub other : evaluated 2 input_a ≡ PowerOf 2 input_a

-- the first constant of a sum is taken out, and no other one; the exponent that is left may be empty; a power over
-- 2^127-1 and other exponents are unchanged
pub record PowersAreShifted : Type 0 where
  pub single : shifted 2 (SumOf (two_parts input_a (Constant 3)))
      ≡ ProductOf (two_parts (Constant 8) (PowerOf 2 input_a))
  pub several : shifted 3 (SumOf (Part (Constant 1) (Part input_a (Part (Constant 2) NoParts))))
      ≡ ProductOf (two_parts (Constant 3) (PowerOf 3 (SumOf (two_parts input_a (Constant 2)))))
  pub nothing_left : shifted 2 (SumOf (one_part (Constant 3)))
      ≡ ProductOf (two_parts (Constant 8) (PowerOf 2 (SumOf NoParts)))
  pub beyond : shifted 2 (SumOf (Part (Constant 127) (Part input_a (Part (Constant 1) NoParts))))
      ≡ PowerOf 2 (SumOf (Part (Constant 127) (Part input_a (Part (Constant 1) NoParts))))
  pub no_constant : shifted 2 a_and_b ≡ PowerOf 2 a_and_b
  pub no_sum : shifted 2 (Constant 3) ≡ PowerOf 2 (Constant 3)

-- neighbouring powers of one base merge, with sums spliced; powers of other bases don't, nor does a single power, nor
-- parts of a sum
pub record PowersAreMerged : Type 0 where
  pub two : powers_merged AsProd (PowerOf 2 input_a ∷ PowerOf 2 input_b ∷ []) ≡ PowerOf 2 a_and_b ∷ []
  pub spliced : powers_merged AsProd (PowerOf 2 a_and_b ∷ PowerOf 2 input_c ∷ input_d ∷ [])
      ≡ PowerOf 2 (SumOf (Part input_a (Part input_b (Part input_c NoParts)))) ∷ input_d ∷ []
  pub runs : powers_merged AsProd (PowerOf 2 input_a ∷ PowerOf 3 input_a ∷ PowerOf 3 input_b ∷ PowerOf 2 input_b ∷ [])
      ≡ PowerOf 2 input_a ∷ PowerOf 3 a_and_b ∷ PowerOf 2 input_b ∷ []
  pub apart : powers_merged AsProd (PowerOf 2 input_a ∷ input_c ∷ PowerOf 2 input_b ∷ [])
      ≡ PowerOf 2 input_a ∷ input_c ∷ PowerOf 2 input_b ∷ []
  pub in_sum : powers_merged AsSum (PowerOf 2 input_a ∷ PowerOf 2 input_b ∷ [])
      ≡ PowerOf 2 input_a ∷ PowerOf 2 input_b ∷ []

-- only the first sum is multiplied out, in place; a product in a sum contributes its factors, and a single factor
-- replaces its product
pub record ProductsAreMultipliedOut : Type 0 where
  pub in_place : distributed AsProd (input_c ∷ a_and_b ∷ input_d ∷ []) ≡ SumOf (two_parts
      (ProductOf (Part input_c (Part input_a (Part input_d NoParts))))
      (ProductOf (Part input_c (Part input_b (Part input_d NoParts)))))
  pub first_alone : distributed AsProd (a_and_b ∷ a_and_b ∷ [])
      ≡ SumOf (two_parts (ProductOf (two_parts input_a a_and_b)) (ProductOf (two_parts input_b a_and_b)))
  pub spliced : distributed AsProd (input_c ∷ SumOf (two_parts (ProductOf (two_parts input_a input_b)) input_d) ∷ [])
      ≡ SumOf (two_parts (ProductOf (Part input_c (Part input_a (Part input_b NoParts))))
      (ProductOf (two_parts input_c input_d)))
  pub single : distributed AsProd (a_and_b ∷ []) ≡ a_and_b
  pub no_sum : distributed AsProd (input_a ∷ input_b ∷ []) ≡ ProductOf (two_parts input_a input_b)
  pub in_sum : distributed AsSum (a_and_b ∷ input_c ∷ []) ≡ SumOf (two_parts a_and_b input_c)

-- 64 parts of one sum, and of two multiplied, are few enough, and one part more is not; an outcome may have 4,096
-- nodes, and no more
pub record LimitsOfProductsAreMet : Type 0 where
  pub parts_at_most : is_multiplied_out (input_b ∷ SumOf (copies 64) ∷ []) ≡ true
  pub parts_beyond : is_multiplied_out (input_b ∷ SumOf (copies 65) ∷ []) ≡ false
  pub sums_at_most : is_multiplied_out (SumOf (copies 4) ∷ SumOf (copies 16) ∷ []) ≡ true
  pub sums_beyond : is_multiplied_out (SumOf (copies 5) ∷ SumOf (copies 13) ∷ []) ≡ false
  pub nodes_at_most : is_multiplied_out (SumOf (copies 1) ∷ MaximumOf (copies 4092) ∷ []) ≡ true
  pub nodes_beyond : is_multiplied_out (SumOf (copies 1) ∷ MaximumOf (copies 4093) ∷ []) ≡ false

-- A*(A + 1), 2^(A + 3), 2^A*2^B and 2^10 stay under the small table, and under the large one become A^2 + A, 8*2^A,
-- 2^(A + B) and 1024
pub record TablesAreWorkedOut : Type 0 where
  pub product_small : simplified small_cases (ProductOf (two_parts input_a (SumOf (two_parts input_a (Constant 1)))))
      ≡ ProductOf (two_parts input_a (SumOf (two_parts input_a (Constant 1))))
  pub product_large : simplified large_cases (ProductOf (two_parts input_a (SumOf (two_parts input_a (Constant 1)))))
      ≡ SumOf (two_parts (ProductOf (two_parts input_a input_a)) input_a)
  pub shift_small : simplified small_cases (PowerOf 2 (SumOf (two_parts input_a (Constant 3))))
      ≡ PowerOf 2 (SumOf (two_parts input_a (Constant 3)))
  pub shift_large : simplified large_cases (PowerOf 2 (SumOf (two_parts input_a (Constant 3))))
      ≡ ProductOf (two_parts (Constant 8) (PowerOf 2 input_a))
  pub merge_small : simplified small_cases (ProductOf (two_parts (PowerOf 2 input_a) (PowerOf 2 input_b)))
      ≡ ProductOf (two_parts (PowerOf 2 input_a) (PowerOf 2 input_b))
  pub merge_large : simplified large_cases (ProductOf (two_parts (PowerOf 2 input_a) (PowerOf 2 input_b)))
      ≡ PowerOf 2 a_and_b
  pub number_small : simplified small_cases (PowerOf 2 (Constant 10)) ≡ PowerOf 2 (Constant 10)
  pub number_large : simplified large_cases (PowerOf 2 (Constant 10)) ≡ Constant 1024
