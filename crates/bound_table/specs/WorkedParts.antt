-- Worked values of the cases that splice, fold, drop, sort and join parts of small bounds.
use Rattle.std.specs.Prelude.{◌≡◌, ◌^◌, ◌-◌}
use Rattle.bound_expr.specs.model.Bounds.{Bound, Constant, SumOf, ProductOf, MaximumOf, PowerOf, Parts, NoParts, Part}
use Rattle.bound_expr.specs.model.Worked.{one_part, two_parts}
use Rattle.bound_table.specs.declared.kinds.Case.TheVariants.{Flat, FoldConst, ZeroProduct, Neutral, Order, Like}
use Rattle.bound_table.specs.declared.kinds.Case.TheVariants.{Dominate, Few}
use Rattle.bound_table.specs.Rewriting.{at_node}
use Rattle.bound_table.specs.Worked.{input_a, input_b, input_c, a_and_b}

-- three parts
abbrev pub three_parts : Bound → Bound → Bound → Parts
three_parts a b c = Part a (two_parts b c)

-- a sum in a sum, a product in a product and a maximum in a maximum give their parts, in place and one level deep; a
-- node of another kind stays
pub record PartsAreSpliced : Type 0 where
  pub sum : at_node Flat (SumOf (three_parts input_c a_and_b input_a))
      ≡ SumOf (Part input_c (three_parts input_a input_b input_a))
  pub product : at_node Flat (ProductOf (two_parts (ProductOf (two_parts input_a input_b)) input_c))
      ≡ ProductOf (three_parts input_a input_b input_c)
  pub maximum : at_node Flat (MaximumOf (two_parts input_a (MaximumOf (two_parts input_b input_c))))
      ≡ MaximumOf (three_parts input_a input_b input_c)
  pub one_level : at_node Flat (SumOf (one_part (SumOf (two_parts a_and_b input_c))))
      ≡ SumOf (two_parts a_and_b input_c)
  pub empty : at_node Flat (SumOf (two_parts (SumOf NoParts) input_a)) ≡ SumOf (one_part input_a)
  pub other_kind : at_node Flat (SumOf (two_parts (MaximumOf (two_parts input_a input_b)) input_c))
      ≡ SumOf (two_parts (MaximumOf (two_parts input_a input_b)) input_c)

-- two or more constants become their sum, product or maximum, in the place of the first one; one alone stays, and so
-- do those that make more than 2^127 - 1
pub record ConstantsAreFolded : Type 0 where
  pub sum : at_node FoldConst (SumOf (Part input_a (three_parts (Constant 2) input_b (Constant 3))))
      ≡ SumOf (three_parts input_a (Constant 5) input_b)
  pub product : at_node FoldConst (ProductOf (three_parts (Constant 2) input_a (Constant 3)))
      ≡ ProductOf (two_parts (Constant 6) input_a)
  pub maximum : at_node FoldConst (MaximumOf (three_parts (Constant 2) input_a (Constant 3)))
      ≡ MaximumOf (two_parts (Constant 3) input_a)
  pub alone : at_node FoldConst (SumOf (two_parts input_a (Constant 2))) ≡ SumOf (two_parts input_a (Constant 2))
  pub at_most : at_node FoldConst (SumOf (two_parts (Constant (2 ^ 127 - 2)) (Constant 1)))
      ≡ SumOf (one_part (Constant (2 ^ 127 - 1)))
  pub beyond : at_node FoldConst (SumOf (two_parts (Constant (2 ^ 127 - 1)) (Constant 1)))
      ≡ SumOf (two_parts (Constant (2 ^ 127 - 1)) (Constant 1))
  pub product_beyond : at_node FoldConst (ProductOf (two_parts (Constant (2 ^ 126)) (Constant 2)))
      ≡ ProductOf (two_parts (Constant (2 ^ 126)) (Constant 2))

-- a product with a part 0 becomes 0; other products stay, and so do sums and maximums with such a part
pub record ProductsWithZeroAreZero : Type 0 where
  pub last : at_node ZeroProduct (ProductOf (two_parts input_a (Constant 0))) ≡ Constant 0
  pub alone : at_node ZeroProduct (ProductOf (one_part (Constant 0))) ≡ Constant 0
  pub without : at_node ZeroProduct (ProductOf (two_parts (Constant 1) input_a))
      ≡ ProductOf (two_parts (Constant 1) input_a)
  pub sum : at_node ZeroProduct (SumOf (two_parts input_a (Constant 0))) ≡ SumOf (two_parts input_a (Constant 0))
  pub maximum : at_node ZeroProduct (MaximumOf (two_parts input_a (Constant 0)))
      ≡ MaximumOf (two_parts input_a (Constant 0))

-- a part 0 of a sum or maximum goes, and a part 1 of a product; no other constant does
pub record NeutralPartsAreDropped : Type 0 where
  pub sum : at_node Neutral (SumOf (three_parts (Constant 0) input_a (Constant 0))) ≡ SumOf (one_part input_a)
  pub product : at_node Neutral (ProductOf (two_parts (Constant 1) input_a)) ≡ ProductOf (one_part input_a)
  pub maximum : at_node Neutral (MaximumOf (two_parts input_a (Constant 0))) ≡ MaximumOf (one_part input_a)
  pub nothing_left : at_node Neutral (SumOf (one_part (Constant 0))) ≡ SumOf NoParts
  pub one_in_sum : at_node Neutral (SumOf (two_parts (Constant 1) input_a)) ≡ SumOf (two_parts (Constant 1) input_a)
  pub one_in_maximum : at_node Neutral (MaximumOf (two_parts (Constant 1) input_a))
      ≡ MaximumOf (two_parts (Constant 1) input_a)
  pub zero_in_product : at_node Neutral (ProductOf (two_parts (Constant 0) input_a))
      ≡ ProductOf (two_parts (Constant 0) input_a)

-- factors are sorted by kind: constant, power, input, maximum, sum; and those of a kind structurally. Parts of a sum or
-- a maximum are sorted by how many powers, then maximums and sums, then inputs are among their factors, more first;
-- then by the factors; then by the constant, the greater first
pub record PartsAreSorted : Type 0 where
  pub factors : at_node Order (ProductOf (Part a_and_b (Part (MaximumOf (two_parts input_a input_b))
      (three_parts input_a (PowerOf 2 input_a) (Constant 3)))))
      ≡ ProductOf (Part (Constant 3) (Part (PowerOf 2 input_a)
      (three_parts input_a (MaximumOf (two_parts input_a input_b)) a_and_b)))
  pub of_one_kind : at_node Order (ProductOf (two_parts input_b input_a)) ≡ ProductOf (two_parts input_a input_b)
  pub in_order : at_node Order (ProductOf (two_parts input_a input_b)) ≡ ProductOf (two_parts input_a input_b)
  pub parts : at_node Order (SumOf (Part (Constant 3) (Part input_a (three_parts
      (ProductOf (three_parts input_a input_a input_a))
      (ProductOf (two_parts input_a (MaximumOf (two_parts input_a input_b)))) (PowerOf 2 input_a)))))
      ≡ SumOf (Part (PowerOf 2 input_a) (Part (ProductOf (two_parts input_a (MaximumOf (two_parts input_a input_b))))
      (three_parts (ProductOf (three_parts input_a input_a input_a)) input_a (Constant 3))))
  pub by_factors : at_node Order (SumOf (two_parts input_b input_a)) ≡ SumOf (two_parts input_a input_b)
  pub by_constant : at_node Order (SumOf (two_parts input_a (ProductOf (two_parts (Constant 2) input_a))))
      ≡ SumOf (two_parts (ProductOf (two_parts (Constant 2) input_a)) input_a)
  pub maximum : at_node Order (MaximumOf (two_parts input_a (ProductOf (two_parts input_b input_c))))
      ≡ MaximumOf (two_parts (ProductOf (two_parts input_b input_c)) input_a)

-- neighbours in a sum with the same factors become one part with the sum of their constants, up to 2^127 - 1; others
-- don't, nor do constants, nor neighbours in a product or a maximum
pub record LikePartsAreJoined : Type 0 where
  pub neighbours : at_node Like (SumOf (three_parts (ProductOf (two_parts (Constant 2) input_a)) input_a input_b))
      ≡ SumOf (two_parts (ProductOf (two_parts (Constant 3) input_a)) input_b)
  pub apart : at_node Like (SumOf (three_parts input_a input_b input_a)) ≡ SumOf (three_parts input_a input_b input_a)
  pub other_factors : at_node Like (SumOf (two_parts (ProductOf (two_parts input_a input_a)) input_a))
      ≡ SumOf (two_parts (ProductOf (two_parts input_a input_a)) input_a)
  pub constants : at_node Like (SumOf (two_parts (Constant 2) (Constant 3)))
      ≡ SumOf (two_parts (Constant 2) (Constant 3))
  pub in_product : at_node Like (ProductOf (two_parts input_a input_a)) ≡ ProductOf (two_parts input_a input_a)
  pub in_maximum : at_node Like (MaximumOf (two_parts input_a input_a)) ≡ MaximumOf (two_parts input_a input_a)
  pub at_most : at_node Like (SumOf (two_parts (ProductOf (two_parts (Constant (2 ^ 127 - 2)) input_a)) input_a))
      ≡ SumOf (one_part (ProductOf (two_parts (Constant (2 ^ 127 - 1)) input_a)))
  pub beyond : at_node Like (SumOf (two_parts (ProductOf (two_parts (Constant (2 ^ 127 - 1)) input_a)) input_a))
      ≡ SumOf (two_parts (ProductOf (two_parts (Constant (2 ^ 127 - 1)) input_a)) input_a)

-- in a maximum a part goes that is below another one; of two that are below each other the last one stays; parts that
-- aren't below each other stay, and so do parts of a sum
pub record DominatedPartsAreDropped : Type 0 where
  pub first : at_node Dominate (MaximumOf (two_parts input_a a_and_b)) ≡ MaximumOf (one_part a_and_b)
  pub last : at_node Dominate (MaximumOf (two_parts a_and_b input_a)) ≡ MaximumOf (one_part a_and_b)
  pub same : at_node Dominate (MaximumOf (two_parts input_a input_a)) ≡ MaximumOf (one_part input_a)
  pub several : at_node Dominate (MaximumOf (three_parts input_a input_c a_and_b))
      ≡ MaximumOf (two_parts input_c a_and_b)
  pub apart : at_node Dominate (MaximumOf (two_parts input_a input_b)) ≡ MaximumOf (two_parts input_a input_b)
  pub in_sum : at_node Dominate (SumOf (two_parts input_a a_and_b)) ≡ SumOf (two_parts input_a a_and_b)

-- an empty sum or maximum is 0, an empty product 1, and a single part replaces its node; two parts stay
pub record FewPartsAreSimple : Type 0 where
  pub empty_sum : at_node Few (SumOf NoParts) ≡ Constant 0
  pub empty_product : at_node Few (ProductOf NoParts) ≡ Constant 1
  pub empty_maximum : at_node Few (MaximumOf NoParts) ≡ Constant 0
  pub single_in_sum : at_node Few (SumOf (one_part input_a)) ≡ input_a
  pub single_in_product : at_node Few (ProductOf (one_part input_a)) ≡ input_a
  pub single_in_maximum : at_node Few (MaximumOf (one_part input_a)) ≡ input_a
  pub two : at_node Few (ProductOf (two_parts input_a input_b)) ≡ ProductOf (two_parts input_a input_b)
  pub power : at_node Few (PowerOf 2 input_a) ≡ PowerOf 2 input_a
