-- Worked values of the definitions.
use Rattle.std.specs.Prelude.{◌≡◌, ℕ, zero, suc, ◌+◌, ◌*◌, ◌^◌, Bool, true, false, List, [], ◌∷◌, ℤ, pos, negsuc}
use Rattle.poly_terms.specs.model.Bounds as plain
use Rattle.poly_terms.specs.model.Polynomials.{Monomial, Polynomial}
use Rattle.poly_terms.specs.model.Terms.{Literal, Variable, Addition, Subtraction, Multiplication, Exponentiation}
use Rattle.signed_bounds.specs.Bounds.{Signed, Constant, PositivePart, SumOf, ProductOf, MaximumOf, MinimumOf, Quotient}
use Rattle.signed_bounds.specs.Bounds.{Root, PowerOf, SignedParts, NoParts, Part, signed_val}
use Rattle.signed_bounds.specs.Measure.{node_count, depth_of, is_large, exceeds_limits}
use Rattle.signed_bounds.specs.Inputs.{signed_of_bound}
use Rattle.signed_bounds.specs.Safe.{expands_to_squares}
use Rattle.signed_bounds.specs.Limits.{constant_limit}
use Rattle.signed_bounds.specs.Products.{number, products_of, product_count, is_multipliable}
use Rattle.signed_bounds.specs.Products.{factor_total, is_comparable}
use Rattle.signed_bounds.specs.Within.{within}

-- a list of one part, and a list of two parts
abbrev pub one_part : Signed → SignedParts
one_part a = Part a NoParts

abbrev pub two_parts : Signed → Signed → SignedParts
two_parts a b = Part a (one_part b)

-- an integer times variables
abbrev pub times : ℤ → List ℕ → Monomial
times z vs = record { coef = z; vars = vs }

-- the positive parts of x, y, 2*x, 2*x + 2, x + 1 and x - 5, where x and y are the first two start arguments
abbrev pub x : Signed
x = PositivePart (times (pos 1) (0 ∷ []) ∷ [])

abbrev pub y : Signed
y = PositivePart (times (pos 1) (1 ∷ []) ∷ [])

abbrev pub twice_x : Signed
twice_x = PositivePart (times (pos 2) (0 ∷ []) ∷ [])

abbrev pub twice_x_and_2 : Signed
twice_x_and_2 = PositivePart (times (pos 2) [] ∷ times (pos 2) (0 ∷ []) ∷ [])

abbrev pub x_and_1 : Signed
x_and_1 = PositivePart (times (pos 1) [] ∷ times (pos 1) (0 ∷ []) ∷ [])

abbrev pub x_less_5 : Signed
x_less_5 = PositivePart (times (negsuc 4) [] ∷ times (pos 1) (0 ∷ []) ∷ [])

-- the positive part of x*x + 3*x - 4
abbrev pub parabola : Signed
parabola = PositivePart (times (negsuc 3) [] ∷ times (pos 3) (0 ∷ []) ∷ times (pos 1) (0 ∷ 0 ∷ []) ∷ [])

-- values of parts at 7, 3 and -3, of quotients, roots, minima and maxima, and of empty lists of parts
pub record BoundsHaveTheirValues : Type 0 where
  pub above : signed_val x_less_5 (pos 7 ∷ []) ≡ 2
  pub below : signed_val x_less_5 (pos 3 ∷ []) ≡ 0
  pub unread : signed_val y (pos 7 ∷ []) ≡ 0
  pub polynomial : signed_val parabola (negsuc 4 ∷ []) ≡ 6
  pub half : signed_val (Quotient x 2) (pos 7 ∷ []) ≡ 3
  pub even_half : signed_val (Quotient x 2) (pos 8 ∷ []) ≡ 4
  pub by_zero : signed_val (Quotient x 0) (pos 7 ∷ []) ≡ 0
  pub root_of_15 : signed_val (Root x) (pos 15 ∷ []) ≡ 3
  pub root_of_16 : signed_val (Root x) (pos 16 ∷ []) ≡ 4
  pub root_of_17 : signed_val (Root x) (pos 17 ∷ []) ≡ 4
  pub root_of_0 : signed_val (Root x) (negsuc 8 ∷ []) ≡ 0
  pub minimum : signed_val (MinimumOf x (two_parts y (Constant 4))) (pos 5 ∷ pos 3 ∷ []) ≡ 3
  pub first_minimum : signed_val (MinimumOf x (one_part y)) (pos 2 ∷ pos 3 ∷ []) ≡ 2
  pub minimum_of_one : signed_val (MinimumOf x NoParts) (pos 5 ∷ []) ≡ 5
  pub maximum : signed_val (MaximumOf (two_parts x y)) (pos 5 ∷ pos 3 ∷ []) ≡ 5
  pub product : signed_val (ProductOf (two_parts x y)) (pos 5 ∷ pos 3 ∷ []) ≡ 15
  pub power : signed_val (PowerOf 2 x) (pos 5 ∷ []) ≡ 32
  pub power_of_0 : signed_val (PowerOf 0 x) (negsuc 0 ∷ []) ≡ 1
  pub empty_sum : signed_val (SumOf NoParts) [] ≡ 0
  pub empty_product : signed_val (ProductOf NoParts) [] ≡ 1
  pub empty_maximum : signed_val (MaximumOf NoParts) [] ≡ 0

-- |A|*2^|B| at (-3, 4) and at (3, -4)
abbrev pub exponential : plain.Bound
exponential = plain.ProductOf (plain.Part (plain.Input 0) (plain.Part (plain.PowerOf 2 (plain.Input 1)) plain.NoParts))

pub record InputsAreAbsoluteValues : Type 0 where
  pub negative_first : signed_val (signed_of_bound exponential) (negsuc 2 ∷ pos 4 ∷ []) ≡ 48
  pub negative_second : signed_val (signed_of_bound exponential) (pos 3 ∷ negsuc 3 ∷ []) ≡ 48

-- n copies of the constant 0
abbrev pub copies : ℕ → SignedParts
copies zero = NoParts
copies (suc n) = Part (Constant 0) (copies n)

-- 2^(2^(.. x)), with n powers
abbrev pub tower : ℕ → Signed
tower zero = x
tower (suc n) = PowerOf 2 (tower n)

-- the numbers of nodes and levels, and the first bounds that are large
pub record MeasuresAreWorkedOut : Type 0 where
  -- the parabola has three monomials with three factors, and is a node itself
  pub polynomial : node_count parabola ≡ 7
  pub polynomial_levels : depth_of parabola ≡ 1
  pub nodes : node_count (MinimumOf (Quotient x 2) (two_parts (Root y) (Constant 1))) ≡ 10
  pub levels : depth_of (MinimumOf (Quotient x 2) (two_parts (Root y) (Constant 1))) ≡ 3
  pub deeper_part : depth_of (MinimumOf x (one_part (Quotient (Root y) 2))) ≡ 4
  pub nodes_at_most : is_large (SumOf (copies 4095)) ≡ false
  pub nodes_beyond : is_large (SumOf (copies 4096)) ≡ true
  pub levels_at_most : is_large (tower 199) ≡ false
  pub levels_beyond : is_large (tower 200) ≡ true
  -- 2^127 - 1 is a constant and a divisor, and the next number is neither
  pub largest : exceeds_limits (Quotient (Constant constant_limit) constant_limit) ≡ false
  pub large_constant : exceeds_limits (MinimumOf x (one_part (Root (Constant (constant_limit + 1))))) ≡ true
  pub large_divisor : exceeds_limits (PowerOf 2 (Quotient x (constant_limit + 1))) ≡ true
  pub large : exceeds_limits (SumOf (copies 4096)) ≡ true

-- worked values of which expressions expand to sums of squares
pub record SquaresAreFound : Type 0 where
  -- 0, 3, x*x + 2 and (x + y)*(x + y) - 2*x*y expand to sums of squares
  pub nothing : expands_to_squares (Literal (pos 0)) ≡ true
  pub constant : expands_to_squares (Literal (pos 3)) ≡ true
  pub square : expands_to_squares (Addition (Multiplication (Variable 0) (Variable 0)) (Literal (pos 2))) ≡ true
  pub cancelled : expands_to_squares (Subtraction
      (Exponentiation (Addition (Variable 0) (Variable 1)) 2)
      (Multiplication (Literal (pos 2)) (Multiplication (Variable 0) (Variable 1)))) ≡ true
  -- -1, x, x*y, -(x*x) and x*x*x don't expand to sums of squares, nor does x^10, whose degree is too high
  pub negative : expands_to_squares (Literal (negsuc 0)) ≡ false
  pub variable : expands_to_squares (Variable 0) ≡ false
  pub mixed : expands_to_squares (Multiplication (Variable 0) (Variable 1)) ≡ false
  pub opposite_square : expands_to_squares (Subtraction (Literal (pos 0)) (Exponentiation (Variable 0) 2)) ≡ false
  pub cube : expands_to_squares (Exponentiation (Variable 0) 3) ≡ false
  pub high_degree : expands_to_squares (Exponentiation (Variable 0) 10) ≡ false

-- n factors [x] + 1, where [p] is the positive part of p
abbrev pub powers_of_sum : ℕ → SignedParts
powers_of_sum zero = NoParts
powers_of_sum (suc n) = Part (SumOf (two_parts x (Constant 1))) (powers_of_sum n)

-- worked values of multiplying out, and of its limits
pub record ProductsAreMultipliedOut : Type 0 where
  -- ([x] + 2) * 3 is 3*[x] + 6
  pub outcome : products_of (ProductOf (two_parts (SumOf (two_parts x (Constant 2))) (Constant 3)))
      ≡ record { times = 3; factors = x ∷ [] } ∷ number 6 ∷ []
  -- ([x] + 1)^12 has 4,096 products, ([x] + 1)^13 has more
  pub most_products : is_multipliable 1 (ProductOf (powers_of_sum 12)) ≡ true
  pub more_products : is_multipliable 1 (ProductOf (powers_of_sum 13)) ≡ false
  -- [x]*([x] + 1)^12 has 64 nodes, so its products times these are 262,144; with another factor 1 it has one node more
  pub most_nodes : is_multipliable 1 (ProductOf (Part x (powers_of_sum 12))) ≡ true
  pub more_nodes : is_multipliable 1 (ProductOf (Part (Constant 1) (Part x (powers_of_sum 12)))) ≡ false
  -- 2^127 - 1 is multiplied out, also in a product with 0, and the next number isn't
  pub largest : is_multipliable 1 (Constant constant_limit) ≡ true
  pub too_large : is_multipliable 1 (Constant (constant_limit + 1)) ≡ false
  pub times_zero : is_multipliable 1 (ProductOf (two_parts (Constant (constant_limit + 1)) (Constant 0))) ≡ false
  pub twice : is_multipliable 2 (Constant constant_limit) ≡ false

-- the comparison, where differences that expand to sums of squares count as never negative
abbrev pub is_within : ℕ → Signed → Signed → Bool
is_within den a b = within expands_to_squares den a b

-- the positive part of an integer without variables
abbrev pub constant_part_signed : ℤ → Signed
constant_part_signed z = PositivePart (times z [] ∷ [])

-- the positive part of a constant is a number
pub record ConstantPartsAreNumbers : Type 0 where
  -- [3] is 3, [-3] and [] are 0, and [x + 1] and [x] are factors
  pub three : products_of (constant_part_signed (pos 3)) ≡ number 3 ∷ []
  pub negative : products_of (constant_part_signed (negsuc 2)) ≡ number 0 ∷ []
  pub empty : products_of (PositivePart []) ≡ number 0 ∷ []
  pub sum : products_of x_and_1 ≡ record { times = 1; factors = x_and_1 ∷ [] } ∷ []
  pub variable : products_of x ≡ record { times = 1; factors = x ∷ [] } ∷ []
  -- [1] is within 1 and 1 within [1]; [1] + [1] is within 2, [0] within 0, and [2] isn't within 1
  pub one : is_within 1 (constant_part_signed (pos 1)) (Constant 1) ≡ true
  pub by_one : is_within 1 (Constant 1) (constant_part_signed (pos 1)) ≡ true
  pub two_ones : is_within 1 (SumOf (two_parts (constant_part_signed (pos 1)) (constant_part_signed (pos 1))))
      (Constant 2) ≡ true
  pub zero_in_zero : is_within 1 (constant_part_signed (pos 0)) (Constant 0) ≡ true
  pub two_in_one : is_within 1 (constant_part_signed (pos 2)) (Constant 1) ≡ false
  -- 2^127 - 1 is within the limit taken once, and 2^126 isn't within it taken twice
  pub largest : is_multipliable 1 (constant_part_signed (pos constant_limit)) ≡ true
  pub twice_large : is_multipliable 2 (constant_part_signed (pos (2 ^ 126))) ≡ false
  -- 3 is within [x*x + 3], and 4 isn't; [3 - x*x] is within 3, and not within 2
  pub in_polynomial : is_within 1 (Constant 3) (PositivePart (times (pos 3) [] ∷ times (pos 1) (0 ∷ 0 ∷ []) ∷ [])) ≡ true
  pub above_polynomial : is_within 1 (Constant 4) (PositivePart (times (pos 3) [] ∷ times (pos 1) (0 ∷ 0 ∷ []) ∷ []))
      ≡ false
  pub polynomial : is_within 1 (PositivePart (times (pos 3) [] ∷ times (negsuc 0) (0 ∷ 0 ∷ []) ∷ [])) (Constant 3) ≡ true
  pub above : is_within 1 (PositivePart (times (pos 3) [] ∷ times (negsuc 0) (0 ∷ 0 ∷ []) ∷ [])) (Constant 2) ≡ false

-- worked values of comparing sums, products and numbers
pub record SumsAreCompared : Type 0 where
  -- [x] + 1 is within 1 + [x], and not within [x]; [x] isn't within [y]
  pub order : is_within 1 (SumOf (two_parts x (Constant 1))) (SumOf (two_parts (Constant 1) x)) ≡ true
  pub one_less : is_within 1 (SumOf (two_parts x (Constant 1))) x ≡ false
  pub other : is_within 1 x y ≡ false
  -- [x] + 2*[x] is within 3*[x], and 3*[x] within it; 4*[x] isn't
  pub added : is_within 1 (SumOf (two_parts x (ProductOf (two_parts (Constant 2) x))))
      (ProductOf (two_parts x (Constant 3))) ≡ true
  pub parted : is_within 1 (ProductOf (two_parts x (Constant 3)))
      (SumOf (two_parts x (ProductOf (two_parts (Constant 2) x)))) ≡ true
  pub one_more : is_within 1 (ProductOf (two_parts x (Constant 4)))
      (SumOf (two_parts x (ProductOf (two_parts (Constant 2) x)))) ≡ false
  -- ([x] + 1)*([y] + 2) is within [x]*[y] + 2*[x] + [y] + 2, and not within that with 1 in place of 2
  pub multiplied : is_within 1
      (ProductOf (two_parts (SumOf (two_parts x (Constant 1))) (SumOf (two_parts y (Constant 2)))))
      (SumOf (Part (ProductOf (two_parts y x)) (Part (ProductOf (two_parts (Constant 2) x)) (two_parts y (Constant 2)))))
      ≡ true
  pub multiplied_less : is_within 1
      (ProductOf (two_parts (SumOf (two_parts x (Constant 1))) (SumOf (two_parts y (Constant 2)))))
      (SumOf (Part (ProductOf (two_parts y x)) (Part (ProductOf (two_parts (Constant 2) x)) (two_parts y (Constant 1)))))
      ≡ false
  -- [x] isn't within [x]*[y], which may be 0
  pub factor_left : is_within 1 x (ProductOf (two_parts x y)) ≡ false
  -- [x] is within [x + 1], and [x + 1] isn't within [x]
  pub greater : is_within 1 x x_and_1 ≡ true
  pub lesser : is_within 1 x_and_1 x ≡ false
  -- 2*[x] is within [2*x] and [2*x] within 2*[x], but [2*x + 2] isn't
  pub whole : is_within 1 (ProductOf (two_parts (Constant 2) x)) twice_x ≡ true
  pub in_parts : is_within 1 twice_x (ProductOf (two_parts (Constant 2) x)) ≡ true
  pub not_whole : is_within 1 twice_x_and_2 (ProductOf (two_parts (Constant 2) x)) ≡ false
  -- [x] + [x - 5] isn't within [x + 1], nor 2*[x] + 2*[x] within [2*x]: no product can be taken twice
  pub used_once : is_within 1 (SumOf (two_parts x x_less_5)) x_and_1 ≡ false
  pub used_whole : is_within 1 (SumOf (two_parts (ProductOf (two_parts (Constant 2) x)) (ProductOf (two_parts (Constant 2) x))))
      twice_x ≡ false
  -- 2^127 - 1 is within itself, while 2^127 is past the limit of products, and within itself by its shape alone
  pub largest : is_within 1 (Constant constant_limit) (Constant constant_limit) ≡ true
  pub past_limit : is_within 1 (Constant (constant_limit + 1)) (SumOf (one_part (Constant (constant_limit + 1)))) ≡ false
  pub past_limit_itself : is_within 1 (Constant (constant_limit + 1)) (Constant (constant_limit + 1)) ≡ true

-- worked values of quotients and rounding
pub record QuotientsAreCompared : Type 0 where
  -- each n with 2 * n at most 5 is at most 2, and some isn't at most 1; with 2 * n at most 6 it is at most 3, and some
  -- isn't at most 2
  pub five : is_within 2 (Constant 5) (Constant 2) ≡ true
  pub five_less : is_within 2 (Constant 5) (Constant 1) ≡ false
  pub six : is_within 2 (Constant 6) (Constant 3) ≡ true
  pub six_less : is_within 2 (Constant 6) (Constant 2) ≡ false
  -- ([x*x + 3*x - 4] + 2)/2 is within [x*x + 3*x - 4]/2 + 1, and not within it without the 1
  pub taken_out : is_within 2 (SumOf (two_parts parabola (Constant 2)))
      (SumOf (two_parts (Quotient parabola 2) (Constant 1))) ≡ true
  pub left_out : is_within 2 (SumOf (two_parts parabola (Constant 2))) (Quotient parabola 2) ≡ false
  -- [2*x]/2 is within [x], and [2*x + 2]/2 isn't
  pub divided : is_within 2 twice_x x ≡ true
  pub not_divided : is_within 2 twice_x_and_2 x ≡ false
  -- a quotient is within itself, and not within one by another number
  pub itself : is_within 3 parabola (Quotient parabola 3) ≡ true
  pub other_divisor : is_within 3 parabola (Quotient parabola 4) ≡ false
  pub with_other_divisor : is_within 1 (Quotient parabola 3) (Quotient parabola 4) ≡ false
  -- with the divisor 2, [x] + [x] isn't within 2*([x]/2)
  pub rounded_twice : is_within 2 (SumOf (two_parts x x)) (ProductOf (two_parts (Constant 2) (Quotient x 2))) ≡ false
  -- the second of two quotients is used if the first one doesn't suffice
  pub second_quotient : is_within 2 parabola (SumOf (two_parts (Quotient y 2) (Quotient parabola 2))) ≡ true

-- worked values of maxima, minima, roots and powers
pub record ShapesAreCompared : Type 0 where
  -- [x] is within max([y], [x]), and max([y], [x]) isn't within [x]
  pub part : is_within 1 x (MaximumOf (two_parts y x)) ≡ true
  pub not_part : is_within 1 (MaximumOf (two_parts y x)) x ≡ false
  -- 6 is within 2*max([x], 3), and 7 isn't
  pub number_in_maximum : is_within 1 (Constant 6)
      (ProductOf (two_parts (Constant 2) (MaximumOf (two_parts x (Constant 3))))) ≡ true
  pub number_above : is_within 1 (Constant 7)
      (ProductOf (two_parts (Constant 2) (MaximumOf (two_parts x (Constant 3))))) ≡ false
  -- min([x], [y]) is within min([x + 1], [y]), and that isn't within it
  pub minimum : is_within 1 (MinimumOf x (one_part y)) (MinimumOf x_and_1 (one_part y)) ≡ true
  pub not_minimum : is_within 1 (MinimumOf x_and_1 (one_part y)) (MinimumOf x (one_part y)) ≡ false
  -- the root of [x] is within that of [x + 1], and that isn't within it
  pub root : is_within 1 (Root x) (Root x_and_1) ≡ true
  pub not_root : is_within 1 (Root x_and_1) (Root x) ≡ false
  -- 2^[x] is within 3^[x + 1]; 3^[x] isn't within 2^[x + 1], nor 0^[x] within itself
  pub power : is_within 1 (PowerOf 2 x) (PowerOf 3 x_and_1) ≡ true
  pub lesser_base : is_within 1 (PowerOf 3 x) (PowerOf 2 x_and_1) ≡ false
  pub base_0 : is_within 1 (PowerOf 0 x) (PowerOf 0 x) ≡ false
  -- root([x] + 1) is within root([x + 1] + 2), and not within root(1 + [x]): inside a root sums go part by part
  pub root_of_sum : is_within 1 (Root (SumOf (two_parts x (Constant 1)))) (Root (SumOf (two_parts x_and_1 (Constant 2))))
      ≡ true
  pub root_of_other_order : is_within 1 (Root (SumOf (two_parts x (Constant 1))))
      (Root (SumOf (two_parts (Constant 1) x))) ≡ false
  -- root([x]*2) is within root([x + 1]*3), and that isn't within it
  pub root_of_product : is_within 1 (Root (ProductOf (two_parts x (Constant 2))))
      (Root (ProductOf (two_parts x_and_1 (Constant 3)))) ≡ true
  pub not_root_of_product : is_within 1 (Root (ProductOf (two_parts x_and_1 (Constant 3))))
      (Root (ProductOf (two_parts x (Constant 2)))) ≡ false
  -- max([x], 2) is within max([x + 1], 3), and that isn't within it
  pub maximum : is_within 1 (MaximumOf (two_parts x (Constant 2))) (MaximumOf (two_parts x_and_1 (Constant 3))) ≡ true
  pub not_maximum : is_within 1 (MaximumOf (two_parts x_and_1 (Constant 3))) (MaximumOf (two_parts x (Constant 2))) ≡ false
  -- the root of [x]/2 is within that of [x + 1]/2, and not within that of [x + 1]/3
  pub root_of_quotient : is_within 1 (Root (Quotient x 2)) (Root (Quotient x_and_1 2)) ≡ true
  pub root_of_other_quotient : is_within 1 (Root (Quotient x 2)) (Root (Quotient x_and_1 3)) ≡ false
  -- min([x]) isn't within min([x], [y]); nor is min([x], [y]) within min([x]), since shapes are compared part by part
  pub fewer_parts : is_within 1 (MinimumOf x NoParts) (MinimumOf x (one_part y)) ≡ false
  pub more_parts : is_within 1 (MinimumOf x (one_part y)) (MinimumOf x NoParts) ≡ false

-- n copies of a part
abbrev pub repeated : Signed → ℕ → SignedParts
repeated b zero = NoParts
repeated b (suc n) = Part b (repeated b n)

-- the polynomial with n monomials x
abbrev pub long_polynomial : ℕ → Polynomial
long_polynomial zero = []
long_polynomial (suc n) = times (pos 1) (0 ∷ []) ∷ long_polynomial n

-- the bound ([x + .. + x] + 1)^6, where each polynomial has n monomials
abbrev pub heavy : ℕ → Signed
heavy n = ProductOf (repeated (SumOf (two_parts (PositivePart (long_polynomial n)) (Constant 1))) 6)

-- the bound [x + .. + x]*([x] + 1)^12, where the long polynomial has n monomials
abbrev pub wide : ℕ → Signed
wide n = ProductOf (Part (PositivePart (long_polynomial n)) (powers_of_sum 12))

-- worked values of sums that are compared, and of sums that are too large for it
pub record LimitsOfComparisons : Type 0 where
  -- [x] + [x] has the size 8: two products of one factor each, which has three nodes
  pub size : factor_total (products_of (SumOf (two_parts x x))) ≡ 8
  -- sums of size 256 and 512 are compared, and of 260 and 512 they aren't
  pub largest : is_comparable (products_of (SumOf (repeated x 64))) (products_of (SumOf (repeated x 128))) ≡ true
  pub larger : is_comparable (products_of (SumOf (repeated x 65))) (products_of (SumOf (repeated x 128))) ≡ false
  -- 65 times [x] isn't found within 128 times [x], since these sums are too large
  pub too_large : is_within 1 (SumOf (repeated x 65)) (SumOf (repeated x 128)) ≡ false
  -- ([x + .. + x] + 1)^6 is within the limits of a bound and is multiplied out, into 64 products with 192 factors in
  -- all. Where each factor has 201 nodes these are too many to be compared with themselves and 1, but the bound fits
  -- itself.
  pub heavy_in_limits : exceeds_limits (heavy 100) ≡ false
  pub heavy_multiplied : is_multipliable 1 (heavy 100) ≡ true
  pub heavy_size : factor_total (products_of (heavy 100)) ≡ 64 + 192 * 201
  pub heavy_refused : is_within 1 (heavy 100) (SumOf (two_parts (heavy 100) (Constant 1))) ≡ false
  pub heavy_fits : is_within 1 (heavy 100) (heavy 100) ≡ true
  -- [x + .. + x]*([x] + 1)^12, with 100 monomials, is within the limits of a bound and has 4,096 products. They would
  -- have a million nodes, so it isn't multiplied out.
  pub wide_in_limits : exceeds_limits (wide 100) ≡ false
  pub wide_products : product_count (wide 100) ≡ 4096
  pub wide_refused : is_multipliable 1 (wide 100) ≡ false
  -- of 16 quotients each is tried, and of 17 none
  pub sixteen : is_within 2 x (SumOf (Part (Quotient x 2) (repeated (Quotient y 2) 15))) ≡ true
  pub seventeen : is_within 2 x (SumOf (Part (Quotient x 2) (repeated (Quotient y 2) 16))) ≡ false
