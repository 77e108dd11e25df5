-- Bounds as sums of products.
use Rattle.std.specs.Prelude.{ℕ, ◌+◌, ◌*◌, max, Bool, ◌&&◌, nat_le, List, [], ◌∷◌, ◌++◌, map, ℤ}
use Rattle.std.specs.Prelude.{Option, Some, None}
use Rattle.poly_terms.specs.model.Polynomials.{Polynomial}
use Rattle.signed_bounds.specs.Bounds.{Signed, Constant, PositivePart, SumOf, ProductOf, MaximumOf, MinimumOf, Quotient}
use Rattle.signed_bounds.specs.Bounds.{Root, PowerOf, SignedParts, NoParts, Part, signed_val, positive_part}
use Rattle.signed_bounds.specs.Limits.{constant_limit, product_limit, expansion_limit, comparison_limit}
use Rattle.signed_bounds.specs.Measure.{node_count}

-- a product of bounds, taken a number of times
pub record Product : Type 0 where
  pub times : ℕ
  pub factors : List Signed

-- the product of the values of factors; that of none is 1
abbrev pub factors_val : List Signed → List ℤ → ℕ
factors_val [] x = 1
factors_val (f ∷ fs) x = signed_val f x * factors_val fs x

-- the sum of the values of products, each as often as it is taken
abbrev pub products_val : List Product → List ℤ → ℕ
products_val [] x = 0
products_val (p ∷ ps) x = p.times * factors_val p.factors x + products_val ps x

-- the sum of the numbers of products
abbrev pub times_sum : List Product → ℕ
times_sum [] = 0
times_sum (p ∷ ps) = p.times + times_sum ps

-- a number as a product without factors
abbrev pub number : ℕ → Product
number n = record { times = n; factors = [] }

-- a bound as a product of one factor
abbrev pub factor : Signed → Product
factor b = record { times = 1; factors = b ∷ [] }

-- the positive part of an integer times variables, where there is no variable
abbrev pub constant_part_of : ℤ → List ℕ → Option ℕ
constant_part_of z [] = Some (positive_part z)
constant_part_of z (v ∷ vs) = None

-- the positive part of a polynomial as a number, if it is written as one: without monomials, or with a single one that
-- has no variables
abbrev pub constant_part : Polynomial → Option ℕ
constant_part [] = Some 0
constant_part (m ∷ []) = constant_part_of m.coef m.vars
constant_part (m ∷ n ∷ ms) = None

-- the positive part of a polynomial as a product: a number if the polynomial is written as one, else a factor
abbrev pub part_or_number : Polynomial → Option ℕ → Product
part_or_number p None = factor (PositivePart p)
part_or_number p (Some n) = number n

abbrev pub part_product : Polynomial → Product
part_product p = part_or_number p (constant_part p)

-- the product of two products
abbrev pub joined : Product → Product → Product
joined p q = record { times = p.times * q.times; factors = p.factors ++ q.factors }

-- the products of each product of the first list with each of the second
abbrev pub multiplied : List Product → List Product → List Product
multiplied [] qs = []
multiplied (p ∷ ps) qs = map (joined p) qs ++ multiplied ps qs

-- each product taken n times as often
abbrev pub scaled : ℕ → List Product → List Product
scaled n [] = []
scaled n (p ∷ ps) = record { times = n * p.times; factors = p.factors } ∷ scaled n ps

-- a bound as a sum of products: sums and products are multiplied out, constants and positive parts of constants are
-- numbers, and everything else is a factor
abbrev mutual
  pub products_of : Signed → List Product
  products_of (Constant c) = number c ∷ []
  products_of (PositivePart p) = part_product p ∷ []
  products_of (SumOf bs) = products_of_sum bs
  products_of (ProductOf bs) = multiplied_by_parts bs (number 1 ∷ [])
  products_of (MaximumOf bs) = factor (MaximumOf bs) ∷ []
  products_of (MinimumOf b bs) = factor (MinimumOf b bs) ∷ []
  products_of (Quotient b d) = factor (Quotient b d) ∷ []
  products_of (Root b) = factor (Root b) ∷ []
  products_of (PowerOf c e) = factor (PowerOf c e) ∷ []

  pub products_of_sum : SignedParts → List Product
  products_of_sum NoParts = []
  products_of_sum (Part b bs) = products_of b ++ products_of_sum bs

  -- a sum of products times each of the parts
  pub multiplied_by_parts : SignedParts → List Product → List Product
  multiplied_by_parts NoParts ps = ps
  multiplied_by_parts (Part b bs) ps = multiplied_by_parts bs (multiplied ps (products_of b))

-- the number of products that a bound is multiplied out into; an empty sum counts as one
abbrev mutual
  pub product_count : Signed → ℕ
  product_count (Constant c) = 1
  product_count (PositivePart p) = 1
  product_count (SumOf bs) = max 1 (product_count_of_sum bs)
  product_count (ProductOf bs) = product_count_of_product bs
  product_count (MaximumOf bs) = 1
  product_count (MinimumOf b bs) = 1
  product_count (Quotient b d) = 1
  product_count (Root b) = 1
  product_count (PowerOf c e) = 1

  pub product_count_of_sum : SignedParts → ℕ
  product_count_of_sum NoParts = 0
  product_count_of_sum (Part b bs) = product_count b + product_count_of_sum bs

  pub product_count_of_product : SignedParts → ℕ
  product_count_of_product NoParts = 1
  product_count_of_product (Part b bs) = product_count b * product_count_of_product bs

-- a number; 0, or no number, counts as 1
abbrev pub at_least_1 : Option ℕ → ℕ
at_least_1 None = 1
at_least_1 (Some n) = max 1 n

-- the sum of the numbers of these products; the number 0, and an empty sum, count as 1
abbrev mutual
  pub number_sum : Signed → ℕ
  number_sum (Constant c) = max 1 c
  number_sum (PositivePart p) = at_least_1 (constant_part p)
  number_sum (SumOf bs) = max 1 (number_sum_of_sum bs)
  number_sum (ProductOf bs) = number_sum_of_product bs
  number_sum (MaximumOf bs) = 1
  number_sum (MinimumOf b bs) = 1
  number_sum (Quotient b d) = 1
  number_sum (Root b) = 1
  number_sum (PowerOf c e) = 1

  pub number_sum_of_sum : SignedParts → ℕ
  number_sum_of_sum NoParts = 0
  number_sum_of_sum (Part b bs) = number_sum b + number_sum_of_sum bs

  pub number_sum_of_product : SignedParts → ℕ
  number_sum_of_product NoParts = 1
  number_sum_of_product (Part b bs) = number_sum b * number_sum_of_product bs

-- whether a bound is multiplied out into few products: at most 4,096, and their number times the number of the bound's
-- nodes is at most 262,144
abbrev pub is_expandable : Signed → Bool
is_expandable b =
    nat_le (product_count b) product_limit && nat_le (product_count b * node_count b) expansion_limit

-- whether a bound is multiplied out within the limits: into few products, and with numbers that, times n, are at most
-- 2^127 - 1
abbrev pub is_multipliable : ℕ → Signed → Bool
is_multipliable n b = is_expandable b && nat_le (n * number_sum b) constant_limit

-- the number of nodes of all factors
abbrev pub factor_nodes : List Signed → ℕ
factor_nodes [] = 0
factor_nodes (f ∷ fs) = node_count f + factor_nodes fs

-- the size of a sum of products: 1 for each product and for each node of its factors
abbrev pub factor_total : List Product → ℕ
factor_total [] = 0
factor_total (p ∷ ps) = (1 + factor_nodes p.factors) + factor_total ps

-- whether two sums of products are compared: their sizes multiplied are at most 131,072
abbrev pub is_comparable : List Product → List Product → Bool
is_comparable ps qs = nat_le (factor_total ps * factor_total qs) comparison_limit
