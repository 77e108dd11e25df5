-- Worked values of expanded forms, first faults, rows and values.
use Rattle.std.specs.Prelude.{◌≡◌, ℕ, zero, suc, List, [], ◌∷◌, ℤ, pos, negsuc, Some, None}
use Rattle.model.specs.Terms.{Term, Literal, Variable, Negation, Addition, Subtraction, Multiplication, Exponentiation}
use Rattle.model.specs.Polynomials.{Monomial}
use Rattle.poly_terms.specs.Expanding.{expanded}
use Rattle.poly_terms.specs.Faults.{LargeCoefficient, ManyTerms, HighDegree, subexpressions, first_fault}
use Rattle.poly_terms.specs.Ordered.{IsOrdered}
use Rattle.poly_terms.specs.AffineForms.{linear_form}
use Rattle.poly_terms.specs.Checked.{value_within, ReadsBelow}

-- a number times variables
abbrev pub times : ℤ → List ℕ → Monomial
times z vs = record { coef = z; vars = vs }

-- the expressions A and B
abbrev pub A : Term
A = Variable 0

abbrev pub B : Term
B = Variable 1

-- the greatest coefficient, 2^63 - 1
abbrev pub maximum : ℤ
maximum = pos 9223372036854775807

-- the greatest and the least integer of 128 bits, 2^127 - 1 and -2^127
abbrev pub maximum_integer : ℤ
maximum_integer = pos 170141183460469231731687303715884105727

abbrev pub least_value : ℤ
least_value = negsuc 170141183460469231731687303715884105727

-- worked values of expanded forms
pub record FormsAreExpanded : Type 0 where
  -- (A + B) * (A - B) is A*A - B*B
  pub squares : expanded (Multiplication (Addition A B) (Subtraction A B))
      ≡ times (pos 1) (0 ∷ 0 ∷ []) ∷ times (negsuc 0) (1 ∷ 1 ∷ []) ∷ []
  -- (A + B)^2 is A*A + 2*A*B + B*B, and (A + 1)^2 is 1 + 2*A + A*A: a proper prefix comes first
  pub binomial : expanded (Exponentiation (Addition A B) 2)
      ≡ times (pos 1) (0 ∷ 0 ∷ []) ∷ times (pos 2) (0 ∷ 1 ∷ []) ∷ times (pos 1) (1 ∷ 1 ∷ []) ∷ []
  pub prefixes : expanded (Exponentiation (Addition A (Literal (pos 1))) 2)
      ≡ times (pos 1) [] ∷ times (pos 2) (0 ∷ []) ∷ times (pos 1) (0 ∷ 0 ∷ []) ∷ []
  -- B*A has its variables in order; A - A has no monomial, A^0 is 1, and 0 has no monomial
  pub sorted : expanded (Multiplication B A) ≡ times (pos 1) (0 ∷ 1 ∷ []) ∷ []
  pub cancelled : expanded (Subtraction A A) ≡ []
  pub no_power : expanded (Exponentiation A 0) ≡ times (pos 1) [] ∷ []
  pub nothing : expanded (Literal (pos 0)) ≡ []
  -- -(A - 2) is 2 - A
  pub negated : expanded (Negation (Subtraction A (Literal (pos 2))))
      ≡ times (pos 2) [] ∷ times (negsuc 0) (0 ∷ []) ∷ []

-- which polynomials are ordered
pub record OrderIsKept : Type 0 where
  -- 1 + A + A*B + B is ordered, and so is the empty polynomial
  pub ordered : IsOrdered (times (pos 1) [] ∷ times (pos 1) (0 ∷ []) ∷ times (pos 1) (0 ∷ 1 ∷ [])
      ∷ times (pos 1) (1 ∷ []) ∷ [])
  pub empty : IsOrdered []
  -- A + 1, A + A, B*A and 0*A are not ordered
  pub prefix_last : ¬ (IsOrdered (times (pos 1) (0 ∷ []) ∷ times (pos 1) [] ∷ []))
  pub twice : ¬ (IsOrdered (times (pos 1) (0 ∷ []) ∷ times (pos 1) (0 ∷ []) ∷ []))
  pub factors : ¬ (IsOrdered (times (pos 1) (1 ∷ 0 ∷ []) ∷ []))
  pub zero_kept : ¬ (IsOrdered (times (pos 0) (0 ∷ []) ∷ []))

-- the sum of the variables from 0 to n, from left to right
abbrev pub variables_to : ℕ → Term
variables_to zero = Variable 0
variables_to (suc n) = Addition (variables_to n) (Variable (suc n))

-- worked values at the limits of expanded forms
pub record LimitsAreKept : Type 0 where
  -- 2^63 - 1 is permitted as a coefficient, the next number isn't; a sum or a product over it isn't, either
  pub largest : first_fault (Literal maximum) ≡ None
  pub too_large : first_fault (Literal (pos 9223372036854775808)) ≡ Some LargeCoefficient
  pub smallest : first_fault (Literal (negsuc 9223372036854775806)) ≡ None
  pub too_small : first_fault (Literal (negsuc 9223372036854775807)) ≡ Some LargeCoefficient
  pub sum : first_fault (Addition (Literal maximum) (Literal (pos 1))) ≡ Some LargeCoefficient
  pub product_of_literals : first_fault (Multiplication (Literal (pos 4294967296)) (Literal (pos 2147483648)))
      ≡ Some LargeCoefficient
  -- terms that cancel are permitted: (2^63 - 1) * A - (2^63 - 1) * A
  pub cancelled : first_fault (Subtraction (Multiplication (Literal maximum) A) (Multiplication (Literal maximum) A))
      ≡ None
  -- 64 monomials are permitted, 65 aren't
  pub most_terms : first_fault (variables_to 63) ≡ None
  pub many_terms : first_fault (variables_to 64) ≡ Some ManyTerms
  -- A^8 has no fault; A^9 has one, and so has A^4 * A^5; 1^9 has one, since its exponent is over 8
  pub eighth : first_fault (Exponentiation A 8) ≡ None
  pub ninth : first_fault (Exponentiation A 9) ≡ Some HighDegree
  pub product : first_fault (Multiplication (Exponentiation A 4) (Exponentiation A 5)) ≡ Some HighDegree
  pub power_of_one : first_fault (Exponentiation (Literal (pos 1)) 9) ≡ Some HighDegree

-- which subexpression's fault comes first
pub record FaultsComeInOrder : Type 0 where
  -- the subexpressions of (A + B)^2 are A, B, A + B, and then its powers
  pub listed : subexpressions (Exponentiation (Addition A B) 2)
      ≡ A ∷ B ∷ Addition A B ∷ Exponentiation (Addition A B) 0 ∷ Exponentiation (Addition A B) 1
      ∷ Exponentiation (Addition A B) 2 ∷ []
  -- (A - A) * A^9 is 0, but A^9 has a fault
  pub times_zero : first_fault (Multiplication (Subtraction A A) (Exponentiation A 9)) ≡ Some HighDegree
  -- 2^63, as a power, has exponent 9 among its lower powers, which is its fault; 200^9 has too large a coefficient,
  -- which is the lesser fault
  pub power_of_two : first_fault (Exponentiation (Literal (pos 2)) 63) ≡ Some HighDegree
  pub power_of_200 : first_fault (Exponentiation (Literal (pos 200)) 9) ≡ Some LargeCoefficient
  -- the second power of 2^40 has too large a coefficient already, so (2^40)^9 has this fault
  pub lower_power : first_fault (Exponentiation (Literal (pos 1099511627776)) 9) ≡ Some LargeCoefficient
  -- the base comes before its powers: (A^9)^0, and (2^63)^0 with a literal, are refused, although they are 1
  pub base_first : first_fault (Exponentiation (Exponentiation A 9) 0) ≡ Some HighDegree
  pub literal_base : first_fault (Exponentiation (Literal (pos 9223372036854775808)) 0) ≡ Some LargeCoefficient
  -- a child's fault comes before its parent's, even if the parent's is the lesser one; and the left operand's comes
  -- before the right one's
  pub child_first : first_fault (Multiplication (Multiplication (Literal maximum) (Exponentiation A 9))
      (Literal (pos 2))) ≡ Some HighDegree
  pub left_first : first_fault (Addition (Literal (pos 9223372036854775808)) (Exponentiation A 9))
      ≡ Some LargeCoefficient
  pub right_last : first_fault (Addition (Exponentiation A 9) (Literal (pos 9223372036854775808))) ≡ Some HighDegree
  -- of two faults of one subexpression the lesser is reported: A^5 * 2^62 times A^4 * 2 has both degree 9 and the
  -- coefficient 2^63
  pub lesser : first_fault (Multiplication (Multiplication (Literal (pos 4611686018427387904)) (Exponentiation A 5))
      (Multiplication (Literal (pos 2)) (Exponentiation A 4)))
      ≡ Some LargeCoefficient

-- worked values of linear forms, and of values in 128 bits
pub record RowsAndValues : Type 0 where
  -- the form of 2*B - 3 over three unknowns
  pub row : linear_form 3 (times (negsuc 2) [] ∷ times (pos 2) (1 ∷ []) ∷ [])
      ≡ record { coefs = pos 0 ∷ pos 2 ∷ pos 0 ∷ []; constant = negsuc 2 }
  -- 2^127 - 1 is a value, and one more isn't; -2^127 is a value, and one less isn't, nor is its negation, even if it is
  -- multiplied by 0
  pub maximum_value : value_within A (maximum_integer ∷ []) ≡ Some maximum_integer
  pub past_it : value_within (Addition A (Literal (pos 1))) (maximum_integer ∷ []) ≡ None
  pub minimum_value : value_within A (least_value ∷ []) ≡ Some least_value
  pub below_it : value_within (Subtraction A (Literal (pos 1))) (least_value ∷ []) ≡ None
  pub opposite : value_within (Negation A) (least_value ∷ []) ≡ None
  pub times_zero : value_within (Multiplication (Literal (pos 0)) (Negation A)) (least_value ∷ []) ≡ None
  -- 2^126 + 2^126 - 2^126 has no value, as 2^126 + 2^126 has none; -2^126 - 2^126 has the value -2^127
  pub on_the_way : value_within (Subtraction (Addition A A) A) (pos 85070591730234615865843651857942052864 ∷ []) ≡ None
  pub negative_sum : value_within (Addition A A) (negsuc 85070591730234615865843651857942052863 ∷ []) ≡ Some least_value
  -- 2^127 as a power isn't a value, and (-2)^127 is the value -2^127; the lower powers don't matter
  pub power : value_within (Exponentiation A 127) (pos 2 ∷ []) ≡ None
  pub negative_power : value_within (Exponentiation A 127) (negsuc 1 ∷ []) ≡ Some least_value
  pub no_power : value_within (Exponentiation A 0) (pos 0 ∷ []) ≡ Some (pos 1)
  -- the value of A - 2*B at A = 7 and B = 3
  pub small : value_within (Subtraction A (Multiplication (Literal (pos 2)) B)) (pos 7 ∷ pos 3 ∷ []) ≡ Some (pos 1)
  -- the variables of A + B^2 are below 2, and not all below 1
  pub reads : ReadsBelow 2 (Addition A (Exponentiation B 2))
  pub reads_more : ¬ (ReadsBelow 1 (Addition A (Exponentiation B 2)))

-- All worked values of this file.
pub record FormsAreWorkedOut : Type 0 where
  pub forms : FormsAreExpanded
  pub ordered : OrderIsKept
  pub limits : LimitsAreKept
  pub faults : FaultsComeInOrder
  pub rows : RowsAndValues
