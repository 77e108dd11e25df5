-- Worked values of rows.
use Rattle.std.specs.Prelude.{◌≡◌, List, [], ◌∷◌, ℤ, pos, negsuc, None, true, false}
use Rattle.poly_terms.specs.model.Terms.{Term, Literal, Variable, Addition, Subtraction, Multiplication}
use Rattle.poly_terms.specs.model.Programs.{AtLeast, MoreThan, AtMost, LessThan, EqualTo, Atom, Always, Compare, Rule}
use Rattle.poly_terms.specs.linear_forms.Forms.{Form}
use Rattle.guard_prep.specs.Tightening.{divisor_of, tightened}
use Rattle.guard_prep.specs.Prepared.{rows_of, new_values_of, nonlinear_of, unknowns_of}

-- the rule l0(A) -> l1(updates) with these atoms as guard, and with one free variable B
abbrev pub with_free : List Term → List Atom → Rule
with_free updates guard = record {
  source = 0;
  target = 1;
  left = 1;
  free = 1;
  names = (65 ∷ []) ∷ (66 ∷ []) ∷ [];
  updates = updates;
  guard = guard;
  cost = None;
}

-- the expressions 2*A, A*A, A + 1 and A*B
abbrev pub twice : Term
twice = Multiplication (Literal (pos 2)) (Variable 0)

abbrev pub square : Term
square = Multiplication (Variable 0) (Variable 0)

abbrev pub successor : Term
successor = Addition (Variable 0) (Literal (pos 1))

abbrev pub product : Term
product = Multiplication (Variable 0) (Variable 1)

-- a form over two unknowns, over three and over four
abbrev pub two : ℤ → ℤ → ℤ → Form
two a b c = record { coefs = a ∷ b ∷ []; constant = c }

abbrev pub three : ℤ → ℤ → ℤ → ℤ → Form
three a b x c = record { coefs = a ∷ b ∷ x ∷ []; constant = c }

abbrev pub four : ℤ → ℤ → ℤ → ℤ → ℤ → Form
four a b x y c = record { coefs = a ∷ b ∷ x ∷ y ∷ []; constant = c }

-- the greatest common divisors of 4 and -6, of -9 and 0, of 2 and 3, of zeros, and of no coefficients
pub record DivisorsAreWorkedOut : Type 0 where
  pub common : divisor_of (pos 4 ∷ negsuc 5 ∷ []) ≡ 2
  pub alone : divisor_of (negsuc 8 ∷ pos 0 ∷ []) ≡ 9
  pub coprime : divisor_of (pos 2 ∷ pos 3 ∷ []) ≡ 1
  pub zeros : divisor_of (pos 0 ∷ pos 0 ∷ []) ≡ 0
  pub none : divisor_of [] ≡ 0

-- the tightened rows of 2*A - 1, -2*A + 1, 4*A - 6*B - 3 and 2*A + 3*B + 1, and of the rows without coefficients 0, 2
-- and -7
pub record RowsAreTightened : Type 0 where
  pub up : tightened (two (pos 2) (pos 0) (negsuc 0)) ≡ two (pos 1) (pos 0) (negsuc 0) ∷ []
  pub down : tightened (two (negsuc 1) (pos 0) (pos 1)) ≡ two (negsuc 0) (pos 0) (pos 0) ∷ []
  pub both : tightened (two (pos 4) (negsuc 5) (negsuc 2)) ≡ two (pos 2) (negsuc 2) (negsuc 1) ∷ []
  pub apart : tightened (two (pos 2) (pos 3) (pos 1)) ≡ two (pos 2) (pos 3) (pos 1) ∷ []
  pub says_nothing : tightened (two (pos 0) (pos 0) (pos 0)) ≡ []
  pub always : tightened (two (pos 0) (pos 0) (pos 2)) ≡ []
  pub never : tightened (two (pos 0) (pos 0) (negsuc 6)) ≡ two (pos 0) (pos 0) (negsuc 0) ∷ []

-- the rows of guards: of each relation between A and B; of a contradiction; of the atom that always holds; of 2*A >= 1
-- and 2*A <= 1; of an atom of degree 2; and of squares that cancel
pub record GuardsHaveRows : Type 0 where
  pub at_least : rows_of (with_free [] (Compare (Variable 0) AtLeast (Variable 1) ∷ []))
      ≡ two (pos 1) (negsuc 0) (pos 0) ∷ []
  pub more_than : rows_of (with_free [] (Compare (Variable 0) MoreThan (Variable 1) ∷ []))
      ≡ two (pos 1) (negsuc 0) (negsuc 0) ∷ []
  pub at_most : rows_of (with_free [] (Compare (Variable 0) AtMost (Variable 1) ∷ []))
      ≡ two (negsuc 0) (pos 1) (pos 0) ∷ []
  pub less_than : rows_of (with_free [] (Compare (Variable 0) LessThan (Variable 1) ∷ []))
      ≡ two (negsuc 0) (pos 1) (negsuc 0) ∷ []
  pub equal_to : rows_of (with_free [] (Compare (Variable 0) EqualTo (Variable 1) ∷ []))
      ≡ two (pos 1) (negsuc 0) (pos 0) ∷ two (negsuc 0) (pos 1) (pos 0) ∷ []
  pub contradiction : rows_of (with_free [] (Compare (Literal (pos 0)) AtLeast (Literal (pos 1)) ∷ []))
      ≡ two (pos 0) (pos 0) (negsuc 0) ∷ []
  pub always : rows_of (with_free [] (Always ∷ [])) ≡ []
  pub conjunction : rows_of (with_free [] (Compare twice AtLeast (Literal (pos 1))
      ∷ Compare twice AtMost (Literal (pos 1)) ∷ []))
      ≡ two (pos 1) (pos 0) (negsuc 0) ∷ two (negsuc 0) (pos 0) (pos 0) ∷ []
  pub degree_two : rows_of (with_free [] (Compare square AtLeast (Literal (pos 1)) ∷ [])) ≡ []
  pub cancelled : rows_of (with_free [] (Compare (Addition square (Variable 0)) AtLeast square ∷ []))
      ≡ two (pos 1) (pos 0) (pos 0) ∷ []

-- the forms of the new values A + 1, A*B and A: the second place is nonlinear and has the third unknown, so the row of
-- A >= B has three coefficients; of two nonlinear places, the first has the third unknown and the second the fourth;
-- A*A + B - A*A is linear
pub record UpdatesHaveForms : Type 0 where
  pub new_values : new_values_of (with_free (successor ∷ product ∷ Variable 0 ∷ []) [])
      ≡ three (pos 1) (pos 0) (pos 0) (pos 1) ∷ three (pos 0) (pos 0) (pos 1) (pos 0)
      ∷ three (pos 1) (pos 0) (pos 0) (pos 0) ∷ []
  pub nonlinear : nonlinear_of (with_free (successor ∷ product ∷ Variable 0 ∷ []) []) ≡ false ∷ true ∷ false ∷ []
  pub unknowns : unknowns_of (with_free (successor ∷ product ∷ Variable 0 ∷ []) []) ≡ 3
  pub row : rows_of (with_free (successor ∷ product ∷ Variable 0 ∷ []) (Compare (Variable 0) AtLeast (Variable 1) ∷ []))
      ≡ three (pos 1) (negsuc 0) (pos 0) (pos 0) ∷ []
  pub two_nonlinear : new_values_of (with_free (square ∷ product ∷ []) [])
      ≡ four (pos 0) (pos 0) (pos 1) (pos 0) (pos 0) ∷ four (pos 0) (pos 0) (pos 0) (pos 1) (pos 0) ∷ []
  pub cancelled : nonlinear_of (with_free (Subtraction (Addition square (Variable 1)) square ∷ []) []) ≡ false ∷ []

-- All worked values of this file.
pub record RowsAreWorkedOut : Type 0 where
  pub divisors : DivisorsAreWorkedOut
  pub tightened_rows : RowsAreTightened
  pub guards : GuardsHaveRows
  pub updates : UpdatesHaveForms
