-- Worked values of the questions for places, of the first side bound of a side, and of unbounded sides.
use Rattle.std.specs.Prelude.{◌≡◌, true, false, [], ◌∷◌, pos, negsuc, None}
use Rattle.cert_types.specs.rule_forms.Kinds.{Number, Argument, Affine, Plus, Minus}
use Rattle.cert_types.specs.rule_forms.Worked.{line_form}
use Rattle.poly_terms.specs.model.Terms.{Term, Variable, Literal, Addition, Subtraction}
use Rattle.poly_terms.specs.model.Programs.{AtLeast, Compare, Rule}
use Rattle.guard_prep.specs.Prepared.{Prepared, prepared}
use Rattle.guard_prep.specs.WorkedRows.{with_free, square, successor, product, two}
use Rattle.cert_types.specs.cert_rules.Nodes.{Linear, Poly}
use Rattle.cert_types.specs.cert_rules.AcceptsSizes.{Up, Low}
use Rattle.local_size.specs.Places.{value_on, is_polynomial_at, kinds_of}
use Rattle.local_size.specs.LocalLaws.{IsFirstSideBound, IsUnboundedSide}

-- the rule l0(A) -> l1(update), with a free variable B and no guard
abbrev pub updated : Term → Prepared
updated update = prepared (with_free (update ∷ []) [])

-- the rule l0(A) -> l1(A + 1, A*A)
abbrev pub both_updated : Prepared
both_updated = prepared (with_free (successor ∷ square ∷ []) [])

-- the rule l0(A) -> l1(A - 1) :|: A >= 1
abbrev pub falling_rule : Rule
falling_rule = record {
  source = 0;
  target = 1;
  left = 1;
  free = 0;
  names = (65 ∷ []) ∷ [];
  updates = Subtraction (Variable 0) (Literal (pos 1)) ∷ [];
  guard = Compare (Variable 0) AtLeast (Literal (pos 1)) ∷ [];
  cost = None;
}

-- A*A is a polynomial of degree 2 or more in left variables, and so is A*A + B - B; A*B contains a free variable, and A
-- + 1 and A*A + A - A*A have degree 1; places count from 1
pub record PolynomialsAreWorkedOut : Type 0 where
  pub polynomial : is_polynomial_at (updated square) 1 ≡ true
  pub free_cancelled : is_polynomial_at (updated (Subtraction (Addition square (Variable 1)) (Variable 1))) 1 ≡ true
  pub reads_free : is_polynomial_at (updated product) 1 ≡ false
  pub straight : is_polynomial_at (updated successor) 1 ≡ false
  pub square_cancelled : is_polynomial_at (updated (Subtraction (Addition square (Variable 0)) square)) 1 ≡ false
  pub first_place : is_polynomial_at both_updated 1 ≡ false
  pub second_place : is_polynomial_at both_updated 2 ≡ true
  pub no_place : is_polynomial_at both_updated 0 ≡ false
  pub past : is_polynomial_at both_updated 3 ≡ false

-- all kinds are tried if the update has degree 1, and only any affine form if it has degree 2 or more
pub record KindsOfPlacesAreWorkedOut : Type 0 where
  pub straight : kinds_of (updated successor) 1 ≡ Number ∷ Argument 1 Plus ∷ Argument 1 Minus ∷ Affine ∷ []
  pub nonlinear : kinds_of (updated product) 1 ≡ Affine ∷ []
  pub first_place : kinds_of both_updated 1 ≡ Number ∷ Argument 1 Plus ∷ Argument 1 Minus ∷ Affine ∷ []
  pub second_place : kinds_of both_updated 2 ≡ Affine ∷ []

-- the value of A + 1 on the upper side, and its negation on the lower side
pub record SidesAreWorkedOut : Type 0 where
  pub up : value_on Up (updated successor) 1 ≡ two (pos 1) (pos 0) (pos 1)
  pub low : value_on Low (updated successor) 1 ≡ two (negsuc 0) (pos 0) (negsuc 0)

-- for A >= 1, the first side bound of A - 1 is A on the upper side and 0 on the lower side, whatever the multipliers
-- are; 5 isn't one on the upper side, A isn't the first on the lower side, and the polynomial is on neither. The first
-- side bound of A*A is the polynomial and no other form; that of A*B isn't the polynomial
pub record FirstSideBoundsAreWorkedOut : Type 0 where
  pub up : IsFirstSideBound (prepared falling_rule) 1 Up (Linear 1 (line_form (pos 1) (pos 0)) [])
  pub low : IsFirstSideBound (prepared falling_rule) 1 Low (Linear 1 (line_form (pos 0) (pos 0)) [])
  pub too_low : ¬ (IsFirstSideBound (prepared falling_rule) 1 Up (Linear 1 (line_form (pos 0) (pos 5)) []))
  pub later : ¬ (IsFirstSideBound (prepared falling_rule) 1 Low (Linear 1 (line_form (pos 1) (pos 0)) []))
  pub no_polynomial : ¬ (IsFirstSideBound (prepared falling_rule) 1 Up Poly)
  pub polynomial : IsFirstSideBound (updated square) 1 Low Poly
  pub reads_free : ¬ (IsFirstSideBound (updated product) 1 Up Poly)
  pub form_of_square : ¬ (IsFirstSideBound (updated square) 1 Up (Linear 1 (line_form (pos 1) (pos 0)) []))

-- a free variable is unbounded on both sides; A - 1 is unbounded on neither, nor is A*A, since its polynomial bounds it
pub record UnboundedSidesAreWorkedOut : Type 0 where
  pub up : IsUnboundedSide (updated (Variable 1)) 1 Up
  pub low : IsUnboundedSide (updated (Variable 1)) 1 Low
  pub bounded_up : ¬ (IsUnboundedSide (prepared falling_rule) 1 Up)
  pub bounded_low : ¬ (IsUnboundedSide (prepared falling_rule) 1 Low)
  pub polynomial : ¬ (IsUnboundedSide (updated square) 1 Up)

-- all worked values of places
pub record LocalValuesAreWorkedOut : Type 0 where
  pub polynomials : PolynomialsAreWorkedOut
  pub kinds : KindsOfPlacesAreWorkedOut
  pub sides : SidesAreWorkedOut
  pub first : FirstSideBoundsAreWorkedOut
  pub unbounded : UnboundedSidesAreWorkedOut
