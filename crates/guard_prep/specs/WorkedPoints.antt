-- Worked values of which rules have rows, and of which points are those of steps.
use Rattle.std.specs.Prelude.{◌≡◌, [], ◌∷◌, pos, negsuc}
use Rattle.poly_terms.specs.model.Terms.{Term, Literal, Variable, Subtraction, Exponentiation}
use Rattle.poly_terms.specs.model.Programs.{AtLeast, Atom, Compare, Rule, GuardHolds}
use Rattle.poly_terms.specs.model.Runs.{Config}
use Rattle.poly_terms.specs.linear_forms.Forms.{at}
use Rattle.poly_terms.specs.linear_forms.Points.{IsPoint}
use Rattle.guard_prep.specs.Prepared.{rows_of}
use Rattle.guard_prep.specs.Laws.{IsPreparable, IsLinear, LinearPartHolds, nonlinear_values, point_of, IsPointOfStep}
use Rattle.guard_prep.specs.Laws.{IsSmallForm, IsPointOfCost}
use Rattle.guard_prep.specs.WorkedRows.{square, two, with_free}

-- the atoms A >= 1, and A*A >= B
abbrev pub at_least_one : Atom
at_least_one = Compare (Variable 0) AtLeast (Literal (pos 1))

abbrev pub square_at_least : Atom
square_at_least = Compare square AtLeast (Variable 1)

-- the rule l0(A) -> l1(A - B, A*A) :|: A >= 1 && A*A >= B, with B free; its unknowns are A, B and the new value of A*A
abbrev pub worked_rule : Rule
worked_rule = with_free (Subtraction (Variable 0) (Variable 1) ∷ square ∷ []) (at_least_one ∷ square_at_least ∷ [])

-- the expression A^9
abbrev pub ninth_power : Term
ninth_power = Exponentiation (Variable 0) 9

-- the worked rule has rows; a rule with 64 free variables has none, nor one whose update contains a third variable, nor
-- one whose update is A^9, nor one with A^9 in an atom
pub record RulesAreWorkedOut : Type 0 where
  pub worked : IsPreparable worked_rule
  pub many_variables : ¬ (IsPreparable (record worked_rule { free = 64 }))
  pub out_of_range : ¬ (IsPreparable (with_free (Variable 2 ∷ []) []))
  pub high_update : ¬ (IsPreparable (with_free (ninth_power ∷ []) []))
  pub high_atom : ¬ (IsPreparable (with_free [] (Compare ninth_power AtLeast (Literal (pos 0)) ∷ [])))

-- A >= 1 is linear, and A*A >= B isn't; so at A = 1 and B = 5 the linear part of the guard holds although the guard
-- doesn't, and at 0 and 0 it doesn't
pub record LinearPartsAreWorkedOut : Type 0 where
  pub linear : IsLinear at_least_one
  pub nonlinear : ¬ (IsLinear square_at_least)
  pub holds : LinearPartHolds (pos 1 ∷ pos 5 ∷ []) worked_rule.guard
  pub more_holds_not : ¬ (GuardHolds (pos 1 ∷ pos 5 ∷ []) worked_rule.guard)
  pub fails : ¬ (LinearPartHolds (pos 0 ∷ pos 0 ∷ []) worked_rule.guard)

-- the configurations l0(3) and l1(1, 9)
abbrev pub worked_source : Config
worked_source = record { at = 0; values = pos 3 ∷ [] }

abbrev pub worked_target : Config
worked_target = record { at = 1; values = pos 1 ∷ pos 9 ∷ [] }

-- with B = 2 the step of the rule from l0(3) to l1(1, 9) is the point (3, 2, 9); no point of the step has another value
-- of the square, of the free variable or of the left one, nor lacks an unknown for the square; at (0, 0, 0) the row of
-- the rule fails
pub record StepPointsAreWorkedOut : Type 0 where
  pub squares : nonlinear_values worked_rule.updates (pos 3 ∷ pos 2 ∷ []) ≡ pos 9 ∷ []
  pub point : point_of worked_rule (pos 3 ∷ pos 2 ∷ []) ≡ pos 3 ∷ pos 2 ∷ pos 9 ∷ []
  pub step : IsPointOfStep worked_rule worked_source worked_target (pos 3 ∷ pos 2 ∷ pos 9 ∷ [])
  pub other_square : ¬ (IsPointOfStep worked_rule worked_source worked_target (pos 3 ∷ pos 2 ∷ pos 8 ∷ []))
  pub other_free : ¬ (IsPointOfStep worked_rule worked_source worked_target (pos 3 ∷ pos 1 ∷ pos 9 ∷ []))
  pub other_left : ¬ (IsPointOfStep worked_rule worked_source worked_target (pos 4 ∷ pos 3 ∷ pos 9 ∷ []))
  pub no_square : ¬ (IsPointOfStep worked_rule worked_source worked_target (pos 3 ∷ pos 2 ∷ []))
  pub row_fails : ¬ (IsPoint (rows_of worked_rule) (at (pos 0 ∷ pos 0 ∷ pos 0 ∷ [])) (pos 1))

-- with the cost A, the point at A = 3 has the new value 3; at A = -1 the row A >= 0 of the cost rule fails
pub record CostPointsAreWorkedOut : Type 0 where
  pub cost : IsPointOfCost (with_free (Variable 0 ∷ []) []) (Variable 0) (pos 3 ∷ pos 0 ∷ [])
  pub negative_cost : ¬ (IsPointOfCost (with_free (Variable 0 ∷ []) []) (Variable 0) (negsuc 0 ∷ pos 0 ∷ []))

-- a form of two coefficients of up to 2^63 - 1 and the constant -5 is small; one with 2^63 isn't, nor one with three
-- coefficients
pub record SmallFormsAreWorkedOut : Type 0 where
  pub largest : IsSmallForm 2 (two (pos 9223372036854775807) (negsuc 0) (negsuc 4))
  pub too_large : ¬ (IsSmallForm 2 (two (pos 9223372036854775808) (negsuc 0) (negsuc 4)))
  pub constant_too_large : ¬ (IsSmallForm 2 (two (pos 0) (pos 0) (negsuc 9223372036854775807)))
  pub other_width : ¬ (IsSmallForm 3 (two (pos 0) (pos 0) (pos 0)))

-- All worked values of this file.
pub record PointsAreWorkedOut : Type 0 where
  pub rules : RulesAreWorkedOut
  pub linear_parts : LinearPartsAreWorkedOut
  pub steps : StepPointsAreWorkedOut
  pub costs : CostPointsAreWorkedOut
  pub forms : SmallFormsAreWorkedOut
