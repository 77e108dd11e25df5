-- Worked values of the order of kinds, of forms that bound a new value, and of rays.
use Rattle.std.specs.Prelude.{◌≡◌, true, false, List, [], ◌∷◌, ℤ, pos, negsuc}
use Rattle.linear_forms.specs.Forms.{Form, at}
use Rattle.rule_forms.specs.Kinds.{Number, Argument, Affine, Plus, Minus, kinds_at, kinds_for, IsOfKind}
use Rattle.rule_forms.specs.Bounds.{IsAbove, HasNone, WeighsAtMost, IsFirstOf, IsUnboundedRay}

-- forms in one unknown, and in two, by their coefficients and constants
abbrev pub line_form : ℤ → ℤ → Form
line_form a b = record { coefs = a ∷ []; constant = b }

abbrev pub plane_form : ℤ → ℤ → ℤ → Form
plane_form a b c = record { coefs = a ∷ b ∷ []; constant = c }

-- the row A - 1 >= 0, the new value A - 1, and its negation
abbrev pub falling_rows : List Form
falling_rows = line_form (pos 1) (negsuc 0) ∷ []

abbrev pub falling : Form
falling = line_form (pos 1) (negsuc 0)

abbrev pub rising : Form
rising = line_form (negsuc 0) (pos 1)

-- the new value that is a free variable, numbered after one left argument
abbrev pub free_value : Form
free_value = plane_form (pos 0) (pos 1) (pos 0)

-- a constant comes first, then the argument at the place itself, then the others, each before its negation, and any
-- affine form last; if the source has no such place, there is no argument at the place itself; a polynomial of degree 2
-- or more has only the last kind
pub record KindsAreInOrder : Type 0 where
  pub second_place : kinds_at 2 2
      ≡ Number ∷ Argument 2 Plus ∷ Argument 2 Minus ∷ Argument 1 Plus ∷ Argument 1 Minus ∷ Affine ∷ []
  pub no_such_place : kinds_at 2 3
      ≡ Number ∷ Argument 1 Plus ∷ Argument 1 Minus ∷ Argument 2 Plus ∷ Argument 2 Minus ∷ Affine ∷ []
  pub no_argument : kinds_at 0 1 ≡ Number ∷ Affine ∷ []
  pub nonlinear : kinds_for true 2 1 ≡ Affine ∷ []
  pub straight : kinds_for false 1 1 ≡ Number ∷ Argument 1 Plus ∷ Argument 1 Minus ∷ Affine ∷ []

-- 3 is a constant, 2*A over 2 is the argument, and -2*A over 2 its negation; A + 1 is of neither kind but is an affine
-- form; and a form in a free variable is of no kind
pub record KindsAreWorked : Type 0 where
  pub number : IsOfKind 1 Number (line_form (pos 0) (pos 3)) 1
  pub argument : IsOfKind 1 (Argument 1 Plus) (line_form (pos 2) (pos 0)) 2
  pub negated : IsOfKind 1 (Argument 1 Minus) (line_form (negsuc 1) (pos 0)) 2
  pub affine : IsOfKind 1 Affine (line_form (pos 1) (pos 1)) 1
  pub no_number : ¬ (IsOfKind 1 Number (line_form (pos 1) (pos 3)) 1)
  pub no_argument : ¬ (IsOfKind 1 (Argument 1 Plus) (line_form (pos 1) (pos 1)) 1)
  pub wrong_scale : ¬ (IsOfKind 1 (Argument 1 Plus) (line_form (pos 2) (pos 0)) 1)
  pub wrong_sign : ¬ (IsOfKind 1 (Argument 1 Minus) (line_form (pos 1) (pos 0)) 1)
  pub no_affine : ¬ (IsOfKind 1 Affine (plane_form (pos 0) (pos 1) (pos 0)) 1)

-- for A >= 1, A is at least A - 1, and so is A - 1 itself, but not A - 2, nor A over 2, nor 5
pub record BoundsAreWorked : Type 0 where
  pub argument : IsAbove falling_rows falling (line_form (pos 1) (pos 0)) 1
  pub itself : IsAbove falling_rows falling falling 1
  pub too_low : ¬ (IsAbove falling_rows falling (line_form (pos 1) (negsuc 1)) 1)
  pub over_two : ¬ (IsAbove falling_rows falling (line_form (pos 1) (pos 0)) 2)
  pub number : ¬ (IsAbove falling_rows falling (line_form (pos 0) (pos 5)) 1)

-- A weighs less than A + 1, and 2*A - 7 over 2 no more than A; A doesn't weigh less than 3, nor A + 1 less than A
pub record WeightsAreWorkedOut : Type 0 where
  pub less : WeighsAtMost (line_form (pos 1) (pos 0)) 1 (line_form (pos 1) (pos 1)) 1
  pub scaled : WeighsAtMost (line_form (pos 2) (negsuc 6)) 2 (line_form (pos 1) (pos 0)) 1
  pub sizes_first : ¬ (WeighsAtMost (line_form (pos 1) (pos 0)) 1 (line_form (pos 0) (pos 3)) 1)
  pub heights_then : ¬ (WeighsAtMost (line_form (pos 1) (pos 1)) 1 (line_form (pos 1) (pos 0)) 1)

-- for A >= 1, the first bound on A - 1 is A, since no constant is a bound; 1 - A is at most 0; and A isn't the first
-- bound on 1 - A, since a constant is one
pub record FirstBoundsAreWorkedOut : Type 0 where
  pub up : IsFirstOf falling_rows 1 falling (kinds_at 1 1) (line_form (pos 1) (pos 0)) 1
  pub no_number : HasNone falling_rows 1 falling Number
  pub low : IsFirstOf falling_rows 1 rising (kinds_at 1 1) (line_form (pos 0) (pos 0)) 1
  pub some_number : ¬ (HasNone falling_rows 1 rising Number)

-- without rows a free value increases along (0, 1); along (1, 0) it doesn't, and along (1, 1) the argument changes
pub record RaysAreWorkedOut : Type 0 where
  pub unbounded : IsUnboundedRay [] 1 free_value (at (pos 0 ∷ pos 1 ∷ []))
  pub level : ¬ (IsUnboundedRay [] 1 free_value (at (pos 1 ∷ pos 0 ∷ [])))
  pub moving : ¬ (IsUnboundedRay [] 1 free_value (at (pos 1 ∷ pos 1 ∷ [])))
  pub downward : ¬ (IsUnboundedRay [] 1 free_value (at (pos 0 ∷ negsuc 0 ∷ [])))

-- all worked values of local bounds
pub record LocalFormsAreWorkedOut : Type 0 where
  pub order : KindsAreInOrder
  pub kinds : KindsAreWorked
  pub bounds : BoundsAreWorked
  pub weights : WeightsAreWorkedOut
  pub first : FirstBoundsAreWorkedOut
  pub rays : RaysAreWorkedOut
