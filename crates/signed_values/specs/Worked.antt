-- Lists of start values, and bounds at them, worked out by hand.
use Rattle.std.specs.Prelude.{◌≡◌, [], ◌∷◌, pos, negsuc}
use Rattle.signed_bounds.specs.Bounds.{Signed, Constant, PositivePart, SumOf, MaximumOf, MinimumOf}
use Rattle.signed_bounds.specs.Worked.{x, y, x_less_5, x_and_1, times, two_parts, one_part}
use Rattle.signed_values.specs.Starts.{comparison_starts}
use Rattle.signed_values.specs.Comparing.{IsAtMostAt}

-- the lists for no argument, for one and for three
pub record StartsAreWorkedOut : Type 0 where
  pub none : comparison_starts 0 ≡ [] ∷ [] ∷ []
  pub one : comparison_starts 1 ≡ (pos 20 ∷ []) ∷ (pos 1 ∷ []) ∷ (pos 40 ∷ []) ∷ (negsuc 19 ∷ []) ∷ []
  pub three : comparison_starts 3
      ≡ (pos 20 ∷ pos 20 ∷ pos 20 ∷ []) ∷ (pos 1 ∷ pos 1 ∷ pos 1 ∷ [])
      ∷ (pos 40 ∷ pos 10 ∷ pos 10 ∷ []) ∷ (negsuc 19 ∷ pos 10 ∷ pos 10 ∷ [])
      ∷ (pos 10 ∷ pos 40 ∷ pos 10 ∷ []) ∷ (pos 10 ∷ negsuc 19 ∷ pos 10 ∷ [])
      ∷ (pos 10 ∷ pos 10 ∷ pos 40 ∷ []) ∷ (pos 10 ∷ pos 10 ∷ negsuc 19 ∷ []) ∷ []

-- the positive part of -x
abbrev pub opposite_x : Signed
opposite_x = PositivePart (times (negsuc 0) (0 ∷ []) ∷ [])

-- Bounds that are compared at the lists for two arguments, x and y.
pub record BoundsAreComparedAtThem : Type 0 where
  -- [x] is at most max([x], [-x]), which isn't at most [x], since x is -20 in a list
  pub positive : IsAtMostAt (comparison_starts 2) x (MaximumOf (two_parts x opposite_x))
  pub negative : ¬ IsAtMostAt (comparison_starts 2) (MaximumOf (two_parts x opposite_x)) x
  -- [x] isn't at most [y], nor [y] at most [x], since one of them is 40 in a list where the other is 10
  pub first : ¬ IsAtMostAt (comparison_starts 2) x y
  pub second : ¬ IsAtMostAt (comparison_starts 2) y x
  -- min([x], [y]) is at most both
  pub minimum : IsAtMostAt (comparison_starts 2) (MinimumOf x (one_part y)) x
  pub other_minimum : IsAtMostAt (comparison_starts 2) (MinimumOf x (one_part y)) y
  -- [x] is at most itself, [x + 1] isn't at most [x], and nor is [x - 5] + 1, which is 1 where x is -20
  pub equal : IsAtMostAt (comparison_starts 2) x x
  pub one_more : ¬ IsAtMostAt (comparison_starts 2) x_and_1 x
  pub at_negative : ¬ IsAtMostAt (comparison_starts 2) (SumOf (two_parts x_less_5 (Constant 1))) x
