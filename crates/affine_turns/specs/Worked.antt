-- Worked values of affine expressions and of turns.
use Rattle.std.specs.Prelude.{◌≡◌, ℕ, Bool, true, false, List, [], ◌∷◌, ℤ, pos, negsuc, Option, Some, None}
use Rattle.its_model.specs.model.Terms.{Term, Literal, Variable, Negation, Addition, Subtraction, Multiplication}
use Rattle.its_model.specs.model.Terms.{Exponentiation}
use Rattle.its_model.specs.model.Programs.{AtLeast, MoreThan, AtMost, LessThan, EqualTo, Always, Compare}
use Rattle.lassos.specs.Worked.{looping_by, plus_one, less_one, squared, turn_step}
use Rattle.affine_turns.specs.declared.affine.Affine.{Affine}
use Rattle.affine_turns.specs.Affine.{affine_of, after_turns, slopes, between}
use Rattle.affine_turns.specs.Turns.{AtomStops, NonlinearPlace, StopAt, keeps, guard_stop, affine_after, first_stop_along}

-- an affine value; A is 5, 7, 9, .., and B is 7 in each turn
abbrev pub affine : ℤ → ℤ → Affine
affine first slope = record { first = first; slope = slope }

abbrev pub two_places : List Affine
two_places = affine (pos 5) (pos 2) ∷ affine (pos 7) (pos 0) ∷ []

-- the affine value of an expression over A and B
abbrev pub over_two : Term → Option Affine
over_two t = affine_of t two_places

-- the variables A and B
abbrev pub moving : Term
moving = Variable 0

abbrev pub staying : Term
staying = Variable 1

pub record ExpressionsAreSeen : Type 0 where
  pub literal : over_two (Literal (pos 4)) ≡ Some (affine (pos 4) (pos 0))
  pub missing : over_two (Variable 2) ≡ Some (affine (pos 0) (pos 0))
  pub opposite : over_two (Negation moving) ≡ Some (affine (negsuc 4) (negsuc 1))
  pub sum : over_two (Addition moving staying) ≡ Some (affine (pos 12) (pos 2))
  pub nothing : over_two (Subtraction moving moving) ≡ Some (affine (pos 0) (pos 0))
  pub difference : over_two (Subtraction staying moving) ≡ Some (affine (pos 2) (negsuc 1))
  -- one factor of a product needs slope 0, whichever it is; and so does the base of a power
  pub scaled : over_two (Multiplication staying moving) ≡ Some (affine (pos 35) (pos 14))
  pub scaled_behind : over_two (Multiplication moving staying) ≡ Some (affine (pos 35) (pos 14))
  pub square : over_two (Multiplication moving moving) ≡ None
  pub power : over_two (Exponentiation moving 2) ≡ None
  pub staying_power : over_two (Exponentiation staying 2) ≡ Some (affine (pos 49) (pos 0))
  -- neither the first value nor the slope may exceed 128 bits
  pub wide : affine_of (Addition moving (Literal (pos 1))) (affine (pos 170141183460469231731687303715884105727) (pos 0) ∷ []) ≡ None
  pub wide_slope : affine_of (Addition moving moving) (affine (pos 0) (pos 170141183460469231731687303715884105727) ∷ []) ≡ None
  pub least : affine_of (Subtraction moving (Literal (pos 1))) (affine (negsuc 170141183460469231731687303715884105726) (pos 0) ∷ [])
      ≡ Some (affine (negsuc 170141183460469231731687303715884105727) (pos 0))
  -- the value is 5 in the first turn, and 13 four turns later
  pub later : after_turns 4 (affine (pos 5) (pos 2)) ≡ pos 13
  pub between_values : between (pos 5 ∷ pos 7 ∷ []) (pos 7 ∷ pos 7 ∷ []) ≡ two_places

pub record RelationsAreKept : Type 0 where
  pub at_least : (keeps AtLeast (pos 1) (pos 0) ≡ true) × (keeps AtLeast (pos 0) (pos 0) ≡ true)
  pub not_at_least : keeps AtLeast (negsuc 0) (pos 0) ≡ false
  pub more_than : (keeps MoreThan (pos 0) (pos 0) ≡ true) × (keeps MoreThan (pos 0) (pos 1) ≡ false)
  pub at_most : (keeps AtMost (negsuc 0) (pos 0) ≡ true) × (keeps AtMost (pos 1) (pos 0) ≡ false)
  pub less_than : (keeps LessThan (pos 2) (pos 2) ≡ true) × (keeps LessThan (pos 3) (pos 2) ≡ false)
  pub equal : (keeps EqualTo (pos 2) (pos 2) ≡ true) × (keeps EqualTo (pos 2) (pos 3) ≡ false)
  -- the first atom that may cease to hold is reported: B >= 7, A >= B, A <= 9 and B > A; so is one with a side that
  -- isn't affine
  pub first_atom : guard_stop two_places 1 (Always ∷ Compare staying AtLeast (Literal (pos 7)) ∷ Compare moving AtLeast staying
      ∷ Compare moving AtMost (Literal (pos 9)) ∷ Compare staying MoreThan moving ∷ []) ≡ Some (AtomStops 4)
  pub no_atom : guard_stop two_places 1 (Always ∷ Compare moving EqualTo moving ∷ []) ≡ None
  pub square_atom : guard_stop two_places 1 (Compare (Multiplication moving moving) AtLeast (Literal (pos 1)) ∷ []) ≡ Some (AtomStops 1)

-- why a turn by the second rule fails the test, if A is z before the turn and y after it
abbrev pub stop_from : Term → ℤ → ℤ → Option StopAt
stop_from update z y = first_stop_along (looping_by update) (between (z ∷ []) (y ∷ [])) turn_step

-- the slopes of the values after this turn
abbrev pub slopes_from : Term → ℤ → ℤ → List ℤ
slopes_from update z y = slopes (affine_after (looping_by update) (between (z ∷ []) (y ∷ [])) turn_step)

pub record TurnsAreSeen : Type 0 where
  -- A + 1 from 1: the guard keeps holding, and the slope after the turn is that before it
  pub grows : stop_from plus_one (pos 1) (pos 2) ≡ None
  pub grows_on : slopes_from plus_one (pos 1) (pos 2) ≡ pos 1 ∷ []
  -- A - 1 from 3: the guard may cease to hold
  pub falls : stop_from less_one (pos 3) (pos 2) ≡ Some (record { number = 1; stop = AtomStops 1 })
  -- the square of A isn't found to be affine
  pub bends : stop_from squared (pos 2) (pos 4) ≡ Some (record { number = 1; stop = NonlinearPlace 1 })
  -- A + A from 1: the guard keeps holding, but A changes by 2 after the turn, and by 1 before it
  pub doubles : stop_from (Addition (Variable 0) (Variable 0)) (pos 1) (pos 2) ≡ None
  pub doubles_on : slopes_from (Addition (Variable 0) (Variable 0)) (pos 1) (pos 2) ≡ pos 2 ∷ []
