-- Affine values, which change by the same amount in each turn of a lasso, and expressions over them.
use Rattle.std.specs.Prelude.{if◌then◌else◌, ℕ, List, [], ◌∷◌, ◌++◌, map, ℤ, pos, ◌+ℤ◌, ◌-ℤ◌, ◌*ℤ◌, neg_ℤ}
use Rattle.std.specs.Prelude.{slice_index_or, Option, Some, None, option_and_then}
use Rattle.std.specs.Int.{int_pow}
use Rattle.std.specs.Ordering.{int_eq}
use Rattle.its_model.specs.model.Terms.{Term, Literal, Variable, Negation, Addition, Subtraction, Multiplication}
use Rattle.its_model.specs.model.Terms.{Exponentiation}
use Rattle.its_model.specs.poly_terms.Checked.{fits}
use Rattle.affine_turns.specs.declared.affine.Affine.{Affine}

-- an affine value in turn n, counted from 0
abbrev pub after_turns : ℕ → Affine → ℤ
after_turns n a = a.first +ℤ pos n *ℤ a.slope

-- the affine value that is z in each turn
abbrev pub constant : ℤ → Affine
constant z = record { first = z; slope = pos 0 }

-- an integer if 128 bits hold it, else none
abbrev pub within : ℤ → Option ℤ
within z = if fits z then Some z else None

-- the affine value with these two numbers, if both are there
abbrev pub with_both : Option ℤ → Option ℤ → Option Affine
with_both (Some first) (Some slope) = Some (record { first = first; slope = slope })
with_both (Some first) None = None
with_both None slope = None

-- an affine value if 128 bits hold both of its numbers, else none
abbrev pub in_range : Affine → Option Affine
in_range a = with_both (within a.first) (within a.slope)

-- the opposite, the sum and the difference of affine values
abbrev pub opposite : Affine → Option Affine
opposite a = in_range (record { first = neg_ℤ a.first; slope = neg_ℤ a.slope })

abbrev pub sum : Affine → Affine → Option Affine
sum a b = in_range (record { first = a.first +ℤ b.first; slope = a.slope +ℤ b.slope })

abbrev pub difference : Affine → Affine → Option Affine
difference a b = in_range (record { first = a.first -ℤ b.first; slope = a.slope -ℤ b.slope })

-- the product with an integer that doesn't change
abbrev pub scaled : ℤ → Affine → Option Affine
scaled z a = in_range (record { first = z *ℤ a.first; slope = z *ℤ a.slope })

-- the product of two affine values, one of which has to have slope 0
abbrev pub product : Affine → Affine → Option Affine
product a b =
    if int_eq a.slope (pos 0) then scaled a.first b else if int_eq b.slope (pos 0) then scaled b.first a else None

-- a power of an affine value, which has to have slope 0
abbrev pub power : Affine → ℕ → Option Affine
power a n = if int_eq a.slope (pos 0) then in_range (constant (int_pow a.first n)) else None

-- The affine value of an expression over affine variables, if the expression's parts show that it is affine and no
-- number on the way exceeds 128 bits; a variable that isn't in the list is 0.
abbrev pub affine_of : Term → List Affine → Option Affine
affine_of (Literal z) env = Some (constant z)
affine_of (Variable i) env = Some (slice_index_or env i (constant (pos 0)))
affine_of (Negation e) env = option_and_then opposite (affine_of e env)
affine_of (Addition d e) env = option_and_then (λ a. option_and_then (sum a) (affine_of e env)) (affine_of d env)
affine_of (Subtraction d e) env =
    option_and_then (λ a. option_and_then (difference a) (affine_of e env)) (affine_of d env)
affine_of (Multiplication d e) env =
    option_and_then (λ a. option_and_then (product a) (affine_of e env)) (affine_of d env)
affine_of (Exponentiation e n) env = option_and_then (λ a. power a n) (affine_of e env)

-- the affine values of a rule's variables: those at the places, and then the free values, which don't change
abbrev pub with_free : List Affine → List ℤ → List Affine
with_free env free = env ++ map constant free

-- the values in the first turn, and the differences between turns
abbrev pub firsts : List Affine → List ℤ
firsts env = map (λ a. a.first) env

abbrev pub slopes : List Affine → List ℤ
slopes env = map (λ a. a.slope) env

-- the affine values that have the values `bs` before a turn and `cs` after it, place by place; one without a value
-- after the turn has slope 0
abbrev pub between : List ℤ → List ℤ → List Affine
between [] cs = []
between (b ∷ bs) [] = record { first = b; slope = b -ℤ b } ∷ between bs []
between (b ∷ bs) (c ∷ cs) = record { first = b; slope = c -ℤ b } ∷ between bs cs
