-- The kinds of forms that are tried as a bound on a new value, and their order.
use Rattle.std.specs.Prelude.{◌≡◌, ℕ, ◌≤◌, ◌==◌, not, Bool, if◌then◌else◌, List, [], ◌∷◌, ◌++◌, filter, ℤ, pos, negsuc}
use Rattle.std.specs.Prelude.{◌*ℤ◌}
use Rattle.std.specs.List.{range_with_len}
use Rattle.linear_forms.specs.Forms.{Form, at}
use Rattle.linear_forms.specs.Combinations.{form_times}
use Rattle.linear_forms.specs.RuleQuestions.{before_rule}

-- an argument as it is, or negated
pub data Sign : Type 0 where
  Plus : Sign
  Minus : Sign

-- the factor of a sign: 1 or -1
abbrev pub unit_of : Sign → ℤ
unit_of Plus = pos 1
unit_of Minus = negsuc 0

-- the kinds: a constant; the left argument at a place, counted from 1, or its negation, with nothing added; any affine
-- form in the left arguments
pub data Kind : Type 0 where
  Number : Kind
  Argument : ℕ → Sign → Kind
  Affine : Kind

-- two forms have the same coefficients and the same constant
pub record AreSame (f g : Form) : Type 0 where
  pub coefs : (u : ℕ) → at f.coefs u ≡ at g.coefs u
  pub constant : f.constant ≡ g.constant

-- the form g over q is of this kind, for a rule with this many left arguments
abbrev pub IsOfKind : ℕ → Kind → Form → ℕ → Type 0
IsOfKind left Number g q = (u : ℕ) → at g.coefs u ≡ pos 0
IsOfKind left (Argument place sign) g q = AreSame g (form_times (pos q *ℤ unit_of sign) (before_rule place))
IsOfKind left Affine g q = (u : ℕ) → left ≤ u → at g.coefs u ≡ pos 0

-- the arguments at these places as kinds, each followed by its negation
abbrev pub arguments : List ℕ → List Kind
arguments [] = []
arguments (place ∷ places) = Argument place Plus ∷ Argument place Minus ∷ arguments places

-- the places of the left arguments: the given place first, if there is such a left argument, and then the others in
-- order
abbrev pub places_from : ℕ → ℕ → List ℕ
places_from left place =
    let all = range_with_len 1 left in
    filter (λ j. j == place) all ++ filter (λ j. not (j == place)) all

-- the kinds in order, for the new value at a place: a constant, the arguments, and any affine form
abbrev pub kinds_at : ℕ → ℕ → List Kind
kinds_at left place = Number ∷ (arguments (places_from left place) ++ (Affine ∷ []))

-- the kinds that are tried: if the update is a polynomial of degree 2 or more, only any affine form
abbrev pub kinds_for : Bool → ℕ → ℕ → List Kind
kinds_for nonlinear left place = if nonlinear then Affine ∷ [] else kinds_at left place
