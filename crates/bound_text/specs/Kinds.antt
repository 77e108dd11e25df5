-- The kinds of refusals.
use Rattle.std.specs.Prelude.{ℕ, List, [], ◌∷◌}

-- the kinds of refusals, the least number first
pub data Kind : Type 0 where
  Syntax : Kind
  NumberTooLarge : Kind
  UnknownName : Kind
  TooDeep : Kind
  TooLarge : Kind

-- the number of a kind
abbrev pub number_of : Kind → ℕ
number_of Syntax = 1
number_of NumberTooLarge = 2
number_of UnknownName = 3
number_of TooDeep = 4
number_of TooLarge = 5

-- all of them
abbrev pub kinds : List Kind
kinds = Syntax ∷ NumberTooLarge ∷ UnknownName ∷ TooDeep ∷ TooLarge ∷ []
