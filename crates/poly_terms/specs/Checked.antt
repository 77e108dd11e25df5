-- Values that stay within 128 bits.
use Rattle.std.specs.Prelude.{ℕ, Bool, ◌&&◌, ◌<◌, if◌then◌else◌, nat_lt, List, ℤ, pos, negsuc, Option, Some, None, ⊤}
use Rattle.model.specs.Terms.{Term, Literal, Variable, Negation, Addition, Subtraction, Multiplication, Exponentiation}
use Rattle.model.specs.Terms.{value}

-- the integers of 128 bits are below this number, and at least its negation: 2^127
abbrev pub value_limit : ℕ
value_limit = 170141183460469231731687303715884105728

-- an integer is one of 128 bits: from -2^127 to 2^127 - 1
abbrev pub fits : ℤ → Bool
fits (pos n) = nat_lt n value_limit
fits (negsuc n) = nat_lt n value_limit

-- the value of each subexpression is an integer of 128 bits
abbrev pub values_fit : Term → List ℤ → Bool
values_fit (Literal z) env = fits z
values_fit (Variable i) env = fits (value (Variable i) env)
values_fit (Negation e) env = values_fit e env && fits (value (Negation e) env)
values_fit (Addition d e) env = values_fit d env && (values_fit e env && fits (value (Addition d e) env))
values_fit (Subtraction d e) env = values_fit d env && (values_fit e env && fits (value (Subtraction d e) env))
values_fit (Multiplication d e) env = values_fit d env && (values_fit e env && fits (value (Multiplication d e) env))
values_fit (Exponentiation e n) env = values_fit e env && fits (value (Exponentiation e n) env)

-- the value of an expression, or none if that of some subexpression exceeds 128 bits
abbrev pub value_within : Term → List ℤ → Option ℤ
value_within t env = if values_fit t env then Some (value t env) else None

-- each variable of an expression is below n
abbrev pub ReadsBelow : ℕ → Term → Type 0
ReadsBelow n (Literal z) = ⊤
ReadsBelow n (Variable i) = i < n
ReadsBelow n (Negation e) = ReadsBelow n e
ReadsBelow n (Addition d e) = ReadsBelow n d × ReadsBelow n e
ReadsBelow n (Subtraction d e) = ReadsBelow n d × ReadsBelow n e
ReadsBelow n (Multiplication d e) = ReadsBelow n d × ReadsBelow n e
ReadsBelow n (Exponentiation e k) = ReadsBelow n e
