-- Integer expressions as plain data, and their values.
use Rattle.std.specs.Prelude.{ℕ, List, ℤ, pos, ◌+ℤ◌, ◌-ℤ◌, ◌*ℤ◌, neg_ℤ, slice_index_or}
use Rattle.std.specs.Int.{int_pow}

-- an integer expression over variables that are numbered from 0
pub data Term : Type 0 where
  Literal : ℤ → Term
  Variable : ℕ → Term
  Negation : Term → Term
  Addition : Term → Term → Term
  Subtraction : Term → Term → Term
  Multiplication : Term → Term → Term
  Exponentiation : Term → ℕ → Term

-- the value of an expression if variable i has the value env[i]; a power with exponent 0 is 1
abbrev pub value : Term → List ℤ → ℤ
value (Literal z) env = z
value (Variable i) env = slice_index_or env i (pos 0)
value (Negation e) env = neg_ℤ (value e env)
value (Addition d e) env = value d env +ℤ value e env
value (Subtraction d e) env = value d env -ℤ value e env
value (Multiplication d e) env = value d env *ℤ value e env
value (Exponentiation e n) env = int_pow (value e env) n
