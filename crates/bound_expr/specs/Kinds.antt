-- The kinds of bounds, as tests.
use Rattle.std.specs.Prelude.{Bool, true, false}
use Rattle.model.specs.Bounds.{Bound, Constant, Input, SumOf, ProductOf, MaximumOf, PowerOf}

-- whether it is a constant
abbrev pub is_constant : Bound → Bool
is_constant (Constant c) = true
is_constant _ = false

-- whether it is an input
abbrev pub is_input : Bound → Bool
is_input (Input i) = true
is_input _ = false

-- whether it is a sum
abbrev pub is_sum : Bound → Bool
is_sum (SumOf bs) = true
is_sum _ = false

-- whether it is a product
abbrev pub is_product : Bound → Bool
is_product (ProductOf bs) = true
is_product _ = false

-- whether it is a maximum
abbrev pub is_maximum : Bound → Bool
is_maximum (MaximumOf bs) = true
is_maximum _ = false

-- whether it is a power
abbrev pub is_power : Bound → Bool
is_power (PowerOf c e) = true
is_power _ = false
