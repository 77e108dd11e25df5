-- A part as a constant times factors: a constant is itself and no factor, a product that begins with a constant is that
-- constant and the rest, any other product is 1 and its factors, and anything else is 1 and itself.
use Rattle.std.specs.Prelude.{ℕ, Bool, true, false, List, [], ◌∷◌}
use Rattle.bound_expr.specs.model.Bounds.{Bound, Constant, ProductOf}
use Rattle.bound_expr.specs.Views.{list_of}

-- the constant that a list of factors begins with; 1 where it begins with none
abbrev pub leading_constant : List Bound → ℕ
leading_constant (Constant c ∷ ps) = c
leading_constant _ = 1

-- the factors after a leading constant
abbrev pub after_constant : List Bound → List Bound
after_constant (Constant c ∷ ps) = ps
after_constant ps = ps

-- the constant of a part
abbrev pub constant_of : Bound → ℕ
constant_of (Constant c) = c
constant_of (ProductOf ps) = leading_constant (list_of ps)
constant_of _ = 1

-- the factors of a part
abbrev pub factors_of : Bound → List Bound
factors_of (Constant c) = []
factors_of (ProductOf ps) = after_constant (list_of ps)
factors_of b = b ∷ []

-- a list of factors begins with a constant
abbrev pub begins_with_constant : List Bound → Bool
begins_with_constant (Constant c ∷ ps) = true
begins_with_constant _ = false
