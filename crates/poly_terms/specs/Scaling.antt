-- Polynomials times an integer.
use Rattle.std.specs.Prelude.{[], ℤ, ◌*ℤ◌}
use Rattle.model.specs.Polynomials.{Monomial}

-- a monomial with its coefficient multiplied by z
abbrev pub times : ℤ → Monomial → Monomial
times z m = record { coef = m.coef *ℤ z; vars = m.vars }

-- the monomial of the constant z
abbrev pub constant : ℤ → Monomial
constant z = record { coef = z; vars = [] }
