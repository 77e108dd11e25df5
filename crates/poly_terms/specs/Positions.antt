-- The position of a list of variables in a polynomial.
use Rattle.std.specs.Prelude.{ℕ, suc, List, [], ◌∷◌, if◌then◌else◌}
use Rattle.std.specs.Ordering.{is_lt}
use Rattle.model.specs.Polynomials.{Polynomial}
use Rattle.poly_terms.specs.Expanding.{order}

-- how many monomials, from the first one on, have variables before these
abbrev pub position_in : List ℕ → Polynomial → ℕ
position_in vs [] = 0
position_in vs (m ∷ ms) = if is_lt (order m.vars vs) then suc (position_in vs ms) else 0
