-- Bounds on the coefficients of a form.
use Rattle.std.specs.Prelude.{ℕ, ◌+◌, List, [], ◌∷◌, ℤ, nat_abs}

-- the sum of the absolute values of coefficients; it is 0 exactly if all are 0
abbrev pub total_size : List ℤ → ℕ
total_size [] = 0
total_size (a ∷ coefs) = nat_abs a + total_size coefs
