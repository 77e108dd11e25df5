-- The places that a ranking function reads, one by one.
use Rattle.std.specs.Prelude.{ℕ, cond, List, [], ◌∷◌, ℤ}
use Rattle.its_model.specs.int_laws.NormalForm.{is_zero}

-- a place with this coefficient, if the coefficient isn't 0
abbrev pub read_here : ℤ → ℕ → List ℕ
read_here c i = cond (is_zero c) [] (i ∷ [])
