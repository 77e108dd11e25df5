-- Goals in the order of their parameters.
use Rattle.std.specs.Prelude.{ℕ, ◌+◌, ◌≤◌, List, [], ◌∷◌}
use Rattle.lp_builder.specs.declared.description.Goal.{Goal}

-- the parameters of goals ascend from k on, and are below n
abbrev pub Ascend : ℕ → ℕ → List Goal → Type 0
Ascend k n [] = k ≤ n
Ascend k n (g ∷ gs) = (k ≤ g.parameter) × Ascend (g.parameter + 1) n gs
