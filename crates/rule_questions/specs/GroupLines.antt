-- How many lines the groups of a linear program have.
use Rattle.std.specs.Prelude.{ℕ, suc, ◌+◌}
use Rattle.std.specs.Prelude.{List, [], ◌∷◌}
use Rattle.poly_terms.specs.linear_forms.Questions.{Group}

-- the lines of groups: one for each unknown and one for the constant
abbrev pub group_lines : List Group → ℕ
group_lines [] = 0
group_lines (g ∷ gs) = suc g.unknowns + group_lines gs
