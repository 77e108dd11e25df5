-- Lists of checks that hold.
use Rattle.std.specs.Prelude.{Bool, true, ◌&&◌, List, [], ◌∷◌}
use Rattle.potential_nodes.specs.Checks.{Check}

-- whether all checks hold
abbrev pub all_hold : List Check → Bool
all_hold [] = true
all_hold (c ∷ checks) = c.holds && all_hold checks
