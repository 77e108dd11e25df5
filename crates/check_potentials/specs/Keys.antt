-- Keys that ascend.
use Rattle.std.specs.Prelude.{ℕ, Bool, true, List, ◌∷◌, Option, Some, None, nat_lt}
use Rattle.potential_nodes.specs.Lookup.{ascends}

-- whether a key is above the last one, if there is one
abbrev pub is_above : Option ℕ → ℕ → Bool
is_above None key = true
is_above (Some last) key = nat_lt last key

-- whether keys ascend after the last one, if there is one
abbrev pub ascends_behind : Option ℕ → List ℕ → Bool
ascends_behind None keys = ascends keys
ascends_behind (Some last) keys = ascends (last ∷ keys)
