-- The limits of a bound, each under one name.
use Rattle.std.specs.Prelude.{ℕ, ◌+◌, ◌-◌, ◌^◌}

-- the maximum constant
abbrev pub constant_limit : ℕ
constant_limit = 2 ^ 127 - 1

-- the number after it; where values are capped, it represents every greater number as well
abbrev pub cap : ℕ
cap = constant_limit + 1

-- the maximum base of a power plus one
abbrev pub too_large_base : ℕ
too_large_base = 2 ^ 64

-- the maximum number of nodes
abbrev pub node_limit : ℕ
node_limit = 4096

-- the maximum number of levels
abbrev pub depth_limit : ℕ
depth_limit = 200
