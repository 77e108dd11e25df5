-- The limits of a signed bound.
use Rattle.std.specs.Prelude.{ℕ, ◌-◌, ◌^◌}

-- the maximum constant, and the maximum number that a comparison computes
abbrev pub constant_limit : ℕ
constant_limit = 2 ^ 127 - 1

-- the maximum number of nodes
abbrev pub node_limit : ℕ
node_limit = 4096

-- the maximum number of levels
abbrev pub depth_limit : ℕ
depth_limit = 200

-- the maximum number of products that a comparison multiplies a bound out into
abbrev pub product_limit : ℕ
product_limit = 4096

-- the maximum of the number of products that a comparison multiplies a bound out into, times the number of its nodes
abbrev pub expansion_limit : ℕ
expansion_limit = 262144

-- the maximum of the sizes of two sums of products, multiplied, that are compared
abbrev pub comparison_limit : ℕ
comparison_limit = 131072

-- the maximum number of quotients by the common denominator that a comparison takes apart
abbrev pub quotient_limit : ℕ
quotient_limit = 16
