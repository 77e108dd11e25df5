-- The sorts of bounds that are counted in the order of parts.
use Rattle.std.specs.Prelude.{Bool}
use Rattle.bound_expr.specs.model.Bounds.{Bound}
use Rattle.bound_expr.specs.Kinds.{is_constant, is_power, is_input}
use Rattle.bound_table.specs.declared.kinds.Counted.{Counted}
use Rattle.bound_table.specs.declared.kinds.Counted.TheVariants.{Constants, Zeros, Powers, Nests, Inputs}
use Rattle.bound_table.specs.Kinds.{is_zero, is_nest}

-- which bounds are counted: constants, zeros, powers, sums and maximums, or inputs
abbrev pub is_counted : Counted → Bound → Bool
is_counted Constants = is_constant
is_counted Zeros = is_zero
is_counted Powers = is_power
is_counted Nests = is_nest
is_counted Inputs = is_input
