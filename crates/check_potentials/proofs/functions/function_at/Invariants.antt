use Rattle.std.proofs.Common.{◌≡◌, drop, map}
use Rattle.potential_nodes.specs.Lookup.{lookup}
use Rattle.potential_nodes.specs.Tables.{symbol_of}
use Rattle.potential_types.specs.Views.{function_of}
use Rattle.check_potentials.proofs.functions.function_at.Given as goal

-- what is left decides
abbrev pub invariant-loop-function : goal.invariant-loop-function
invariant-loop-function l = lookup symbol_of l.symbol (map function_of (drop l.function-index l.functions)) ≡ lookup
    symbol_of l.symbol (map function_of l.functions)
