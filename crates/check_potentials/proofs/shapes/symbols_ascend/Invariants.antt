use Rattle.std.proofs.Common.{◌≡◌, drop, map}
use Rattle.potential_nodes.specs.Lookup.{ascends}
use Rattle.potential_nodes.specs.Tables.{symbol_of}
use Rattle.potential_types.specs.Views.{function_of}
use Rattle.check_potentials.specs.Keys.{ascends_behind}
use Rattle.check_potentials.proofs.shapes.symbols_ascend.Given as goal

-- what is left after the last key decides
abbrev pub invariant-loop-function : goal.invariant-loop-function
invariant-loop-function l =
    ascends_behind l.last (map symbol_of (map function_of (drop l.function-index l.functions))) ≡ ascends
    (map symbol_of (map function_of l.functions))
