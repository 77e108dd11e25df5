use Rattle.std.proofs.Common.{◌≡◌, drop, map}
use Rattle.std.specs.List.{list_all}
use Rattle.potential_nodes.specs.Limits.{is_small_function}
use Rattle.potential_types.specs.Views.{function_of}
use Rattle.potential_types.proofs.limits.all_functions.Given as goal

-- whether all functions are small depends on those left
abbrev pub invariant-loop-function : goal.invariant-loop-function
invariant-loop-function l =
    list_all is_small_function (map function_of (drop l.function-index l.functions))
    ≡ list_all is_small_function (map function_of (l.functions))
