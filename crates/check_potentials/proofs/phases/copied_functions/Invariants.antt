use Rattle.std.proofs.Common.{◌≡◌, take, map}
use Rattle.potential_types.specs.Views.{function_of}
use Rattle.check_potentials.proofs.phases.copied_functions.Given as goal

-- those passed are done
abbrev pub invariant-loop-function : goal.invariant-loop-function
invariant-loop-function l = map function_of l.copies.items ≡ map function_of (take l.function-index l.functions)
