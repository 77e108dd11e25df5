use Rattle.std.proofs.Common.{◌≡◌, drop, map}
use Rattle.potential_nodes.specs.Tables.{function_shape}
use Rattle.check_potentials.specs.Grounds.{plain_ground}
use Rattle.potential_types.specs.Views.{function_of}
use Rattle.check_potentials.specs.Refusals.{all_hold}
use Rattle.check_potentials.proofs.shapes.have_function_shapes.Given as goal

-- what is left decides
abbrev pub invariant-loop-function : goal.invariant-loop-function
invariant-loop-function l =
    all_hold (map (function_shape (plain_ground l.ground)) (map function_of (drop l.function-index l.functions)))
    ≡ all_hold (map (function_shape (plain_ground l.ground)) (map function_of l.functions))
