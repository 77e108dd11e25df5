use Rattle.std.proofs.Common.{◌≡◌, drop, map}
use Rattle.potential_nodes.specs.Tables.{move_shape}
use Rattle.check_potentials.specs.Grounds.{plain_ground}
use Rattle.potential_types.specs.Views.{move_of, table_of}
use Rattle.check_potentials.specs.Refusals.{all_hold}
use Rattle.check_potentials.proofs.shapes.have_move_shapes.Given as goal

-- what is left decides
abbrev pub invariant-loop-step : goal.invariant-loop-step
invariant-loop-step l =
    all_hold (map (move_shape (plain_ground l.ground) (table_of l.table)) (map move_of (drop l.step-index l.moves)))
    ≡ all_hold (map (move_shape (plain_ground l.ground) (table_of l.table)) (map move_of l.moves))
