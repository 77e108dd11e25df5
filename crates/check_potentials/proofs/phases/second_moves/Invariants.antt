use Rattle.std.proofs.Common.{◌≡◌, take, map}
use Rattle.potential_nodes.specs.PhaseNodes.{PhasesNode, first_table, second_move, unit_payment}
use Rattle.potential_types.specs.Views.{move_of, payment_of, phase_move_of, table_of}
use Rattle.check_potentials.specs.Grounds.{plain_ground}
use Rattle.check_potentials.proofs.phases.second_moves.Given as goal

-- those passed are done
abbrev pub invariant-loop-step : goal.invariant-loop-step
invariant-loop-step l =
    (n : PhasesNode) → table_of l.first ≡ first_table n → map payment_of l.payments ≡ map unit_payment n.counted
    → map move_of l.moves.items ≡ map (second_move (plain_ground l.ground) n)
    (map phase_move_of (take l.step-index l.steps))
