use Rattle.std.proofs.Common.{◌≡◌, take, map}
use Rattle.potential_nodes.specs.PhaseNodes.{first_move}
use Rattle.potential_types.specs.Views.{move_of, phase_move_of}
use Rattle.check_potentials.proofs.phases.first_moves.Given as goal

-- those passed are done
abbrev pub invariant-loop-step : goal.invariant-loop-step
invariant-loop-step l = map move_of l.moves.items ≡ map first_move (map phase_move_of (take l.step-index l.steps))
