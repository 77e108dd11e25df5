use Rattle.std.proofs.Common.{◌≡◌, drop, map}
use Rattle.std.specs.List.{list_all}
use Rattle.potential_nodes.specs.Limits.{is_small_phase_move}
use Rattle.potential_types.specs.Views.{phase_move_of}
use Rattle.potential_types.proofs.limits.all_phase_moves.Given as goal

-- whether all moves of phases are small depends on those left
abbrev pub invariant-loop-step : goal.invariant-loop-step
invariant-loop-step l =
    list_all is_small_phase_move (map phase_move_of (drop l.step-index l.moves))
    ≡ list_all is_small_phase_move (map phase_move_of (l.moves))
