use Rattle.std.proofs.Common.{◌≡◌, drop, map}
use Rattle.std.specs.List.{list_all}
use Rattle.potential_nodes.specs.Limits.{is_small_move}
use Rattle.potential_types.specs.Views.{move_of}
use Rattle.potential_types.proofs.limits.all_moves.Given as goal

-- whether all moves are small depends on those left
abbrev pub invariant-loop-step : goal.invariant-loop-step
invariant-loop-step l =
    list_all is_small_move (map move_of (drop l.step-index l.moves))
    ≡ list_all is_small_move (map move_of (l.moves))
