use Rattle.std.proofs.Common.{◌≡◌, drop, map}
use Rattle.potential_nodes.specs.Checks.{first_refused}
use Rattle.check_potentials.specs.Stages.{gain_bounded}
use Rattle.potential_types.specs.Views.{move_of}
use Rattle.check_potentials.proofs.gains.unbounded_gain.Given as goal

-- what is left decides
abbrev pub invariant-loop-step : goal.invariant-loop-step
invariant-loop-step l =
    first_refused (map (gain_bounded) (map move_of (drop l.step-index l.moves)))
    ≡ first_refused (map (gain_bounded) (map move_of l.moves))
