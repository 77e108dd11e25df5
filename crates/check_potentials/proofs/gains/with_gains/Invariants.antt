use Rattle.std.proofs.Common.{◌≡◌, drop, map}
use Rattle.signed_bounds.specs.Bounds.{Part}
use Rattle.signed_bounds.specs.Views.{signed_of, signeds_of}
use Rattle.potential_nodes.specs.Falls.{gain_parts}
use Rattle.potential_types.specs.Views.{fact_view, move_of}
use Rattle.check_potentials.specs.Parts.{in_front}
use Rattle.check_potentials.proofs.gains.with_gains.Given as goal

-- the bounds found, in front of those of the moves that are left
abbrev pub invariant-loop-step : goal.invariant-loop-step
invariant-loop-step l =
    in_front (signeds_of l.parts.items) (gain_parts (map fact_view l.facts) (map move_of (drop l.step-index l.moves)))
    ≡ Part (signed_of l.fn.level) (gain_parts (map fact_view l.facts) (map move_of l.moves))
