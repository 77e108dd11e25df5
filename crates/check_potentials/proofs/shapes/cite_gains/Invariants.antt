use Rattle.std.proofs.Common.{◌≡◌, drop, map}
use Rattle.potential_nodes.specs.Peaks.{cited_shape}
use Rattle.potential_types.specs.Views.{fact_view, move_of}
use Rattle.check_potentials.specs.Refusals.{all_hold}
use Rattle.check_potentials.proofs.shapes.cite_gains.Given as goal

-- what is left decides
abbrev pub invariant-loop-step : goal.invariant-loop-step
invariant-loop-step l =
    all_hold (map (cited_shape (map fact_view l.facts)) (map move_of (drop l.step-index l.moves)))
    ≡ all_hold (map (cited_shape (map fact_view l.facts)) (map move_of l.moves))
