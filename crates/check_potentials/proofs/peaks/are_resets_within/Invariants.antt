use Rattle.std.proofs.Common.{◌≡◌, drop, map}
use Rattle.std.specs.Prelude.{filter}
use Rattle.signed_bounds.specs.Views.{signed_of}
use Rattle.potential_nodes.specs.Peaks.{peak_parts, sets_anew}
use Rattle.potential_types.specs.Views.{fact_view, move_of, table_of}
use Rattle.check_potentials.specs.Stages.{are_levels_within}
use Rattle.check_potentials.proofs.peaks.are_resets_within.Given as goal

-- what is left decides
abbrev pub invariant-loop-step : goal.invariant-loop-step
invariant-loop-step l =
    are_levels_within (map fact_view l.facts) (table_of l.table) (signed_of l.bound)
    (peak_parts (map fact_view l.facts) (filter sets_anew (map move_of (drop l.step-index l.moves))))
    ≡ are_levels_within (map fact_view l.facts) (table_of l.table) (signed_of l.bound)
    (peak_parts (map fact_view l.facts) (filter sets_anew (map move_of l.moves)))
