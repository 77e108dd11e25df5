use Rattle.std.proofs.Common.{◌≡◌, drop, map}
use Rattle.potential_nodes.specs.Lookup.{lookup}
use Rattle.potential_nodes.specs.Tables.{rule_of}
use Rattle.potential_types.specs.Views.{move_of}
use Rattle.check_potentials.proofs.functions.has_own_move.Given as goal

-- what is left decides
abbrev pub invariant-loop-step : goal.invariant-loop-step
invariant-loop-step l = lookup rule_of l.rule (map move_of (drop l.step-index l.moves)) ≡ lookup rule_of l.rule
    (map move_of l.moves)
