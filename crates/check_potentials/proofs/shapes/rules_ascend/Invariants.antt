use Rattle.std.proofs.Common.{◌≡◌, drop, map}
use Rattle.potential_nodes.specs.Lookup.{ascends}
use Rattle.potential_nodes.specs.Tables.{rule_of}
use Rattle.potential_types.specs.Views.{move_of}
use Rattle.check_potentials.specs.Keys.{ascends_behind}
use Rattle.check_potentials.proofs.shapes.rules_ascend.Given as goal

-- what is left after the last key decides
abbrev pub invariant-loop-step : goal.invariant-loop-step
invariant-loop-step l =
    ascends_behind l.last (map rule_of (map move_of (drop l.step-index l.moves))) ≡ ascends
    (map rule_of (map move_of l.moves))
