use Rattle.std.proofs.Common.{◌≡◌, drop, map}
use Rattle.potential_nodes.specs.Checks.{first_refused}
use Rattle.potential_nodes.specs.PhaseNodes.{PhasesNode, phase_check}
use Rattle.potential_types.specs.Views.{phase_move_of}
use Rattle.check_potentials.specs.Grounds.{plain_ground}
use Rattle.check_potentials.specs.Phases.{ArePhasesOf}
use Rattle.check_potentials.proofs.phasing.unshown_phase.Given as goal

-- what is left decides
abbrev pub invariant-loop-step : goal.invariant-loop-step
invariant-loop-step l =
    (n : PhasesNode) → ArePhasesOf (plain_ground l.ground) n l.tables
    → first_refused (map (phase_check (plain_ground l.ground) n) (map phase_move_of (drop l.step-index l.steps)))
    ≡ first_refused (map (phase_check (plain_ground l.ground) n) (map phase_move_of l.steps))
