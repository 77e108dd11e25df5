use Rattle.std.proofs.Common.{◌≡◌, take, drop, map}
use Rattle.potential_nodes.specs.Combinations.{without_charge}
use Rattle.potential_types.specs.Views.{charge_of}
use Rattle.check_potentials.proofs.TakingLaws.{behind}
use Rattle.check_potentials.proofs.combining.position.Given as goal

-- no charge that was passed is the same
abbrev pub invariant-loop-i : goal.invariant-loop-i
invariant-loop-i l =
    behind (take l.i (map charge_of l.charges)) (without_charge (charge_of l.charge)
    (drop l.i (map charge_of l.charges)))
    ≡ without_charge (charge_of l.charge) (map charge_of l.charges)
