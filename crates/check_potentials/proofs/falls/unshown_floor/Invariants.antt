use Rattle.std.proofs.Common.{◌≡◌, drop, map}
use Rattle.potential_nodes.specs.Checks.{first_refused}
use Rattle.potential_nodes.specs.Falls.{floor_check}
use Rattle.check_potentials.specs.Grounds.{plain_ground}
use Rattle.potential_types.specs.Views.{payment_of, table_of}
use Rattle.check_potentials.proofs.falls.unshown_floor.Given as goal

-- what is left decides
abbrev pub invariant-loop-payment : goal.invariant-loop-payment
invariant-loop-payment l =
    first_refused (map (floor_check (plain_ground l.ground) (table_of l.table))
    (map payment_of (drop l.payment-index l.payments)))
    ≡ first_refused (map (floor_check (plain_ground l.ground) (table_of l.table)) (map payment_of l.payments))
