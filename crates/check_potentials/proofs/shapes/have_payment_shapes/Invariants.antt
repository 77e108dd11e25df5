use Rattle.std.proofs.Common.{◌≡◌, drop, map}
use Rattle.potential_nodes.specs.Falls.{payment_shape}
use Rattle.check_potentials.specs.Grounds.{plain_ground}
use Rattle.potential_types.specs.Views.{payment_of, table_of}
use Rattle.check_potentials.specs.Refusals.{all_hold}
use Rattle.check_potentials.proofs.shapes.have_payment_shapes.Given as goal

-- what is left decides
abbrev pub invariant-loop-payment : goal.invariant-loop-payment
invariant-loop-payment l =
    all_hold (map (payment_shape (plain_ground l.ground) (table_of l.table))
    (map payment_of (drop l.payment-index l.payments)))
    ≡ all_hold (map (payment_shape (plain_ground l.ground) (table_of l.table)) (map payment_of l.payments))
