use Rattle.std.proofs.Common.{◌≡◌, drop, map}
use Rattle.potential_nodes.specs.Checks.{first_refused}
use Rattle.potential_nodes.specs.Falls.{amount_check}
use Rattle.check_potentials.specs.Grounds.{plain_ground}
use Rattle.potential_types.specs.Views.{payment_of}
use Rattle.check_potentials.proofs.falls.unshown_amount.Given as goal

-- what is left decides
abbrev pub invariant-loop-payment : goal.invariant-loop-payment
invariant-loop-payment l =
    first_refused (map (amount_check (plain_ground l.ground)) (map payment_of (drop l.payment-index l.payments)))
    ≡ first_refused (map (amount_check (plain_ground l.ground)) (map payment_of l.payments))
