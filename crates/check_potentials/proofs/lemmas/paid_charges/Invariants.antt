use Rattle.std.proofs.Common.{◌≡◌, take, map}
use Rattle.potential_nodes.specs.Falls.{payment_charge}
use Rattle.potential_types.specs.Views.{charge_of, payment_of}
use Rattle.check_potentials.proofs.lemmas.paid_charges.Given as goal

-- those passed are done
abbrev pub invariant-loop-payment : goal.invariant-loop-payment
invariant-loop-payment l = map charge_of l.charges.items ≡ map payment_charge
    (map payment_of (take l.payment-index l.payments))
