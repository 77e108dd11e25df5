use Rattle.std.proofs.Common.{◌≡◌, take, map}
use Rattle.potential_nodes.specs.PhaseNodes.{unit_payment}
use Rattle.potential_types.specs.Views.{counted_of, payment_of}
use Rattle.check_potentials.proofs.phases.unit_payments.Given as goal

-- those passed are done
abbrev pub invariant-loop-rule : goal.invariant-loop-rule
invariant-loop-rule l = map payment_of l.payments.items ≡ map unit_payment
    (map counted_of (take l.rule-index l.counted))
