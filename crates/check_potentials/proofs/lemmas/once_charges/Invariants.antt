use Rattle.std.proofs.Common.{◌≡◌, take, map}
use Rattle.potential_nodes.specs.Falls.{payment_charge}
use Rattle.potential_nodes.specs.PhaseNodes.{unit_payment}
use Rattle.potential_types.specs.Views.{charge_of, counted_of}
use Rattle.check_potentials.proofs.lemmas.once_charges.Given as goal

-- those passed are done
abbrev pub invariant-loop-rule : goal.invariant-loop-rule
invariant-loop-rule l = map charge_of l.charges.items ≡ map payment_charge
    (map unit_payment (map counted_of (take l.rule-index l.counted)))
