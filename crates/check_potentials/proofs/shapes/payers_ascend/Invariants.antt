use Rattle.std.proofs.Common.{◌≡◌, drop, map}
use Rattle.potential_nodes.specs.Lookup.{ascends}
use Rattle.potential_nodes.specs.Falls.{payer}
use Rattle.potential_types.specs.Views.{payment_of}
use Rattle.check_potentials.specs.Keys.{ascends_behind}
use Rattle.check_potentials.proofs.shapes.payers_ascend.Given as goal

-- what is left after the last key decides
abbrev pub invariant-loop-payment : goal.invariant-loop-payment
invariant-loop-payment l =
    ascends_behind l.last (map payer (map payment_of (drop l.payment-index l.payments))) ≡ ascends
    (map payer (map payment_of l.payments))
