use Rattle.std.proofs.Common.{◌≡◌, drop, map}
use Rattle.potential_nodes.specs.Lookup.{lookup}
use Rattle.potential_nodes.specs.Falls.{payer}
use Rattle.potential_types.specs.Views.{payment_of}
use Rattle.check_potentials.proofs.functions.payment_at.Given as goal

-- what is left decides
abbrev pub invariant-loop-payment : goal.invariant-loop-payment
invariant-loop-payment l = lookup payer l.rule (map payment_of (drop l.payment-index l.payments)) ≡ lookup payer l.rule
    (map payment_of l.payments)
