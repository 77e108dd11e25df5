use Rattle.std.proofs.Common.{◌≡◌, drop, map}
use Rattle.std.specs.List.{list_all}
use Rattle.potential_nodes.specs.Limits.{is_small_payment}
use Rattle.potential_types.specs.Views.{payment_of}
use Rattle.potential_types.proofs.limits.all_payments.Given as goal

-- whether all payments are small depends on those left
abbrev pub invariant-loop-payment : goal.invariant-loop-payment
invariant-loop-payment l =
    list_all is_small_payment (map payment_of (drop l.payment-index l.payments))
    ≡ list_all is_small_payment (map payment_of (l.payments))
