use Rattle.std.proofs.Common.{◌∙◌, sym, arith}
use Rattle.potential_nodes.specs.Falls.{payer}
use Rattle.potential_types.specs.Views.{payment_of}
use Rattle.check_potentials.proofs.KeyLaws.{keys_passed, keys_failed, keys_none}
use Rattle.check_potentials.proofs.shapes.payers_ascend.Goals as goal

pub returns-then-not-is_next : goal.returns-then-not-is_next
returns-then-not-is_next c =
    keys_failed payer payment_of c.args.payments.now c.loop-payment.payment-index c.loop-payment.last
    c.payment-item.result c.loop-payment-test.true c.payment-item.is
    (sym c.if-not-is_next.true ∙ c.is_above-is_next.ensures) c.loop-payment.invariant

pub loop-payment-preserved : goal.loop-payment-preserved
loop-payment-preserved c =
    keys_passed payer payment_of c.args.payments.now c.loop-payment.payment-index c.loop-payment.last
    c.payment-item.result c.loop-payment-test.true c.payment-item.is
    (sym c.if-not-is_next.false ∙ c.is_above-is_next.ensures) c.loop-payment.invariant

pub returns : goal.returns
returns c = keys_none payer payment_of c.args.payments.now c.loop-payment.payment-index c.loop-payment.last
    (omega arith) c.loop-payment.invariant
