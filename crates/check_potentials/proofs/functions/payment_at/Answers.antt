use Rattle.std.proofs.Common.{arith}
use Rattle.std.proofs.lemmas.Bool.{eq-eqb}
use Rattle.potential_nodes.specs.Falls.{payer}
use Rattle.potential_types.specs.Views.{payment_of}
use Rattle.check_potentials.proofs.KeyLaws.{neq-eqb, lookup_found, lookup_passed, lookup_none}
use Rattle.check_potentials.proofs.functions.payment_at.Goals as goal

pub returns-then-payment-rule : goal.returns-then-payment-rule
returns-then-payment-rule c =
    lookup_found payer payment_of c.args.payments.now c.loop-payment.payment-index c.args.rule c.payment-item.result
    c.loop-payment-test.true c.payment-item.is
    (eq-eqb _ _ c.if-payment-rule.true) c.loop-payment.invariant

pub loop-payment-preserved : goal.loop-payment-preserved
loop-payment-preserved c =
    lookup_passed payer payment_of c.args.payments.now c.loop-payment.payment-index c.args.rule c.payment-item.result
    c.loop-payment-test.true c.payment-item.is
    (neq-eqb _ _ c.if-payment-rule.false) c.loop-payment.invariant

pub returns : goal.returns
returns c = lookup_none payer payment_of c.args.payments.now c.loop-payment.payment-index c.args.rule (omega arith)
    c.loop-payment.invariant
