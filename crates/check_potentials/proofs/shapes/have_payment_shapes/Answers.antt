use Rattle.std.proofs.Common.{◌∙◌, sym, arith}
use Rattle.potential_nodes.specs.Falls.{payment_shape}
use Rattle.check_potentials.specs.Grounds.{plain_ground}
use Rattle.potential_types.specs.Views.{payment_of, table_of}
use Rattle.check_potentials.proofs.RefusalLaws.{hold_passed, hold_failed, hold_none}
use Rattle.check_potentials.proofs.shapes.have_payment_shapes.Goals as goal

pub returns-then-not-is_right : goal.returns-then-not-is_right
returns-then-not-is_right c =
    hold_failed (payment_shape (plain_ground c.args.ground) (table_of c.args.table.now)) payment_of c.args.payments.now
    c.loop-payment.payment-index c.payment-item.result c.loop-payment-test.true c.payment-item.is
    (sym c.has_payment_shape-is_right.ensures ∙ c.if-not-is_right.true) c.loop-payment.invariant

pub loop-payment-preserved : goal.loop-payment-preserved
loop-payment-preserved c =
    hold_passed (payment_shape (plain_ground c.args.ground) (table_of c.args.table.now)) payment_of c.args.payments.now
    c.loop-payment.payment-index c.payment-item.result c.loop-payment-test.true c.payment-item.is
    (sym c.has_payment_shape-is_right.ensures ∙ c.if-not-is_right.false) c.loop-payment.invariant

pub returns : goal.returns
returns c = hold_none (payment_shape (plain_ground c.args.ground) (table_of c.args.table.now)) payment_of
    c.args.payments.now c.loop-payment.payment-index (omega arith) c.loop-payment.invariant
