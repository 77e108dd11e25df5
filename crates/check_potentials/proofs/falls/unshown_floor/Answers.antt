use Rattle.std.proofs.Common.{◌∙◌, sym, arith}
use Rattle.potential_nodes.specs.Falls.{floor_check}
use Rattle.check_potentials.specs.Grounds.{plain_ground}
use Rattle.potential_types.specs.Views.{payment_of, table_of}
use Rattle.check_potentials.proofs.RefusalLaws.{refused_passed, refused_found, refused_none}
use Rattle.check_potentials.proofs.falls.unshown_floor.Goals as goal

pub returns-then-not-is_shown : goal.returns-then-not-is_shown
returns-then-not-is_shown c =
    refused_found (floor_check (plain_ground c.args.ground) (table_of c.args.table.now)) payment_of c.args.payments.now
    c.loop-payment.payment-index c.payment-item.result c.loop-payment-test.true c.payment-item.is
    (sym c.in_ok-is_shown.ensures ∙ c.if-not-is_shown.true) c.loop-payment.invariant

pub loop-payment-preserved : goal.loop-payment-preserved
loop-payment-preserved c =
    refused_passed (floor_check (plain_ground c.args.ground) (table_of c.args.table.now)) payment_of c.args.payments.now
    c.loop-payment.payment-index c.payment-item.result c.loop-payment-test.true c.payment-item.is
    (sym c.in_ok-is_shown.ensures ∙ c.if-not-is_shown.false) c.loop-payment.invariant

pub returns : goal.returns
returns c = refused_none (floor_check (plain_ground c.args.ground) (table_of c.args.table.now)) payment_of
    c.args.payments.now c.loop-payment.payment-index (omega arith) c.loop-payment.invariant
