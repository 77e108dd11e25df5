use Rattle.std.proofs.Common.{◌∙◌, sym, map, arith}
use Rattle.potential_nodes.specs.Tables.{move_check}
use Rattle.check_potentials.specs.Amounts.{amount_of}
use Rattle.check_potentials.specs.Grounds.{plain_ground}
use Rattle.potential_types.specs.Views.{move_of, payment_of, table_of}
use Rattle.poly_terms.specs.Views.{monomials_of}
use Rattle.check_potentials.proofs.MoveLaws.{move_amount}
use Rattle.check_potentials.proofs.RefusalLaws.{refused_passed, refused_found, refused_none}
use Rattle.check_potentials.proofs.moves.unshown_move.Goals as goal

pub returns-then-not-is_shown : goal.returns-then-not-is_shown
returns-then-not-is_shown c =
    refused_found (move_check (plain_ground c.args.ground) (table_of c.args.table.now)
    (amount_of (map payment_of c.args.payments.now))) move_of c.args.moves.now c.loop-step.step-index c.step-item.result
    c.loop-step-test.true c.step-item.is
    (sym (move_amount (plain_ground c.args.ground) (table_of c.args.table.now)
    (amount_of (map payment_of c.args.payments.now))
    (move_of c.step-item.result) (monomials_of c.amount_of-amount.result.now) c.amount_of-amount.ensures)
    ∙ (sym c.in_ok-is_shown.ensures ∙ c.if-not-is_shown.true)) c.loop-step.invariant

pub loop-step-preserved : goal.loop-step-preserved
loop-step-preserved c =
    refused_passed (move_check (plain_ground c.args.ground) (table_of c.args.table.now)
    (amount_of (map payment_of c.args.payments.now))) move_of c.args.moves.now c.loop-step.step-index c.step-item.result
    c.loop-step-test.true c.step-item.is
    (sym (move_amount (plain_ground c.args.ground) (table_of c.args.table.now)
    (amount_of (map payment_of c.args.payments.now))
    (move_of c.step-item.result) (monomials_of c.amount_of-amount.result.now) c.amount_of-amount.ensures)
    ∙ (sym c.in_ok-is_shown.ensures ∙ c.if-not-is_shown.false)) c.loop-step.invariant

pub returns : goal.returns
returns c = refused_none (move_check (plain_ground c.args.ground) (table_of c.args.table.now)
    (amount_of (map payment_of c.args.payments.now))) move_of c.args.moves.now c.loop-step.step-index (omega arith)
    c.loop-step.invariant
