use Rattle.std.proofs.Common.{◌∙◌, sym, arith}
use Rattle.potential_nodes.specs.Tables.{move_shape}
use Rattle.check_potentials.specs.Grounds.{plain_ground}
use Rattle.potential_types.specs.Views.{move_of, table_of}
use Rattle.check_potentials.proofs.RefusalLaws.{hold_passed, hold_failed, hold_none}
use Rattle.check_potentials.proofs.shapes.have_move_shapes.Goals as goal

pub returns-then-not-is_right : goal.returns-then-not-is_right
returns-then-not-is_right c =
    hold_failed (move_shape (plain_ground c.args.ground) (table_of c.args.table.now)) move_of c.args.moves.now
    c.loop-step.step-index c.step-item.result c.loop-step-test.true c.step-item.is
    (sym c.has_move_shape-is_right.ensures ∙ c.if-not-is_right.true) c.loop-step.invariant

pub loop-step-preserved : goal.loop-step-preserved
loop-step-preserved c =
    hold_passed (move_shape (plain_ground c.args.ground) (table_of c.args.table.now)) move_of c.args.moves.now
    c.loop-step.step-index c.step-item.result c.loop-step-test.true c.step-item.is
    (sym c.has_move_shape-is_right.ensures ∙ c.if-not-is_right.false) c.loop-step.invariant

pub returns : goal.returns
returns c = hold_none (move_shape (plain_ground c.args.ground) (table_of c.args.table.now)) move_of c.args.moves.now
    c.loop-step.step-index (omega arith) c.loop-step.invariant
