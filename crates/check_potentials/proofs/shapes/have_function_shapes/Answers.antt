use Rattle.std.proofs.Common.{◌∙◌, sym, arith}
use Rattle.potential_nodes.specs.Tables.{function_shape}
use Rattle.check_potentials.specs.Grounds.{plain_ground}
use Rattle.potential_types.specs.Views.{function_of}
use Rattle.check_potentials.proofs.RefusalLaws.{hold_passed, hold_failed, hold_none}
use Rattle.check_potentials.proofs.shapes.have_function_shapes.Goals as goal

pub returns-then-not-is_right : goal.returns-then-not-is_right
returns-then-not-is_right c =
    hold_failed (function_shape (plain_ground c.args.ground)) function_of c.args.functions.now
    c.loop-function.function-index c.function-item.result c.loop-function-test.true c.function-item.is
    (sym c.has_function_shape-is_right.ensures ∙ c.if-not-is_right.true) c.loop-function.invariant

pub loop-function-preserved : goal.loop-function-preserved
loop-function-preserved c =
    hold_passed (function_shape (plain_ground c.args.ground)) function_of c.args.functions.now
    c.loop-function.function-index c.function-item.result c.loop-function-test.true c.function-item.is
    (sym c.has_function_shape-is_right.ensures ∙ c.if-not-is_right.false) c.loop-function.invariant

pub returns : goal.returns
returns c = hold_none (function_shape (plain_ground c.args.ground)) function_of c.args.functions.now
    c.loop-function.function-index (omega arith) c.loop-function.invariant
