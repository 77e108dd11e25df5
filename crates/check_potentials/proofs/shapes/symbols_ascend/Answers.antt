use Rattle.std.proofs.Common.{◌∙◌, sym, arith}
use Rattle.potential_nodes.specs.Tables.{symbol_of}
use Rattle.potential_types.specs.Views.{function_of}
use Rattle.check_potentials.proofs.KeyLaws.{keys_passed, keys_failed, keys_none}
use Rattle.check_potentials.proofs.shapes.symbols_ascend.Goals as goal

pub returns-then-not-is_next : goal.returns-then-not-is_next
returns-then-not-is_next c =
    keys_failed symbol_of function_of c.args.functions.now c.loop-function.function-index c.loop-function.last
    c.function-item.result c.loop-function-test.true c.function-item.is
    (sym c.if-not-is_next.true ∙ c.is_above-is_next.ensures) c.loop-function.invariant

pub loop-function-preserved : goal.loop-function-preserved
loop-function-preserved c =
    keys_passed symbol_of function_of c.args.functions.now c.loop-function.function-index c.loop-function.last
    c.function-item.result c.loop-function-test.true c.function-item.is
    (sym c.if-not-is_next.false ∙ c.is_above-is_next.ensures) c.loop-function.invariant

pub returns : goal.returns
returns c = keys_none symbol_of function_of c.args.functions.now c.loop-function.function-index c.loop-function.last
    (omega arith) c.loop-function.invariant
