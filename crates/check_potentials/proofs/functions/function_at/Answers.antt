use Rattle.std.proofs.Common.{arith}
use Rattle.std.proofs.lemmas.Bool.{eq-eqb}
use Rattle.potential_nodes.specs.Tables.{symbol_of}
use Rattle.potential_types.specs.Views.{function_of}
use Rattle.check_potentials.proofs.KeyLaws.{neq-eqb, lookup_found, lookup_passed, lookup_none}
use Rattle.check_potentials.proofs.functions.function_at.Goals as goal

pub returns-then-function-symbol : goal.returns-then-function-symbol
returns-then-function-symbol c =
    lookup_found symbol_of function_of c.args.functions.now c.loop-function.function-index c.args.symbol
    c.function-item.result c.loop-function-test.true c.function-item.is
    (eq-eqb _ _ c.if-function-symbol.true) c.loop-function.invariant

pub loop-function-preserved : goal.loop-function-preserved
loop-function-preserved c =
    lookup_passed symbol_of function_of c.args.functions.now c.loop-function.function-index c.args.symbol
    c.function-item.result c.loop-function-test.true c.function-item.is
    (neq-eqb _ _ c.if-function-symbol.false) c.loop-function.invariant

pub returns : goal.returns
returns c = lookup_none symbol_of function_of c.args.functions.now c.loop-function.function-index c.args.symbol
    (omega arith) c.loop-function.invariant
