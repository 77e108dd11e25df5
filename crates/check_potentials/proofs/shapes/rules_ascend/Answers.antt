use Rattle.std.proofs.Common.{◌∙◌, sym, arith}
use Rattle.potential_nodes.specs.Tables.{rule_of}
use Rattle.potential_types.specs.Views.{move_of}
use Rattle.check_potentials.proofs.KeyLaws.{keys_passed, keys_failed, keys_none}
use Rattle.check_potentials.proofs.shapes.rules_ascend.Goals as goal

pub returns-then-not-is_next : goal.returns-then-not-is_next
returns-then-not-is_next c =
    keys_failed rule_of move_of c.args.moves.now c.loop-step.step-index c.loop-step.last c.step-item.result
    c.loop-step-test.true c.step-item.is
    (sym c.if-not-is_next.true ∙ c.is_above-is_next.ensures) c.loop-step.invariant

pub loop-step-preserved : goal.loop-step-preserved
loop-step-preserved c =
    keys_passed rule_of move_of c.args.moves.now c.loop-step.step-index c.loop-step.last c.step-item.result
    c.loop-step-test.true c.step-item.is
    (sym c.if-not-is_next.false ∙ c.is_above-is_next.ensures) c.loop-step.invariant

pub returns : goal.returns
returns c = keys_none rule_of move_of c.args.moves.now c.loop-step.step-index c.loop-step.last (omega arith)
    c.loop-step.invariant
