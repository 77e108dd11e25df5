use Rattle.std.proofs.Common.{◌∙◌, sym, map, arith}
use Rattle.potential_nodes.specs.Falls.{sum_shape}
use Rattle.potential_types.specs.Views.{fact_view, move_of}
use Rattle.check_potentials.proofs.RefusalLaws.{hold_passed, hold_failed, hold_none}
use Rattle.check_potentials.proofs.shapes.cite_sums.Goals as goal

pub returns-then-not-is_right : goal.returns-then-not-is_right
returns-then-not-is_right c =
    hold_failed (sum_shape (map fact_view c.args.facts.now)) move_of c.args.moves.now c.loop-step.step-index
    c.step-item.result c.loop-step-test.true c.step-item.is
    (sym c.cites_sum-is_right.ensures ∙ c.if-not-is_right.true) c.loop-step.invariant

pub loop-step-preserved : goal.loop-step-preserved
loop-step-preserved c =
    hold_passed (sum_shape (map fact_view c.args.facts.now)) move_of c.args.moves.now c.loop-step.step-index
    c.step-item.result c.loop-step-test.true c.step-item.is
    (sym c.cites_sum-is_right.ensures ∙ c.if-not-is_right.false) c.loop-step.invariant

pub returns : goal.returns
returns c = hold_none (sum_shape (map fact_view c.args.facts.now)) move_of c.args.moves.now c.loop-step.step-index
    (omega arith) c.loop-step.invariant
