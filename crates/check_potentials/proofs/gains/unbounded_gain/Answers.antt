use Rattle.std.proofs.Common.{◌∙◌, sym, arith}
use Rattle.check_potentials.specs.Stages.{gain_bounded}
use Rattle.potential_types.specs.Views.{move_of}
use Rattle.check_potentials.proofs.RefusalLaws.{refused_passed, refused_found, refused_none}
use Rattle.check_potentials.proofs.gains.unbounded_gain.Goals as goal

pub returns-then-not-is_bounded : goal.returns-then-not-is_bounded
returns-then-not-is_bounded c =
    refused_found (gain_bounded) move_of c.args.moves.now c.loop-step.step-index c.step-item.result
    c.loop-step-test.true c.step-item.is
    (sym c.in_ok-is_bounded.ensures ∙ c.if-not-is_bounded.true) c.loop-step.invariant

pub loop-step-preserved : goal.loop-step-preserved
loop-step-preserved c =
    refused_passed (gain_bounded) move_of c.args.moves.now c.loop-step.step-index c.step-item.result
    c.loop-step-test.true c.step-item.is
    (sym c.in_ok-is_bounded.ensures ∙ c.if-not-is_bounded.false) c.loop-step.invariant

pub returns : goal.returns
returns c = refused_none (gain_bounded) move_of c.args.moves.now c.loop-step.step-index (omega arith)
    c.loop-step.invariant
