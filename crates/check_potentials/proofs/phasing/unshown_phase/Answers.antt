use Rattle.std.proofs.Common.{◌∙◌, sym, arith}
use Rattle.potential_nodes.specs.PhaseNodes.{phase_check}
use Rattle.potential_types.specs.Views.{phase_move_of}
use Rattle.check_potentials.specs.Grounds.{plain_ground}
use Rattle.check_potentials.proofs.RefusalLaws.{refused_passed, refused_found, refused_none}
use Rattle.check_potentials.proofs.phasing.unshown_phase.Goals as goal

pub returns-then-not-is_shown : goal.returns-then-not-is_shown
returns-then-not-is_shown c = λ n are.
    refused_found (phase_check (plain_ground c.args.ground) n) phase_move_of c.args.steps.now c.loop-step.step-index
    c.step-item.result c.loop-step-test.true c.step-item.is
    (sym (c.in_ok-is_shown.ensures n are) ∙ c.if-not-is_shown.true) (c.loop-step.invariant n are)

pub loop-step-preserved : goal.loop-step-preserved
loop-step-preserved c = λ n are.
    refused_passed (phase_check (plain_ground c.args.ground) n) phase_move_of c.args.steps.now c.loop-step.step-index
    c.step-item.result c.loop-step-test.true c.step-item.is
    (sym (c.in_ok-is_shown.ensures n are) ∙ c.if-not-is_shown.false) (c.loop-step.invariant n are)

pub returns : goal.returns
returns c = λ n are.
    refused_none (phase_check (plain_ground c.args.ground) n) phase_move_of c.args.steps.now c.loop-step.step-index
    (omega arith) (c.loop-step.invariant n are)
