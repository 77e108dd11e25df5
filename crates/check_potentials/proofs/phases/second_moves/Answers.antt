use Rattle.potential_nodes.specs.PhaseNodes.{second_move}
use Rattle.potential_types.specs.Views.{move_of, phase_move_of}
use Rattle.check_potentials.specs.Grounds.{plain_ground}
use Rattle.check_potentials.proofs.PhaseTables.{push_made}
use Rattle.check_potentials.proofs.phases.second_moves.Goals as goal

pub loop-step-preserved : goal.loop-step-preserved
loop-step-preserved c = λ n first payments.
    push_made move_of (second_move (plain_ground c.args.ground) n) phase_move_of c.loop-step.moves.items
    c.push.new.self.items c.args.steps.now c.loop-step.step-index c.step-item.result c.in_ok-second_move.field-0
    c.loop-step-test.true c.step-item.is (c.in_ok-second_move.ensures n first payments) c.in_ok-push.ensures.items
    (c.loop-step.invariant n first payments)
