use Rattle.std.proofs.Common.{arith}
use Rattle.its_model.specs.Views.{program_of}
use Rattle.cert_types.specs.cert_program.RankedSets.{forms_at}
use Rattle.gap_checks.proofs.GapFaults.{in-list}
use Rattle.gap_checks.proofs.TouchLists.{put-next, put-all}
use Rattle.gap_checks.proofs.touching.put_touches.Goals as goal

pub left_by-requires : goal.left_by-requires
left_by-requires c =
    c.requires.rules _ (in-list c.args.set.now c.loop-position.position 0 (omega (arith, c.loop-position-test.true)))

pub reached_by-requires : goal.reached_by-requires
reached_by-requires c =
    c.requires.rules _ (in-list c.args.set.now c.loop-position.position 0 (omega (arith, c.loop-position-test.true)))

pub loop-position-preserved : goal.loop-position-preserved
loop-position-preserved c =
    put-next (forms_at (program_of c.args.p.now)) c.args.set.now c.loop-position.touches c.loop-position.position
    c.left_by.result c.reached_by.result c.left_by.ensures c.reached_by.ensures
    (omega (arith, c.requires.room, c.loop-position.auto.touches, c.loop-position-test.true)) c.loop-position.invariant

pub returns : goal.returns
returns c =
    put-all (forms_at (program_of c.args.p.now)) c.args.set.now c.loop-position.touches c.loop-position.position
    (omega (arith, c.loop-position.auto.position-end, c.loop-position-test.false))
    (omega (arith, c.requires.room, c.loop-position.auto.touches)) c.loop-position.invariant
