use Rattle.rank_search.proofs.ShutSets.{place-more}
use Rattle.rank_search.proofs.shut.shut_set.Goals as goal

pub loop-place-preserved : goal.loop-place-preserved
loop-place-preserved c =
    place-more c.loop-place.set c.insert.new.self c.args.shut.now c.loop-place.place-index _ c.loop-place-test.true
    c.loop-place.invariant c.in_ok-insert.ensures.updates.0
