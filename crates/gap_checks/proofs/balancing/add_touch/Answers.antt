use Rattle.std.proofs.Common.{◌<◌, length, ap, arith}
use Rattle.std.specs.Prelude.{unsigned_abs}
use Rattle.gap_checks.specs.GapBalances.{sum_at}
use Rattle.gap_checks.proofs.Sums.{sum-fits, sum-read, added-more, added-all}
use Rattle.gap_checks.proofs.balancing.add_touch.Goals as goal

pub overflow_add-sums : goal.overflow_add-sums
overflow_add-sums c =
    let place = c.loop-place.place in
    let low : place < 33 = omega (arith, c.loop-place-test.true, c.places_of-place-end.ensures.1) in
    let old = ap unsigned_abs (c.loop-place.invariant.others place (omega arith)) in
    sum-fits (sum_at c.loop-place.sums place) c.share_at.result (omega (arith, old, c.requires.room.size place low, c.share_at.ensures.size))

pub loop-place-preserved : goal.loop-place-preserved
loop-place-preserved c =
    let place = c.loop-place.place in
    let low : place < 33 = omega (arith, c.loop-place-test.true, c.places_of-place-end.ensures.1) in
    let old = ap unsigned_abs (c.loop-place.invariant.others place (omega arith)) in
    let within : place < length c.args.sums.now = omega (arith, low, c.requires.room.long) in
    added-more _ c.args.sums.now place c.loop-place.sums _ c.share_at.result within c.loop-place.invariant
    (sum-read (sum_at c.loop-place.sums place) c.share_at.result (omega (arith, old, c.requires.room.size place low, c.share_at.ensures.size)))
    c.share_at.ensures.value c.share_at.ensures.size

pub returns : goal.returns
returns c =
    added-all _ _ c.args.touch.now c.args.sums.now c.loop-place.sums c.loop-place.place
    (omega (arith, c.loop-place-test.false, c.places_of-place-end.ensures.0)) c.loop-place.invariant
