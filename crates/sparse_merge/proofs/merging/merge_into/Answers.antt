use Rattle.sparse_merge.proofs.Steps.{merge-stops, merge-goes_on}
use Rattle.sparse_merge.proofs.merging.merge_into.Goals as goal

pub returns-in-Err-clause-stopped : goal.returns-in-Err-clause-stopped
returns-in-Err-clause-stopped g c =
    merge-stops g.C.Cell.place_of g.C.Cell.fits (g.J.Join.joins c.args.join.now) (g.met.J.Join.joins_nothing c.args.join.now)
    c.args.left.now c.places.left.now c.args.right.now c.places.right.now c.places.made.items c.places.invariant c.in-Some.place c.in-Some.ensures
    c.take_at-at_left.result.0 c.take_at-at_right.result.0 c.take_at-at_left.result.1.now c.take_at-at_right.result.1.now
    c.take_at-at_left.ensures c.take_at-at_right.ensures (g.J.Join.refuses c.args.join.now) c.in-Err.ensures.joined

pub places-preserved : goal.places-preserved
places-preserved g c =
    merge-goes_on g.C.Cell.place_of g.C.Cell.fits (g.J.Join.joins c.args.join.now) (g.met.J.Join.joins_nothing c.args.join.now)
    c.args.left.now c.places.left.now c.args.right.now c.places.right.now c.places.made.items c.places.invariant c.in-Some.place c.in-Some.ensures
    c.take_at-at_left.result.0 c.take_at-at_right.result.0 c.take_at-at_left.result.1.now c.take_at-at_right.result.1.now
    c.take_at-at_left.ensures c.take_at-at_right.ensures c.in-Ok.cell c.put.new.made.items c.in-Ok.ensures.joined c.in-Ok.ensures.made
    c.in_ok-put-in-Ok.ensures.put
