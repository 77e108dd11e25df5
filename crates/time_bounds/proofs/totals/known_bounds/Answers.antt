use Rattle.std.proofs.Common.{◌<◌, ◌≤◌, length, Some, sym, ◌∙◌, ap, arith}
use Rattle.bound_expr.specs.Views.{bounds_of, parts_of}
use Rattle.time_bounds.specs.Totals.{spent_by, spendings_by, known_parts}
use Rattle.time_bounds.proofs.KnownTimes.{pushed, missing, all_pushed}
use Rattle.time_bounds.proofs.totals.known_bounds.Goals as goal

pub loop-i-preserved : goal.loop-i-preserved
loop-i-preserved c =
    let times = c.args.times.now in
    let costs = c.args.costs.now in
    let short : c.loop-i.i < length costs = omega (arith, c.loop-i-test.true, c.requires.one_each) in
    pushed times costs c.loop-i.i c.index-times-i.result c.index-costs-i.result (known_parts (spendings_by times costs))
    c.loop-i.bounds.items c.in_ok-copied.field-0 c.push.new.self.items c.loop-i-test.true short c.loop-i.invariant
    ((λ j. spent_by (sym c.index-times-i.is j) (sym c.index-costs-i.is j))
    ∙ (c.in-Some.ensures ∙ ap Some (sym c.in_ok-copied.ensures))) c.in_ok-push.ensures.items

pub returns-in_default : goal.returns-in_default
returns-in_default c =
    let times = c.args.times.now in
    let costs = c.args.costs.now in
    let short : c.loop-i.i < length costs = omega (arith, c.loop-i-test.true, c.requires.one_each) in
    missing times costs c.loop-i.i c.index-times-i.result c.index-costs-i.result (known_parts (spendings_by times costs))
    (parts_of (bounds_of c.loop-i.bounds.items)) c.loop-i-test.true short c.loop-i.invariant
    ((λ j. spent_by (sym c.index-times-i.is j) (sym c.index-costs-i.is j)) ∙ c.in_default.ensures)

pub returns : goal.returns
returns c =
    let times = c.args.times.now in
    let costs = c.args.costs.now in
    let high : length times ≤ c.loop-i.i = omega (arith, c.loop-i-test.false) in
    all_pushed times costs c.loop-i.i (known_parts (spendings_by times costs))
    (parts_of (bounds_of c.loop-i.bounds.items)) high c.loop-i.invariant
