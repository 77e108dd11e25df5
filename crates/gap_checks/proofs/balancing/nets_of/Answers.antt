use Rattle.std.proofs.Common.{◌*◌, ◌<◌, ◌≤◌, length, get_or, arith}
use Rattle.std.proofs.lemmas.List.{get_or_default}
use Rattle.guard_prep.proofs.StepLaws.{few-places}
use Rattle.cert_types.specs.cert_program.RankedSets.{forms_at}
use Rattle.cert_types.specs.AnswerViews.{gap_of}
use Rattle.gap_checks.specs.GapBalances.{program}
use Rattle.gap_checks.specs.GapTests.{near_value_limit}
use Rattle.gap_checks.specs.declared.touching.Way.TheVariants.{Leaves}
use Rattle.gap_checks.specs.declared.touching.Touch.{Touch}
use Rattle.gap_checks.proofs.GapFaults.{shape-short}
use Rattle.gap_checks.proofs.Sums.{sums-weaker, sums-none, sums-more, sums-all}
use Rattle.gap_checks.proofs.TouchLists.{touch-count, touch-real}
use Rattle.gap_checks.proofs.balancing.nets_of.Goals as goal

-- a placeholder touch
abbrev none : Touch
none = record { symbol = 0; position = 0; way = Leaves }

pub loop-index-init : goal.loop-index-init
loop-index-init c =
    let p = program c.args.rules.now in
    let few = few-places p.symbols c.args.group.now.symbol c.requires.valid.symbols in
    sums-none p (gap_of c.args.g.now) c.args.touches.now c.requires.touches c.requires.shape.one_move none c.args.group.now
    c.requires.group (omega (arith, few))

pub add_touch-requires-clause-inside : goal.add_touch-requires-clause-inside
add_touch-requires-clause-inside c =
    (touch-real (forms_at (program c.args.rules.now)) c.args.g.now.set.items c.args.touches.now c.requires.touches
    c.loop-index.index _ (omega (arith, c.loop-index-test.true, c.requires.group.bound))).0

pub add_touch-requires-clause-room : goal.add_touch-requires-clause-room
add_touch-requires-clause-room c =
    let p = program c.args.rules.now in
    let g = c.args.g.now in
    let i = c.loop-index.index in
    let count = touch-count (forms_at p) g.set.items c.args.touches.now c.requires.touches in
    let few : length g.set.items ≤ 1000 = shape-short p c.requires.valid (gap_of g) c.requires.shape in
    sums-weaker c.loop-index.sums (i * near_value_limit) (1999 * near_value_limit)
    (omega (arith, c.loop-index-test.true, c.requires.group.bound, count, few)) c.loop-index.invariant.sums

pub loop-index-preserved : goal.loop-index-preserved
loop-index-preserved c =
    let ts = c.args.touches.now in
    let i = c.loop-index.index in
    let inside : i < length ts = omega (arith, c.loop-index-test.true, c.requires.group.bound) in
    sums-more (program c.args.rules.now) (gap_of c.args.g.now) ts c.requires.touches c.requires.shape.one_move
    c.args.group.now.symbol i (get_or ts i none) c.loop-index.sums c.add_touch.new.sums inside
    (get_or_default ts i none (get_or ts i none) inside)
    (c.requires.group.within i none c.loop-index.auto.index c.loop-index-test.true) c.loop-index.invariant c.add_touch.ensures

pub returns : goal.returns
returns c =
    let p = program c.args.rules.now in
    let g = c.args.g.now in
    let count = touch-count (forms_at p) g.set.items c.args.touches.now c.requires.touches in
    let few : length g.set.items ≤ 1000 = shape-short p c.requires.valid (gap_of g) c.requires.shape in
    let upto = c.loop-index.auto.index-end (omega (arith, c.requires.group.some)) in
    sums-all p (gap_of g) c.args.touches.now c.requires.touches c.requires.shape.one_move none c.args.group.now
    c.loop-index.index c.loop-index.sums c.requires.group (omega (arith, c.loop-index-test.false, upto))
    (omega (arith, upto, c.requires.group.bound, count, few)) c.loop-index.invariant
