use Rattle.std.proofs.Common.{ℕ, sym, subst, arith}
use Rattle.cert_types.specs.AnswerViews.{gap_of}
use Rattle.gap_checks.specs.GapBalances.{program, flags_at}
use Rattle.gap_checks.specs.GapTests.{AreShutFlags}
use Rattle.gap_checks.specs.declared.touching.Way.TheVariants.{Leaves}
use Rattle.gap_checks.specs.declared.touching.Touch.{Touch}
use Rattle.gap_checks.proofs.SymbolsInOrder.{AreDoneBefore, done-all, done-fails}
use Rattle.gap_checks.proofs.balancing.first_of_touches.Goals as goal

-- a placeholder touch
abbrev none : Touch
none = record { symbol = 0; position = 0; way = Leaves }

pub first_place-off-requires-clause-flags : goal.first_place-off-requires-clause-flags
first_place-off-requires-clause-flags c =
    let start = c.loop-start.start in
    let is = c.group_at-group.ensures.group in
    let from = c.group_at-group.ensures.from in
    let same = is.within start none (omega (arith, from)) (omega (arith, from, is.some)) in
    subst (λ (s : ℕ). AreShutFlags (flags_at c.args.rows.now start) (gap_of c.args.g.now).shut s) same
    (c.requires.shut.each start none c.loop-start-test.true (c.loop-start.invariant.first c.loop-start-test.true))

pub returns-in-Some : goal.returns-in-Some
returns-in-Some c =
    let p = program c.args.rules.now in
    let g = gap_of c.args.g.now in
    done-fails p g c.args.touches.now c.requires.shape.rules c.requires.touches none c.requires.valid c.group_at-group.result
    c.in-Some.place c.group_at-group.ensures.group
    (subst (λ (n : ℕ). AreDoneBefore p g c.args.touches.now n) (sym c.group_at-group.ensures.from) c.loop-start.invariant)
    c.in-Some.ensures

pub returns : goal.returns
returns c =
    done-all (program c.args.rules.now) (gap_of c.args.g.now) c.args.touches.now c.requires.shape.rules c.requires.touches none
    c.loop-start.start c.loop-start-test.false c.loop-start.invariant
