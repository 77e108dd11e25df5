use Rattle.std.proofs.Common.{◌≡◌, ℕ, subst, length, arith, List}
use Rattle.std.proofs.lemmas.Option.{slice_get-get_or}
use Rattle.simplex_core.specs.ColumnListing.{AreMarked, Unmarks}
use Rattle.simplex_core.proofs.ColumnListings.{marked-none, marked-all, unmarked-blank}
use Rattle.simplex_core.proofs.column_table.touching.touched_of.Goals as goal

pub loop-place-init : goal.loop-place-init
loop-place-init c = marked-none c.args.columns.now c.args.row c.args.listed.now c.args.marks.now.items c.in_ok-touched.touched.items c.requires c.in_ok-touched.ensures.items

pub touch-requires : goal.touch-requires
touch-requires c = c.loop-place.invariant.length_is

pub loop-place-preserved : goal.loop-place-preserved
loop-place-preserved c =
    let listed = c.args.listed.now in
    c.in_ok-touch.ensures listed c.loop-place.place (slice_get-get_or listed c.loop-place.place 0 c.loop-place-test.true) c.loop-place.invariant

pub returns-clause-touched : goal.returns-clause-touched
returns-clause-touched c covers =
    let listed = c.args.listed.now in
    let below = c.loop-place-test.false in
    let end = c.loop-place.auto.place-end in
    let all : c.loop-place.place ≡ length listed = omega (arith, below, end) in
    marked-all c.args.columns.now c.args.row listed c.loop-place.marks.items c.loop-place.touched.items
    (subst (λ (m : ℕ). AreMarked c.args.columns.now c.args.row listed m c.loop-place.marks.items c.loop-place.touched.items) all c.loop-place.invariant) covers

pub returns-clause-blank : goal.returns-clause-blank
returns-clause-blank c =
    unmarked-blank c.args.columns.now c.args.row c.args.listed.now c.loop-place.place c.loop-place.marks.items c.unmark.new.marks.items c.loop-place.touched.items c.loop-place.invariant
    (subst (λ (xs : List ℕ). Unmarks c.loop-place.marks.items c.unmark.new.marks.items xs (length xs)) c.as_slice.ensures.value c.unmark.ensures)
