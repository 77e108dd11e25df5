use Rattle.std.proofs.Common.{◌≡◌, ℕ, subst, length, get_or, arith}
use Rattle.std.proofs.lemmas.Option.{slice_get-get_or}
use Rattle.simplex_core.specs.ColumnListing.{Unmarks}
use Rattle.simplex_core.proofs.ColumnListings.{unmark-none, unmark-more}
use Rattle.simplex_core.proofs.column_table.touching.unmark.Goals as goal

pub loop-place-init : goal.loop-place-init
loop-place-init c = unmark-none c.args.marks.now.items c.args.touched.now

pub loop-place-preserved : goal.loop-place-preserved
loop-place-preserved c =
    let touched = c.args.touched.now in
    unmark-more c.args.marks.now.items c.loop-place.marks.items c.unmark_at.new.marks.items touched c.loop-place.place (get_or touched c.loop-place.place 0)
    c.loop-place.invariant c.unmark_at.ensures (slice_get-get_or touched c.loop-place.place 0 c.loop-place-test.true)

pub returns : goal.returns
returns c =
    let below = c.loop-place-test.false in
    let end = c.loop-place.auto.place-end in
    let all : c.loop-place.place ≡ length c.args.touched.now = omega (arith, below, end) in
    subst (λ (m : ℕ). Unmarks c.args.marks.now.items c.loop-place.marks.items c.args.touched.now m) all c.loop-place.invariant
