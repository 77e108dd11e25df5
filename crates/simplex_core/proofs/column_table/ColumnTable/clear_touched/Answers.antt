use Rattle.std.proofs.Common.{◌≡◌, ℕ, subst, refl, arith, to_z, of_z, get_or, length}
use Rattle.std.specs.Prelude.{ℤ}
use Rattle.std.specs.Int.{w64}
use Rattle.std.proofs.lemmas.Int.{to_z-of_z}
use Rattle.std.proofs.lemmas.Option.{slice_get-get_or, slice_get_within}
use Rattle.simplex_core.specs.ColumnTables.{ClearsTouched}
use Rattle.simplex_core.proofs.ColumnTableLaws.{clears-more}
use Rattle.simplex_core.proofs.column_table.ColumnTable.clear_touched.Goals as goal

pub loop-place-init : goal.loop-place-init
loop-place-init c = record {
  rows = refl;
  columns = refl;
  basis = refl;
  right = refl;
  cleared = λ n j a b l is is_a is_b. absurd (omega arith);
  others = λ j d. refl;
  lists = refl;
  marks = refl;
  first = λ h. h;
}

pub clear_column-requires-clause-position : goal.clear_column-requires-clause-position
clear_column-requires-clause-position c =
    let at = slice_get-get_or c.args.touched.now c.loop-place.place 0 c.loop-place-test.true in
    let there = c.requires.touched.there c.loop-place.place (get_or c.args.touched.now c.loop-place.place 0) at in
    let within = slice_get_within c.args.self.now.columns.items _ there.0 there.1 in
    let rows = c.loop-place.invariant.rows in
    let columns = c.loop-place.invariant.columns in
    let before = c.args.self.now.unknowns in
    let unknowns = c.loop-place.self.unknowns in
    omega (arith, within, rows, columns, unknowns, before)

pub loop-place-preserved : goal.loop-place-preserved
loop-place-preserved c =
    let touched = c.args.touched.now in
    clears-more c.args.self.now c.loop-place.self c.clear_column.new.self c.args.row _ _ touched c.loop-place.place (get_or touched c.loop-place.place 0)
    c.loop-place.invariant c.in_ok-clear_column.ensures c.requires.touched (slice_get-get_or touched c.loop-place.place 0 c.loop-place-test.true)

pub returns : goal.returns
returns c =
    let below = c.loop-place-test.false in
    let end = c.loop-place.auto.place-end in
    let touched = c.args.touched.now in
    let shifted = c.args.shifted.now.items.items in
    let all : c.loop-place.place ≡ length touched = omega (arith, below, end) in
    subst (λ (z : ℤ). ClearsTouched c.args.self.now c.loop-place.self c.args.row z shifted touched (length touched)) (to_z-of_z w64 c.args.pivot c.ranges.pivot)
    (subst (λ (m : ℕ). ClearsTouched c.args.self.now c.loop-place.self c.args.row (to_z w64 (of_z w64 c.args.pivot)) shifted touched m) all c.loop-place.invariant)
