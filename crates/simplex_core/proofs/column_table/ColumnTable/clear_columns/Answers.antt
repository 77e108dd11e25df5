use Rattle.std.proofs.Common.{ℕ, ◌+◌, ◌<◌, ◌≢◌, ap, sym, ◌∙◌, subst, arith, length, List}
use Rattle.std.specs.Prelude.{ℤ, pos, slice_get}
use Rattle.sparse_columns.specs.declared.column.Column.{Column}
use Rattle.std.specs.Int.{w64}
use Rattle.std.proofs.lemmas.Int.{to_z-of_z}
use Rattle.std.proofs.lemmas.Option.{slice_get_within}
use Rattle.sparse_columns.specs.Numbers.{number_of}
use Rattle.simplex_core.specs.declared.column_table.lists.RowColumns.{RowColumns}
use Rattle.simplex_core.specs.ColumnListing.{AreTouched, AreListed, Contains, Names}
use Rattle.simplex_core.specs.ColumnTables.{ClearsTouched}
use Rattle.simplex_core.proofs.ColumnListings.{pivoted-listed, listed-sizes, blank-sizes}
use Rattle.simplex_core.proofs.ColumnTableLaws.{clears-all, changes-both}
use Rattle.simplex_core.proofs.column_table.ColumnTable.clear_columns.Goals as goal

pub clear_touched-requires-clause-touched : goal.clear_touched-requires-clause-touched
clear_touched-requires-clause-touched c =
    subst (λ (xs : List Column). AreTouched xs c.args.row c.as_slice-2.result.now) (sym (c.in_ok-list_touched.ensures.changes.kept ∙ c.in_ok-touched.ensures.changes.kept))
    (subst (λ (xs : List ℕ). AreTouched c.args.self.now.columns.items c.args.row xs) (sym c.as_slice-2.ensures.value) c.in_ok-touched.ensures.touched)

pub list_touched-requires-clause-beside : goal.list_touched-requires-clause-beside
list_touched-requires-clause-beside c = c.in_ok-touched.ensures.changes.beside

pub returns : goal.returns
returns c =
    let short = changes-both c.args.self.now c.touched_columns.new.self c.list_touched.new.self c.in_ok-touched.ensures.changes c.in_ok-list_touched.ensures.changes in
    let table = c.list_touched.new.self in
    let mid = c.clear_touched.new.self in
    let row = c.args.row in
    let pivot = c.args.pivot in
    let touched = c.as_slice-2.result.now in
    let shifted = c.args.shifted.now.items.items in
    let all : ClearsTouched table mid row pivot shifted touched (length touched) =
    subst (λ (z : ℤ). ClearsTouched table mid row z shifted touched (length touched)) (to_z-of_z w64 pivot c.ranges.pivot) c.in_ok-clear_touched.ensures in
    let own : AreTouched table.columns.items row touched =
    subst (λ (xs : List Column). AreTouched xs row touched) (sym short.kept)
    (subst (λ (xs : List ℕ). AreTouched c.args.self.now.columns.items row xs) (sym c.as_slice-2.ensures.value) c.in_ok-touched.ensures.touched) in
    let cleared = clears-all table mid row pivot shifted touched all own in
    let inside = c.requires.row in
    let before = short.rows in
    let rows = all.rows in
    let columns = all.columns in
    let front = c.before-front.result.now in
    let put : (i j : ℕ) → i < table.rows → i ≢ row → number_of shifted i ≢ pos 0 → Contains touched j → Names mid.lists.items i j =
    λ i j l apart d named.
    let there = c.before-front.ensures.lists.all i (let e = short.rows in let first = c.in_ok-touched.ensures.changes.rows in omega (arith, l, e, first)) d in
    subst (λ (ls : List RowColumns). Names ls i j) (sym all.lists)
    (subst (λ (k : ℕ). Names table.lists.items k j) there.3
    (c.in_ok-list_touched.ensures.put there.0 j there.1 (slice_get_within front there.0 there.1 there.2) there.2 (λ e. apart (sym there.3 ∙ e))
    (subst (λ (xs : List ℕ). Contains xs j) (c.as_slice-2.ensures.value ∙ sym c.as_slice.ensures.value) named))) in
    let below : row < length mid.lists.items = (let size = mid.listed in omega (arith, inside, before, rows, size)) in
    record {
      rows = rows ∙ before;
      columns = columns ∙ short.columns;
      basis = all.basis ∙ short.basis;
      right = all.right ∙ short.right;
      cleared = λ j a b is_a is_b. cleared j a b (ap (λ (xs : List Column). slice_get xs j) short.kept ∙ is_a) is_b;
      beside = record {
        first = all.first short.beside.first;
        blank = blank-sizes table.marks.items mid.marks.items _ _ short.beside.blank all.marks (omega (arith, rows, columns));
        lists = listed-sizes mid.columns.items _ table.rows (table.width + table.rows) _ _
            (pivoted-listed table.columns.items mid.columns.items mid.lists.items table.rows (table.width + table.rows) row pivot shifted touched c.of.result
            (subst (λ (ls : List RowColumns). AreListed table.columns.items ls table.rows (table.width + table.rows)) (sym all.lists) short.beside.lists)
            table.unknowns c.requires.positive below (c.of.ensures ∙ sym c.as_slice-2.ensures.value) own cleared put)
            rows (omega (arith, rows, columns));
      };
    }
