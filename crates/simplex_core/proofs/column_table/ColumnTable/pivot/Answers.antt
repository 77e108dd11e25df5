use Rattle.std.proofs.Common.{◌≡◌, ℕ, ◌+◌, ap, sym, ◌∙◌, subst, Option, arith, to_z, of_z, List}
use Rattle.std.specs.Prelude.{◌-ℤ◌, slice_get, slice_set, IfSome}
use Rattle.std.specs.Int.{w64}
use Rattle.std.proofs.lemmas.Int.{ints}
use Rattle.std.proofs.lemmas.Option.{same_Some}
use Rattle.sparse_columns.specs.declared.cells.Cells.{Cells}
use Rattle.sparse_columns.specs.declared.column.Column.{Column}
use Rattle.sparse_columns.specs.Numbers.{alone, number}
use Rattle.sparse_columns.specs.Columns.{numerator, IsCleared}
use Rattle.simplex_core.specs.declared.column_table.lists.RowColumns.{RowColumns}
use Rattle.simplex_core.specs.ColumnListing.{AreListed}
use Rattle.simplex_core.specs.ColumnTables.{IsListed}
use Rattle.simplex_core.proofs.ColumnListings.{listed-sizes, blank-sizes}
use Rattle.simplex_core.proofs.ColumnTableLaws.{column-read, not_negative-sizes}
use Rattle.simplex_core.proofs.column_table.ColumnTable.pivot.Goals as goal

pub clear_right-requires-clause-positive : goal.clear_right-requires-clause-positive
clear_right-requires-clause-positive c =
    let column = c.index.result.now in
    let is = column-read c.args.self.now c.args.column column c.requires.column c.index.ensures in
    let positive = c.requires.positive column is in
    let value = c.at-pivot.ensures.value in
    let bounded = c.at-pivot.ensures.bounded in
    omega (arith, ints, positive, value, bounded)

pub clear_columns-requires-clause-positive : goal.clear_columns-requires-clause-positive
clear_columns-requires-clause-positive c =
    let column = c.index.result.now in
    let is = column-read c.args.self.now c.args.column column c.requires.column c.index.ensures in
    let positive = c.requires.positive column is in
    let value = c.at-pivot.ensures.value in
    let bounded = c.at-pivot.ensures.bounded in
    omega (arith, ints, positive, value, bounded)

pub clear_columns-requires-clause-beside : goal.clear_columns-requires-clause-beside
clear_columns-requires-clause-beside c =
    let table = c.args.self.now in
    let mid = c.clear_right.new.self in
    let right = c.in_ok-clear_right.ensures in
    let rows = right.rows in
    let columns = right.columns in
    let lists : IsListed mid = listed-sizes mid.columns.items mid.lists.items table.rows (table.width + table.rows) _ _
    (subst (λ (ls : List RowColumns). AreListed mid.columns.items ls table.rows (table.width + table.rows)) (sym right.lists)
    (subst (λ (xs : List Column). AreListed xs table.lists.items table.rows (table.width + table.rows)) (sym right.kept) c.requires.beside.lists))
    rows (omega (arith, rows, columns)) in
    record {
      lists = lists;
      first = not_negative-sizes table.columns.items mid.columns.items table.rows table.first mid.rows mid.first c.requires.beside.first right.kept rows right.first;
      blank = blank-sizes table.marks.items mid.marks.items _ _ c.requires.beside.blank right.marks (omega (arith, rows, columns));
    }

pub returns : goal.returns
returns c =
    let table = c.args.self.now in
    let first = c.index.result.now in
    let first_is = column-read table c.args.column first c.requires.column c.index.ensures in
    let second = c.index-2.result.now in
    let second_is = column-read table c.args.column second c.requires.column c.index-2.ensures in
    let bounded = c.at-pivot.ensures.bounded in
    let plain : to_z w64 (of_z w64 c.at-pivot.result) ≡ c.at-pivot.result = omega (arith, ints, bounded) in
    let cells = c.in-Some.shifted in
    let shifts : (i : ℕ) → number cells i ≡ numerator second i -ℤ alone c.args.row second.den i =
    subst (λ (o : Option Cells). IfSome o (λ x. (i : ℕ) → number x i ≡ numerator second i -ℤ alone c.args.row second.den i)) c.in-Some.is c.in_ok-shifted.ensures in
    let right = c.in_ok-clear_right.ensures in
    let cleared = c.in_ok-clear_columns.ensures in (
      to_z w64 (of_z w64 c.at-pivot.result),
      cells.items.items,
      record {
        rows = cleared.rows ∙ right.rows;
        columns = cleared.columns ∙ right.columns;
        basis = ap (λ (xs : List ℕ). slice_set xs c.args.row c.args.column) (cleared.basis ∙ right.basis);
        shifts = record { each = λ i x is. shifts i ∙ ap (λ (y : Column). numerator y i -ℤ alone c.args.row y.den i) (same_Some second x (sym second_is ∙ is)) };
        pivot_is = λ x is. plain ∙ (c.at-pivot.ensures.value ∙ ap (λ (y : Column). numerator y c.args.row) (same_Some first x (sym first_is ∙ is)));
        cleared = λ j a b is_a is_b. cleared.cleared j a b (ap (λ (xs : List Column). slice_get xs j) right.kept ∙ is_a) is_b;
        front = c.before-2.result.now;
        fronts = λ i l. c.before-2.ensures.numbers i l;
        right = subst (λ (x : Column). IsCleared table.right x c.args.row (to_z w64 (of_z w64 c.at-pivot.result)) c.before-2.result.now) (sym cleared.right) right.cleared;
        beside = record { lists = cleared.beside.lists; first = c.next_first-self.ensures.first cleared.beside.first; blank = cleared.beside.blank };
      },
    )
