use Rattle.std.proofs.Common.{rules, ◌≡◌, arith, replicate, false, ℕ, ◌+◌, ap, ◌∙◌, sym, subst, length, Option, refl, List}
use Rattle.std.specs.Prelude.{ℤ, IfSome}
use Rattle.sparse_columns.specs.declared.column.Column.{Column}
use Rattle.simplex_core.specs.ColumnBuilding.{AreColumns, HasSides, entries_at, with_cost_columns, with_units}
use Rattle.simplex_core.specs.ColumnListing.{AreListed}
use Rattle.simplex_core.proofs.ColumnListings.{blank-none}
use Rattle.simplex_core.proofs.ColumnTableLaws.{not_negative-none}
use Rattle.simplex_core.proofs.FirstColumns.{built-shows, entries-outside}
use Rattle.simplex_core.proofs.column_table.first.first_columns.Goals as goal

pub invariant_of-result : goal.invariant_of-result
invariant_of-result c =
    let q = c.args.problem.now in
    let cols = q.cols in
    let zeros = c.in_ok-columns.ensures in
    let size : length c.as_slice-3.result.now ≡ cols = ap (λ (xs : List ℤ). length xs) c.as_slice-3.ensures.value ∙ c.requires.proper.first in
    let entries = subst (λ (n : ℕ). AreColumns c.put_entries.new.columns.items n (entries_at c.as_slice.result.now c.as_slice-2.result.now)) (zeros.length_is ∙ sym size)
    (c.in_ok-put_entries.ensures c.if-not-branch.false) in
    let costs = c.in_ok-put_costs.ensures c.if-not-branch-2.false (entries_at c.as_slice.result.now c.as_slice-2.result.now) entries
    (λ i j l. entries-outside q c.as_slice.result.now c.as_slice-2.result.now i j c.requires.proper c.as_slice.ensures.value l) in
    let units = c.in_ok-push_units.ensures c.if-not-branch-3.false (length c.as_slice-3.result.now) _ costs in
    record {
      unknowns = units.length_is ∙ ap (λ (n : ℕ). n + q.rows) size;
      listed = c.in_ok-lists.ensures.length;
      based = c.in_ok-basis.ensures.length;
      within = omega arith;
      few_rows = c.requires.proper.rows;
      few_columns = c.requires.proper.columns;
    }

pub first_lists-requires : goal.first_lists-requires
first_lists-requires c =
    let q = c.args.problem.now in
    let cols = q.cols in
    let zeros = c.in_ok-columns.ensures in
    let size : length c.as_slice-3.result.now ≡ cols = ap (λ (xs : List ℤ). length xs) c.as_slice-3.ensures.value ∙ c.requires.proper.first in
    let entries = subst (λ (n : ℕ). AreColumns c.put_entries.new.columns.items n (entries_at c.as_slice.result.now c.as_slice-2.result.now)) (zeros.length_is ∙ sym size)
    (c.in_ok-put_entries.ensures c.if-not-branch.false) in
    let costs = c.in_ok-put_costs.ensures c.if-not-branch-2.false (entries_at c.as_slice.result.now c.as_slice-2.result.now) entries
    (λ i j l. entries-outside q c.as_slice.result.now c.as_slice-2.result.now i j c.requires.proper c.as_slice.ensures.value l) in
    let units = c.in_ok-push_units.ensures c.if-not-branch-3.false (length c.as_slice-3.result.now) _ costs in
    let there = ap (λ (xs : List Column). length xs) c.as_slice-6.ensures.value in
    let all = units.length_is in
    let few_rows = c.requires.proper.rows in
    let few_columns = c.requires.proper.columns in
    omega (arith, there, all, size, few_rows, few_columns)

pub returns : goal.returns
returns c =
    let q = c.args.problem.now in
    let zeros = c.in_ok-columns.ensures in
    let size : length c.as_slice-3.result.now ≡ q.cols = ap (λ (xs : List ℤ). length xs) c.as_slice-3.ensures.value ∙ c.requires.proper.first in
    let e = entries_at c.as_slice.result.now c.as_slice-2.result.now in
    let entries = subst (λ (n : ℕ). AreColumns c.put_entries.new.columns.items n (entries_at c.as_slice.result.now c.as_slice-2.result.now)) (zeros.length_is ∙ sym size)
    (c.in_ok-put_entries.ensures c.if-not-branch.false) in
    let costs = c.in_ok-put_costs.ensures c.if-not-branch-2.false (entries_at c.as_slice.result.now c.as_slice-2.result.now) entries
    (λ i j l. entries-outside q c.as_slice.result.now c.as_slice-2.result.now i j c.requires.proper c.as_slice.ensures.value l) in
    let units = c.in_ok-push_units.ensures c.if-not-branch-3.false (length c.as_slice-3.result.now) _ costs in
    let all = subst (λ (n : ℕ). AreColumns c.push_units.new.columns.items (n + q.rows)
    (with_units n (with_cost_columns q.rows (entries_at c.as_slice.result.now c.as_slice-2.result.now) c.as_slice-3.result.now c.as_slice-4.result.now n))) size units in
    let told : HasSides c.in-Some.right c.as_slice-5.result.now (length c.as_slice-5.result.now) =
    subst (λ (o : Option Column). IfSome o (λ x. HasSides x c.as_slice-5.result.now (length c.as_slice-5.result.now))) c.in-Some.is c.in_ok-right.ensures in
    let sides : HasSides c.in-Some.right q.right.items q.rows =
    subst (λ (n : ℕ). HasSides c.in-Some.right q.right.items n) c.requires.proper.right
    (subst (λ (xs : List ℤ). HasSides c.in-Some.right xs (length xs)) c.as_slice-5.ensures.value told) in
    built-shows q _ c.as_slice.result.now c.as_slice-2.result.now c.as_slice-3.result.now c.as_slice-4.result.now c.requires.proper refl refl
    c.as_slice.ensures.value c.as_slice-2.ensures.value c.as_slice-3.ensures.value c.as_slice-4.ensures.value all sides c.in_ok-basis.ensures.each
    (record {
      first = not_negative-none c.push_units.new.columns.items q.rows;
      blank = blank-none c.in_ok-marks.marks.items (length c.push_units.new.columns.items) (q.cols + q.rows)
          (c.in_ok-marks.ensures.items_if_clones_equal (λ y h. h) ∙ ap (λ (n : ℕ). replicate n false) (c.len.ensures ∙ (search rules))) all.length_is;
      lists = subst (λ (n : ℕ). AreListed c.push_units.new.columns.items c.in_ok-lists.lists.items q.rows n) (ap (λ (xs : List Column). length xs) c.as_slice-6.ensures.value ∙ all.length_is)
          (subst (λ (xs : List Column). AreListed xs c.in_ok-lists.lists.items q.rows (length c.as_slice-6.result.now)) c.as_slice-6.ensures.value c.in_ok-lists.ensures.listed);
    })
