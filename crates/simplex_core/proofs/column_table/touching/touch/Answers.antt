use Rattle.std.proofs.Common.{◌≡◌, ◌≢◌, ◌+◌, ◌<◌, ap, sym, ◌∙◌, refl, arith, length, subst, Some, true, false, ℕ, List}
use Rattle.std.specs.Prelude.{pos, slice_get, slice_set}
use Rattle.std.proofs.lemmas.Int.{ints}
use Rattle.std.proofs.lemmas.Option.{slice_get_read, slice_get_within, same_Some}
use Rattle.sparse_columns.specs.declared.column.Column.{Column}
use Rattle.sparse_columns.specs.Columns.{numerator}
use Rattle.simplex_core.specs.ColumnListing.{AreMarked}
use Rattle.simplex_core.proofs.ColumnListings.{marked-same, marked-more}
use Rattle.simplex_core.proofs.column_table.touching.touch.Goals as goal

pub returns-then-place-len : goal.returns-then-place-len
returns-then-place-len c listed m at are =
    let columns = c.args.columns.now in
    marked-same columns c.args.row listed m c.args.marks.now.items c.args.touched.now.items c.args.position are at
    (λ x is d.
    let within = slice_get_within columns c.args.position x is in
    let size = c.requires in
    let test = c.if-place-len.true in
    let there = c.len.ensures in
    absurd (omega (arith, within, size, test, there)))

pub returns-then-index : goal.returns-then-index
returns-then-index c listed m at are =
    let columns = c.args.columns.now in
    let marks = c.args.marks.now.items in
    let test = c.if-place-len.false in
    let there = c.len.ensures in
    let below : c.args.position < length marks = omega (arith, test, there) in
    let read = slice_get_read marks (length marks) c.args.position c.index.result.now refl below c.index.ensures in
    let on : c.index.result.now ≡ true = c.if-index.true in
    marked-same columns c.args.row listed m marks c.args.touched.now.items c.args.position are at
    (λ x is d. are.marked c.args.position (read ∙ ap Some on))

pub returns-then-at-eq0 : goal.returns-then-at-eq0
returns-then-at-eq0 c listed m at are =
    let columns = c.args.columns.now in
    let column = c.index-columns-place.result in
    let size = c.requires in
    let test = c.if-place-len.false in
    let there = c.len.ensures in
    let below : c.args.position < length columns = omega (arith, test, there, size) in
    let read = slice_get_read columns (length columns) c.args.position column refl below c.index-columns-place.is in
    let value = c.at.ensures.value in
    let bounded = c.at.ensures.bounded in
    let zero : numerator column c.args.row ≡ pos 0 = sym value ∙ (let none = c.if-at-eq0.true in omega (arith, ints, bounded, none)) in
    marked-same columns c.args.row listed m c.args.marks.now.items c.args.touched.now.items c.args.position are at
    (λ x is d. absurd (d (ap (λ (y : Column). numerator y c.args.row) (same_Some x column (sym is ∙ read)) ∙ zero)))

pub returns : goal.returns
returns c listed m at are =
    let columns = c.args.columns.now in
    let marks = c.args.marks.now.items in
    let touched = c.args.touched.now.items in
    let position = c.args.position in
    let column = c.index-columns-place.result in
    let size = c.requires in
    let test = c.if-place-len.false in
    let there = c.len.ensures in
    let below : position < length marks = omega (arith, test, there) in
    let inside : position < length columns = omega (arith, below, size) in
    let mark = slice_get_read marks (length marks) position c.index.result.now refl below c.index.ensures in
    let off : c.index.result.now ≡ false = c.if-index.false in
    let unmarked : slice_get marks position ≢ Some true = λ h. (let wrong : Some c.index.result.now ≡ Some true = sym mark ∙ h in cc) in
    let read = slice_get_read columns (length columns) position column refl inside c.index-columns-place.is in
    let value = c.at.ensures.value in
    let bounded = c.at.ensures.bounded in
    let some = c.if-at-eq0.false in
    let number : numerator column c.args.row ≢ pos 0 = λ h. (let zero = value ∙ h in some (omega (arith, ints, bounded, zero))) in
    subst (λ (xs : List ℕ). AreMarked columns c.args.row listed (m + 1) (slice_set marks position true) xs) (sym c.in_ok-push.ensures.items)
    (marked-more columns c.args.row listed m marks touched position column are at below unmarked read number)
