use Rattle.std.proofs.Common.{ap, sym, ◌∙◌, subst, length, refl, arith, List}
use Rattle.std.proofs.lemmas.Option.{slice_get_read, slice_get_within}
use Rattle.std.proofs.lemmas.Result.{IfOk-weaker}
use Rattle.sparse_columns.specs.declared.column.Column.{Column}
use Rattle.simplex_core.specs.ColumnListing.{AreTouched, Covers}
use Rattle.simplex_core.proofs.ColumnListings.{named-contained, blank-sizes}
use Rattle.simplex_core.proofs.column_table.ColumnTable.touched_listed.Goals as goal

pub touched_of-requires : goal.touched_of-requires
touched_of-requires c =
    let table = c.args.self.now in
    blank-sizes table.marks.items table.marks.items _ _ c.requires.beside.blank refl (ap (λ (xs : List Column). length xs) c.as_slice-columns.ensures.value ∙ table.unknowns)

pub returns-clause-touched : goal.returns-clause-touched
returns-clause-touched c =
    let table = c.args.self.now in
    let listed = c.as_slice-listed.result.now in
    let lists = table.lists.items in
    let list = c.index.result.now in
    let value = c.as_slice-columns.ensures.value in
    let read = slice_get_read lists (length lists) c.args.row list refl (let row = c.requires.row in let size = table.listed in omega (arith, row, size)) c.index.ensures in
    let covers : Covers table.columns.items c.args.row listed = record {
      each = λ j x is d.
          let within = slice_get_within table.columns.items j x is in
          let unknowns = table.unknowns in
          named-contained lists c.args.row j list listed (c.requires.beside.lists.each c.args.row j x c.requires.row (omega (arith, within, unknowns)) is d) read c.as_slice-listed.ensures;
    } in
    IfOk-weaker c.touched_of.result _ _
    (λ touched told. subst (λ (xs : List Column). AreTouched xs c.args.row touched.items) value
    (told (subst (λ (xs : List Column). Covers xs c.args.row listed) (sym value) covers)))
    c.touched_of.ensures.touched

pub returns-clause-changes : goal.returns-clause-changes
returns-clause-changes c =
    let table = c.args.self.now in
    let value = c.as_slice-columns.ensures.value in
    IfOk-weaker c.touched_of.result _ _
    (λ _ blank. record {
      rows = refl;
      columns = refl;
      basis = refl;
      right = refl;
      kept = refl;
      beside = record {
        lists = c.requires.beside.lists;
        first = c.requires.beside.first;
        blank = blank-sizes c.touched_of.new.marks.items c.touched_of.new.marks.items _ _ blank refl (sym (ap (λ (xs : List Column). length xs) value ∙ table.unknowns));
      };
    })
    c.touched_of.ensures.blank
