use Rattle.std.proofs.Common.{◌<◌, refl, arith, length}
use Rattle.std.proofs.lemmas.Option.{slice_get_read}
use Rattle.simplex_core.proofs.ColumnListings.{listed-list, names-here, names-other}
use Rattle.simplex_core.proofs.column_table.ColumnTable.list_in_row.Goals as goal

pub returns : goal.returns
returns c =
    let beside = c.requires.beside in
    let table = c.args.self.now in
    let lists = table.lists.items in
    let list = c.index_mut.result.now in
    let row = c.args.row in
    let inside = c.requires.row in
    let size = table.listed in
    let below : row < length lists = omega (arith, inside, size) in
    let read = slice_get_read lists (length lists) row list refl below c.index_mut.ensures.value in
    let both = c.in_ok-extend.ensures in
    record {
      changes = record {
        rows = refl;
        columns = refl;
        basis = refl;
        right = refl;
        kept = refl;
        beside = record {
          lists = listed-list table.columns.items lists table.rows _ row list c.extend.new.self beside.lists read both.first;
          first = beside.first;
          blank = beside.blank;
        };
      };
      put = λ j named. names-here lists row list c.extend.new.self j read (both.second.each j named);
      others = λ i j other h. names-other lists row c.extend.new.self i j other h;
    }
