use Rattle.std.proofs.Common.{◌≡◌, ap, arith, ◌∙◌, Some}
use Rattle.std.proofs.lemmas.Option.{get_or_from_slice_get}
use Rattle.sparse_merge.proofs.Indices.{found-is, none-lies}
use Rattle.sparse_merge.proofs.finding.find.Goals as goal

pub returns-in-Ok : goal.returns-in-Ok
returns-in-Ok g c =
    let found = c.in-Ok.ensures in
    let cells = c.args.cells.now in
    let same : c.index-cells-index.result ≡ found.cell =
    c.index-cells-index.is ∙ get_or_from_slice_get cells c.in-Ok.index found.cell c.index-cells-index.result found.is in
    ap Some same ∙ found-is g.C.Cell.place_of g.C.Cell.fits cells c.args.place c.in-Ok.index found.cell c.requires found.is found.place

pub returns-in-Err : goal.returns-in-Err
returns-in-Err g c = none-lies g.C.Cell.place_of c.args.cells.now c.args.place c.in-Err.field-0 c.in-Err.field-0 c.in-Err.ensures (omega arith)
