use Rattle.std.proofs.Common.{◌+◌, ◌-◌, ◌/◌, arith, refl, sym, ◌∙◌, length}
use Rattle.std.proofs.lemmas.Option.{slice_get_read}
use Rattle.sparse_merge.proofs.Indices.{lies-behind, lies-before, lies-at}
use Rattle.sparse_merge.proofs.finding.search.Goals as goal

pub returns-then-found-place : goal.returns-then-found-place
returns-then-found-place g c =
    let w = c.halving.invariant.within in
    let is = slice_get_read c.args.cells.now (length c.args.cells.now) (c.halving.low + (c.halving.high - c.halving.low) / 2) c.index-cells-middle.result refl (omega arith) c.index-cells-middle.is in
    record { cell = c.index-cells-middle.result; is = is; place = sym c.place-found.ensures ∙ c.if-found-place.true }

pub halving-preserved-then-found-place-2 : goal.halving-preserved-then-found-place-2
halving-preserved-then-found-place-2 g c =
    let w = c.halving.invariant.within in
    let is = slice_get_read c.args.cells.now (length c.args.cells.now) (c.halving.low + (c.halving.high - c.halving.low) / 2) c.index-cells-middle.result refl (omega arith) c.index-cells-middle.is in
    lies-behind g.C.Cell.place_of g.C.Cell.fits c.args.cells.now c.args.place c.halving.low c.halving.high
    (c.halving.low + (c.halving.high - c.halving.low) / 2) c.index-cells-middle.result c.requires c.halving.invariant (omega arith) is (omega arith)

pub halving-preserved : goal.halving-preserved
halving-preserved g c =
    let w = c.halving.invariant.within in
    let is = slice_get_read c.args.cells.now (length c.args.cells.now) (c.halving.low + (c.halving.high - c.halving.low) / 2) c.index-cells-middle.result refl (omega arith) c.index-cells-middle.is in
    lies-before g.C.Cell.place_of g.C.Cell.fits c.args.cells.now c.args.place c.halving.low c.halving.high
    (c.halving.low + (c.halving.high - c.halving.low) / 2) c.index-cells-middle.result c.requires c.halving.invariant (omega arith) (omega arith) is (omega arith)

pub returns : goal.returns
returns g c = lies-at g.C.Cell.place_of c.args.cells.now c.args.place c.halving.low c.halving.high c.halving.invariant (omega arith)
