use Rattle.std.proofs.Common.{rules, ◌≡◌, ℕ, arith, refl, sym, ap, ◌∙◌, subst, List, to_z, of_z}
use Rattle.std.specs.Int.{w64}
use Rattle.std.proofs.lemmas.Option.{slice_get_read, slice_get_within, get_or_from_slice_get}
use Rattle.sparse_columns.specs.declared.cell.Cell.{Cell}
use Rattle.sparse_columns.specs.Order.{IsAscending, IsBefore, IsFrom}
use Rattle.sparse_columns.specs.Numbers.{number_of}
use Rattle.sparse_columns.proofs.Lookups.{number_of-at, number_of-absent}
use Rattle.sparse_columns.proofs.cells.Cells.number_at.Goals as goal
use Rattle.sparse_columns.proofs.cells.Cells.number_at.Goals.{else-position-cells-via-then-position-cells+else-cells-position, else-position-cells-via-else-position-cells}

pub returns-then-cells-position-clause-value : goal.returns-then-cells-position-clause-value
returns-then-cells-position-clause-value c =
    let cells = c.as_slice-cells.result.now in
    let p = c.args.position in
    let cell = c.index-cells-position-then-cells-position.result in
    let is = slice_get_read cells _ p cell refl c.if-position-cells.true c.index-cells-position-then-cells-position.is in
    let plain : to_z w64 (of_z w64 c.value.result) ≡ c.value.result = search rules in
    let row : cell.row ≡ c.args.row = ap (λ (d : Cell). d.row) (sym (get_or_from_slice_get cells p cell c.index-cells-position.result is)) ∙ c.if-cells-position.true in
    let ascending = subst IsAscending (sym c.as_slice-cells.ensures.value) c.args.self.now.ascending in
    plain ∙ (c.value.ensures.value ∙ (sym (number_of-at cells p cell ascending is)
    ∙ (ap (λ (i : ℕ). number_of cells i) row ∙ ap (λ (xs : List Cell). number_of xs c.args.row) c.as_slice-cells.ensures.value)))

pub returns-else-position-cells-clause-value : goal.returns-else-position-cells-clause-value
returns-else-position-cells-clause-value c =
    sym (ap (λ (xs : List Cell). number_of xs c.args.row) (sym c.as_slice-cells.ensures.value)
    ∙ number_of-absent cells p c.args.row (subst IsAscending (sym c.as_slice-cells.ensures.value) c.args.self.now.ascending)
    (subst (λ (xs : List Cell). IsBefore xs p c.args.row) (sym c.as_slice-cells.ensures.value) c.requires.before)
    (subst (λ (xs : List Cell). IsFrom xs p c.args.row) (sym c.as_slice-cells.ensures.value) c.requires.from)
    (elim c.else-position-cells.branch [
      | else-position-cells-via-then-position-cells+else-cells-position w ↦ λ d is e. w.if-cells-position.false (ap (λ (x : Cell). x.row) (get_or_from_slice_get cells p d w.index-cells-position.result is) ∙ e)
      | else-position-cells-via-else-position-cells w ↦ λ d is e. let within = slice_get_within cells p d is in let past = w.if-position-cells.false in omega arith
    ]))
  where
    cells : List Cell
    cells = c.as_slice-cells.result.now

    p : ℕ
    p = c.args.position
