use Rattle.std.proofs.Common.{◌≡◌, ◌≢◌, ℕ, arith, sym, ◌∙◌, ap, subst, of_z}
use Rattle.std.specs.Int.{w128}
use Rattle.std.specs.Prelude.{List, pos}
use Rattle.std.proofs.lemmas.Int.{ints}
use Rattle.frac128.specs.declared.frac.Frac.{Frac}
use Rattle.sparse_merge.specs.Listing.{IsAt, LiesAt}
use Rattle.sparse_rows.specs.Rows.{column_of, IsRow, IsPut}
use Rattle.sparse_rows.proofs.Puts.{zero-absent, put-row, put-is, put-zero}
use Rattle.sparse_rows.proofs.row.SparseRow.put.Goals as goal

pub returns-then-fraction-eq0-clause-put : goal.returns-then-fraction-eq0-clause-put
returns-then-fraction-eq0-clause-put c =
    let test = c.if-fraction-eq0.true in
    let none : c.args.fraction.num ≡ pos 0 = omega (arith, ints) in
    put-zero c.args.self.now c.args.col c.args.fraction c.requires none

pub unreachable-requires : goal.unreachable-requires
unreachable-requires c =
    let row = c.as_slice.ensures ∙ c.self.view_is in
    let is = subst IsRow (c.self.view_is) c.self.invariant in
    zero-absent c.args.self.now c.args.col c.in_default.field-0 is c.requires
    (subst (λ (xs : List (ℕ × Frac)). IsAt column_of xs c.args.col c.in_default.field-0) row c.in_default.ensures)

pub invariant_of-self-2 : goal.invariant_of-self-2
invariant_of-self-2 c =
    let test = c.if-fraction-eq0.false in
    let apart : c.args.fraction.num ≢ pos 0 = λ e. test (ap (of_z w128) e) in
    let lies = subst (λ (xs : List (ℕ × Frac)). LiesAt column_of xs c.args.col c.in-Err.index) c.as_slice.ensures c.in-Err.ensures in
    subst IsRow (sym c.in_ok-insert.ensures.ok) (put-row c.self.inside.cells.items c.in-Err.index c.args.col c.args.fraction c.self.invariant lies apart)

pub returns-clause-put : goal.returns-clause-put
returns-clause-put c =
    let lies = subst (λ (xs : List (ℕ × Frac)). LiesAt column_of xs c.args.col c.in-Err.index) c.as_slice.ensures c.in-Err.ensures in
    subst (λ (xs : List (ℕ × Frac)). IsPut xs c.args.col c.args.fraction c.insert.new.self.items) c.self.view_is
    (subst (λ (xs : List (ℕ × Frac)). IsPut c.self.inside.cells.items c.args.col c.args.fraction xs) (sym c.in_ok-insert.ensures.ok)
    (put-is c.self.inside.cells.items c.in-Err.index c.args.col c.args.fraction lies))
