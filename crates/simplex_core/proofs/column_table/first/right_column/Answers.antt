use Rattle.std.proofs.Common.{rules, ◌≡◌, ℕ, ap, ◌∙◌, subst, arith, length, to_z, of_z}
use Rattle.std.specs.Int.{w64, w128}
use Rattle.std.specs.Prelude.{ℤ, pos, ◌*ℤ◌, slice_index_or, FitsSigned}
use Rattle.std.proofs.lemmas.Int.{to_z-of_z}
use Rattle.sparse_columns.specs.Columns.{PutsNumerator}
use Rattle.simplex_core.specs.Tableau.{sign_of}
use Rattle.simplex_core.specs.ColumnBuilding.{HasSides}
use Rattle.simplex_core.proofs.ColumnLists.{sides-more}
use Rattle.simplex_core.proofs.column_table.first.right_column.Goals as goal

pub loop-row-preserved : goal.loop-row-preserved
loop-row-preserved c =
    let right = c.args.right.now in
    let k = c.loop-row.row in
    let side = slice_index_or right k (pos 0) in
    let fits : FitsSigned w128 (slice_index_or c.args.right.now c.loop-row.row (pos 0)) = search rules in
    let plain : to_z w64 (of_z w64 c.narrow.result) ≡ c.narrow.result = search rules in
    let number : c.narrow.result ≡ c.signed.result = search rules in
    let read = to_z-of_z w128 side fits in
    let value : c.signed.result ≡ sign_of side *ℤ side = c.signed.ensures.value ∙ ap (λ (z : ℤ). sign_of z *ℤ z) read in
    sides-more c.loop-row.column c.put.new.self right k c.loop-row.invariant
    (subst (λ (z : ℤ). PutsNumerator c.loop-row.column c.put.new.self k z) (plain ∙ (number ∙ value)) (c.in_ok-put.ensures c.if-not-branch.false))

pub returns : goal.returns
returns c =
    let end = c.loop-row.auto.row-end in
    let done = c.loop-row-test.false in
    let all : c.loop-row.row ≡ length c.args.right.now = omega (arith, end, done) in
    subst (λ (m : ℕ). HasSides c.loop-row.column c.args.right.now m) all c.loop-row.invariant
