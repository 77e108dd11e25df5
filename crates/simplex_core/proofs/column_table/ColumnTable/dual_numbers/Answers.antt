use Rattle.std.proofs.Common.{◌+◌, sym, List, subst}
use Rattle.std.proofs.Common.{rules}
use Rattle.std.specs.Int.{w128}
use Rattle.std.proofs.lemmas.Int.{to_z-of_z}
use Rattle.std.specs.Prelude.{FitsSigned, ℤ, pos, ◌-ℤ◌, ◌*ℤ◌, slice_index_or}
use Rattle.frac128.specs.declared.frac.Frac.{Frac}
use Rattle.frac128.specs.Fraction.{IsFraction}
use Rattle.sparse_columns.specs.Columns.{numerator}
use Rattle.simplex_core.specs.Tableau.{sign_of}
use Rattle.simplex_core.specs.ColumnResults.{HoldsDualOf}
use Rattle.simplex_core.proofs.ColumnExtraction.{dual-added}
use Rattle.simplex_core.proofs.column_table.ColumnTable.dual_numbers.Goals as goal

pub loop-row-preserved : goal.loop-row-preserved
loop-row-preserved c =
    let right = c.args.right.now in
    let row = c.loop-row.row in
    let fits : FitsSigned w128 (slice_index_or right row (pos 0)) = search rules in
    let value = to_z-of_z w128 (slice_index_or right row (pos 0)) fits in
    subst (λ (ys : List Frac). HoldsDualOf c.args.self.now right (row + 1) ys) (sym c.in_ok-push.ensures.items)
    (dual-added c.args.self.now right row c.loop-row.dual.items c.dual_number.result c.loop-row.invariant
    (λ x is. subst (λ (z : ℤ). IsFraction c.dual_number.result (sign_of z *ℤ (x.den -ℤ numerator x c.args.self.now.rows)) x.den) value (c.dual_number.ensures x is)))
