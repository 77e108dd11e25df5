use Rattle.std.proofs.Common.{◌∙◌, rules}
use Rattle.simplex_core.proofs.TableLines.{zeros-kept}
use Rattle.simplex_core.proofs.sparse_table.SparseTable.write_rows.Goals as goal

pub loop-row-preserved : goal.loop-row-preserved
loop-row-preserved c =
    let inv = c.loop-row.invariant in
    let step = c.in_ok-write_row.ensures in
    record {
      shape = record { rows = step.shape.rows ∙ inv.shape.rows; columns = step.shape.columns ∙ inv.shape.columns; basis = step.shape.basis ∙ inv.shape.basis };
      none = zeros-kept c.loop-row.self c.write_row.new.self c.loop-row.row inv.none step.changes;
      whole = search rules;
    }
