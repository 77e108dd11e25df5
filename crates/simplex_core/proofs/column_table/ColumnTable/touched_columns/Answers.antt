use Rattle.std.proofs.Common.{subst, List}
use Rattle.std.proofs.lemmas.Result.{IfOk-weaker}
use Rattle.sparse_columns.specs.declared.column.Column.{Column}
use Rattle.simplex_core.specs.ColumnListing.{AreTouched}
use Rattle.simplex_core.proofs.ColumnTableLaws.{changes-both}
use Rattle.simplex_core.proofs.column_table.ColumnTable.touched_columns.Goals as goal

pub returns-clause-touched : goal.returns-clause-touched
returns-clause-touched c =
    IfOk-weaker c.touched_listed.result _ _
    (λ touched told. subst (λ (xs : List Column). AreTouched xs c.args.row touched.items) c.in_ok-renew_lists.ensures.kept told)
    c.touched_listed.ensures.touched

pub returns-clause-changes : goal.returns-clause-changes
returns-clause-changes c =
    IfOk-weaker c.touched_listed.result _ _
    (λ _ changes. changes-both c.args.self.now c.renew_lists.new.self c.touched_listed.new.self c.in_ok-renew_lists.ensures changes)
    c.touched_listed.ensures.changes
