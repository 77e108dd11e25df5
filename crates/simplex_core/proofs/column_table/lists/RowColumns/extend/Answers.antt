use Rattle.std.proofs.Common.{sym, subst, List, ℕ}
use Rattle.simplex_core.specs.ColumnListing.{HasBoth}
use Rattle.simplex_core.proofs.ColumnListings.{both-append}
use Rattle.simplex_core.proofs.column_table.lists.RowColumns.extend.Goals as goal

pub returns : goal.returns
returns c =
    let old = c.args.self.now.columns.items in
    let columns = c.args.columns.now in
    subst (λ (xs : List ℕ). HasBoth old columns xs) (sym c.in_ok-extend_from_slice.ensures.items) (both-append old columns)
