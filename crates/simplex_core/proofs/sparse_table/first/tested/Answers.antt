use Rattle.std.proofs.Common.{refl}
use Rattle.simplex_core.proofs.SmallRows.{small-same}
use Rattle.simplex_core.proofs.sparse_table.first.tested.Goals as goal

pub returns : goal.returns
returns c p t shows = record {
  shows = record { rows = shows.rows; columns = shows.columns; positive = shows.positive; numbers = shows.numbers; basis = shows.basis };
  range = small-same c.args.table _ c.are_rows_small.result refl refl refl refl c.are_rows_small.ensures;
}
