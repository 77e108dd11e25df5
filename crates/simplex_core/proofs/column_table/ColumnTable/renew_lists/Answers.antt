use Rattle.std.proofs.Common.{refl}
use Rattle.simplex_core.proofs.column_table.ColumnTable.renew_lists.Goals as goal

pub returns-then-self-gt0 : goal.returns-then-self-gt0
returns-then-self-gt0 c = record { rows = refl; columns = refl; basis = refl; right = refl; kept = refl; beside = c.requires }
