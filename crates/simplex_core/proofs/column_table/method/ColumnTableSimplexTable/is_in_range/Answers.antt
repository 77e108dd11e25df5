use Rattle.simplex_core.proofs.ColumnTableLaws.{columns-in_range}
use Rattle.simplex_core.proofs.column_table.method.ColumnTableSimplexTable.is_in_range.Goals as goal

pub returns : goal.returns
returns c = record { each = λ p t shows. columns-in_range p c.args.self.now t shows }
