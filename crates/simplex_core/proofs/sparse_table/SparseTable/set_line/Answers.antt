use Rattle.std.proofs.Common.{refl}
use Rattle.simplex_core.proofs.TableLines.{sets-line}
use Rattle.simplex_core.proofs.sparse_table.SparseTable.set_line.Goals as goal

pub returns : goal.returns
returns c = sets-line c.args.self.now _ c.args.row c.args.line refl refl refl refl refl c.requires.row
