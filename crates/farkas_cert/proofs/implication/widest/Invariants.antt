use Rattle.std.proofs.Common.{map, take}
use Rattle.poly_terms.specs.Views.{form_of}
use Rattle.farkas_cert.specs.Columns.{HaveAtMost}
use Rattle.farkas_cert.proofs.implication.widest.Given as goal

abbrev pub invariant-loop-row : goal.invariant-loop-row
invariant-loop-row l = HaveAtMost l.width (map form_of (take l.row-index l.rows))
