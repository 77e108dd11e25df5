use Rattle.std.proofs.Common.{map, take}
use Rattle.std.specs.Prelude.{pos}
use Rattle.linear_forms.specs.Points.{Meets}
use Rattle.poly_terms.specs.Views.{form_of}
use Rattle.farkas_cert.specs.Scales.{numerators_of}
use Rattle.farkas_cert.proofs.scaled.on_rows.Given as goal

abbrev pub invariant-loop-row : goal.invariant-loop-row
invariant-loop-row l = Meets (map form_of (take l.row-index l.rows)) (numerators_of l.at) (pos l.at.den)
