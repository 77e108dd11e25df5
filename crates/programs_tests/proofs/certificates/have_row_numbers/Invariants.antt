use Rattle.std.proofs.Common.{map, take}
use Rattle.std.specs.List.{All}
use Rattle.poly_terms.specs.Views.{form_of}
use Rattle.farkas_cert.specs.Sizes.{HasRowNumbers}
use Rattle.programs_tests.proofs.certificates.have_row_numbers.Given as goal

abbrev pub invariant-loop-row : goal.invariant-loop-row
invariant-loop-row l = All HasRowNumbers (map form_of (take l.row-index l.rows))
