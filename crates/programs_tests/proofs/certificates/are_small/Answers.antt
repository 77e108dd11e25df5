use Rattle.std.proofs.Common.{map, arith}
use Rattle.std.proofs.lemmas.List.{length-map}
use Rattle.poly_terms.specs.Views.{form_of}
use Rattle.farkas_cert.proofs.Sums.{rows_of_a_rule}
use Rattle.programs_tests.proofs.certificates.are_small.Goals as goal

pub returns-then-rows-le128 : goal.returns-then-rows-le128
returns-then-rows-le128 c = λ e. rows_of_a_rule (map form_of c.args.rows.now) (omega (arith, length-map c.args.rows.now form_of)) (c.have_row_numbers.ensures e)
