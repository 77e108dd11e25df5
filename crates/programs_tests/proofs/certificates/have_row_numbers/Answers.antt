use Rattle.std.proofs.Common.{List, All, map, subst, arith, rules}
use Rattle.std.proofs.lemmas.List.{take_all}
use Rattle.poly_terms.specs.declared.poly.Row.{Row}
use Rattle.poly_terms.specs.Views.{form_of}
use Rattle.farkas_cert.specs.Sizes.{HasRowNumbers}
use Rattle.farkas_cert.proofs.RowLists.{forms-more}
use Rattle.programs_tests.proofs.certificates.have_row_numbers.Goals as goal

pub loop-row-preserved : goal.loop-row-preserved
loop-row-preserved c = forms-more HasRowNumbers c.args.rows.now c.loop-row.row-index c.row-item.result c.loop-row-test.true c.row-item.is c.loop-row.invariant (c.has_row_numbers.ensures (search rules))

pub returns : goal.returns
returns c = λ e. subst (λ (rows : List Row). All HasRowNumbers (map form_of rows)) (take_all c.loop-row.row-index c.args.rows.now (omega arith)) c.loop-row.invariant
