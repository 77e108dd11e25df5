use Rattle.std.proofs.Common.{map, arith, rules}
use Rattle.poly_terms.specs.Views.{form_of}
use Rattle.farkas_cert.specs.declared.combination.Column.TheVariants.{Unknown}
use Rattle.farkas_cert.proofs.Columns.{column-small, coefs_past}
use Rattle.farkas_cert.proofs.implication.has_coefs.Goals as goal

pub combined-requires-clause-column_small : goal.combined-requires-clause-column_small
combined-requires-clause-column_small c = column-small (Unknown c.loop-unknown.unknown) (map form_of c.args.rows.now) c.requires.rows_small

pub returns : goal.returns
returns c =
    let ms = c.args.multipliers.now in
    let rows = map form_of c.args.rows.now in
    let coefs = c.args.coefs.now in
    (λ h u. coefs_past ms rows coefs c.widest.result c.loop-unknown.unknown u c.widest.ensures (omega arith) (omega arith) c.loop-unknown.invariant, λ h. search rules)
