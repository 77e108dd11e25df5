use Rattle.poly_terms.specs.linear_forms.Forms.{at}
use Rattle.cert_types.specs.Sizes.{form_found}
use Rattle.cert_context.specs.Columns.{HasColumns}
use Rattle.check_ranks.proofs.goals.own_coefs.Given as goal

-- the list has the coefficients of the unknowns before this one
abbrev pub invariant-loop-unknown : goal.invariant-loop-unknown
invariant-loop-unknown l = HasColumns (at (form_found l.form).coefs) l.unknown l.coefs.items
