use Rattle.std.proofs.Common.{map}
use Rattle.std.specs.Prelude.{◌-ℤ◌}
use Rattle.poly_terms.specs.Views.{form_of}
use Rattle.poly_terms.specs.linear_forms.Forms.{at, list_dot}
use Rattle.cert_types.specs.Sizes.{form_found}
use Rattle.cert_context.specs.Columns.{HasColumns, number_in}
use Rattle.cert_context.specs.declared.columns.Column.TheVariants.{Unknown}
use Rattle.check_ranks.proofs.goals.lost_coefs.Given as goal

-- the list has the decrease at the unknowns before this one
abbrev pub invariant-loop-unknown : goal.invariant-loop-unknown
invariant-loop-unknown l = HasColumns (λ u. at (form_found l.before).coefs u
    -ℤ list_dot (map (number_in (Unknown u)) (map form_of l.new_values)) (at (form_found l.after).coefs)) l.unknown l.coefs.items
