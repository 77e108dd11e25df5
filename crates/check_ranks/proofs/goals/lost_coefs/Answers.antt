use Rattle.std.proofs.Common.{◌∙◌, map, to_z, of_z}
use Rattle.std.specs.Int.{w128}
use Rattle.std.proofs.lemmas.Int.{to_z-of_z}
use Rattle.std.specs.Prelude.{◌-ℤ◌}
use Rattle.poly_terms.specs.Views.{form_of}
use Rattle.poly_terms.specs.linear_forms.Forms.{at, list_dot}
use Rattle.cert_types.specs.Sizes.{form_found}
use Rattle.cert_context.specs.Columns.{number_in}
use Rattle.cert_context.specs.declared.columns.Column.TheVariants.{Unknown}
use Rattle.cert_context.proofs.FormColumns.{columns-none, columns-more}
use Rattle.check_ranks.proofs.goals.lost_coefs.Goals as goal

pub loop-unknown-init : goal.loop-unknown-init
loop-unknown-init c = columns-none _ c.new-coefs.result.items c.new-coefs.ensures.items

pub loop-unknown-preserved : goal.loop-unknown-preserved
loop-unknown-preserved c =
    columns-more (λ u. at (form_found c.args.before).coefs u
    -ℤ list_dot (map (number_in (Unknown u)) (map form_of c.args.new_values.now)) (at (form_found c.args.after).coefs))
    c.loop-unknown.unknown c.loop-unknown.coefs.items c.push.new.self.items
    (to_z w128 (of_z w128 c.lost.result)) c.loop-unknown.invariant c.in_ok-push.ensures.items
    (to_z-of_z w128 c.lost.result (record { sfits = c.lost.type_inv }) ∙ c.lost.ensures.value)
