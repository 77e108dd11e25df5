use Rattle.std.proofs.Common.{◌∙◌, to_z, of_z}
use Rattle.std.specs.Int.{w128}
use Rattle.std.proofs.lemmas.Int.{to_z-of_z}
use Rattle.poly_terms.specs.linear_forms.Forms.{at}
use Rattle.cert_types.specs.Sizes.{form_found}
use Rattle.cert_context.proofs.FormColumns.{columns-none, columns-more}
use Rattle.check_ranks.proofs.goals.own_coefs.Goals as goal

pub loop-unknown-init : goal.loop-unknown-init
loop-unknown-init c = columns-none _ c.new-coefs.result.items c.new-coefs.ensures.items

pub loop-unknown-preserved : goal.loop-unknown-preserved
loop-unknown-preserved c =
    columns-more (at (form_found c.args.form).coefs) c.loop-unknown.unknown c.loop-unknown.coefs.items c.push.new.self.items
    (to_z w128 (of_z w128 c.wide_number.result)) c.loop-unknown.invariant c.in_ok-push.ensures.items
    (to_z-of_z w128 c.wide_number.result (record { sfits = c.wide_number.type_inv }) ∙ c.wide_number.ensures)
