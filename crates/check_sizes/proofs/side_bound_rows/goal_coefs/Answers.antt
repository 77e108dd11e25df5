use Rattle.std.proofs.Common.{◌∙◌, to_z, of_z}
use Rattle.std.specs.Int.{w128}
use Rattle.std.specs.Prelude.{◌+ℤ◌, ◌*ℤ◌}
use Rattle.std.proofs.lemmas.Int.{to_z-of_z}
use Rattle.poly_terms.specs.Views.{form_of}
use Rattle.poly_terms.specs.linear_forms.Forms.{at}
use Rattle.cert_context.proofs.FormColumns.{columns-none, columns-more}
use Rattle.check_sizes.proofs.side_bound_rows.goal_coefs.Goals as goal

pub loop-unknown-init : goal.loop-unknown-init
loop-unknown-init c = columns-none _ c.new-goal.result.items c.new-goal.ensures.items

pub loop-unknown-preserved : goal.loop-unknown-preserved
loop-unknown-preserved c =
    columns-more
    (λ u. at c.args.coefs.now u +ℤ (at (form_of c.args.value.now).coefs u *ℤ to_z w128 (of_z w128 c.args.times)))
    c.loop-unknown.unknown c.loop-unknown.goal.items c.push.new.self.items
    (to_z w128 (of_z w128 c.goal_at.result)) c.loop-unknown.invariant c.in_ok-push.ensures.items
    (to_z-of_z w128 c.goal_at.result (record { sfits = c.goal_at.type_inv }) ∙ c.goal_at.ensures)
