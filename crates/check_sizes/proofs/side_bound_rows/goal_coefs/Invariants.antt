use Rattle.std.specs.Prelude.{◌+ℤ◌, ◌*ℤ◌}
use Rattle.poly_terms.specs.Views.{form_of}
use Rattle.poly_terms.specs.linear_forms.Forms.{at}
use Rattle.cert_context.specs.Columns.{HasColumns}
use Rattle.check_sizes.proofs.side_bound_rows.goal_coefs.Given as goal

-- the list has the entries of the unknowns before this one
abbrev pub invariant-loop-unknown : goal.invariant-loop-unknown
invariant-loop-unknown l =
    HasColumns (λ u. at l.coefs u +ℤ (at (form_of l.value).coefs u *ℤ l.times)) l.unknown l.goal.items
