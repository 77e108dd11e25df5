use Rattle.std.proofs.Common.{◌≡◌, ◌∙◌, subst, sym, to_z, of_z, arith}
use Rattle.std.specs.Int.{w64, w128}
use Rattle.std.specs.Prelude.{ℤ, ◌+ℤ◌, ◌*ℤ◌, nat_abs}
use Rattle.std.proofs.lemmas.Int.{fits_signed_from_abs, ints, to_z-of_z}
use Rattle.poly_terms.specs.Views.{form_of}
use Rattle.poly_terms.specs.linear_forms.Forms.{at}
use Rattle.cert_context.specs.Columns.{HasColumns}
use Rattle.cert_types.specs.cert_rules.Limits.{IsInLimit}
use Rattle.check_sizes.specs.SideBounds.{form_in, side_of}
use Rattle.check_sizes.proofs.SideBoundGoals.{side_bound-row}
use Rattle.check_sizes.proofs.side_bound_rows.side_bound_row.Goals as goal

-- a constant within the limit is unchanged by reading it in 64 bits
constant-read : (k : ℤ) → IsInLimit (nat_abs k) → to_z w64 (of_z w64 k) ≡ k
constant-read k l = to_z-of_z w64 k (fits_signed_from_abs w64 k (omega (arith, ints, l)))

pub goal_coefs-requires-clause-coefs_small : goal.goal_coefs-requires-clause-coefs_small
goal_coefs-requires-clause-coefs_small c = c.requires.own_small.coefs

pub goal_constant-last-requires-clause-constant_small : goal.goal_constant-last-requires-clause-constant_small
goal_constant-last-requires-clause-constant_small c =
    subst (λ (k : ℤ). IsInLimit (nat_abs k)) (sym (constant-read c.args.side_bound.now.constant c.requires.own_small.constant)) c.requires.own_small.constant

pub returns : goal.returns
returns c =
    let side_bound = c.args.side_bound.now in
    let v = form_of c.args.value.now in
    let times = to_z-of_z w128 c.factor-times.result (record { sfits = c.factor-times.type_inv }) ∙ c.factor-times.ensures.value in
    side_bound-row c.args.width (side_of c.args.side) side_bound.den (form_in side_bound) v c.in_ok-goal.goal.items
    (to_z w128 (of_z w128 c.goal_constant-last.result)) c.requires.own_width c.requires.value_width
    (subst (λ (k : ℤ). HasColumns (λ u. at side_bound.coefs.now u +ℤ (at v.coefs u *ℤ k)) c.args.width c.in_ok-goal.goal.items)
    times c.in_ok-goal.ensures)
    (to_z-of_z w128 c.goal_constant-last.result (record { sfits = c.goal_constant-last.type_inv })
    ∙ (c.goal_constant-last.ensures ∙ (λ i. constant-read side_bound.constant c.requires.own_small.constant i +ℤ (v.constant *ℤ times i))))
