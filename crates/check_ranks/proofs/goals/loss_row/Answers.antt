use Rattle.std.proofs.Common.{◌∙◌, ◌≡◌, ◌≤◌, List, length, map, subst, sym, to_z, of_z}
use Rattle.std.specs.Int.{w128}
use Rattle.std.specs.List.{All}
use Rattle.std.proofs.lemmas.Int.{to_z-of_z}
use Rattle.std.specs.Prelude.{ℤ, ◌-ℤ◌, pos}
use Rattle.farkas_cert.specs.Sizes.{HasRowNumbers}
use Rattle.poly_terms.specs.Views.{form_of}
use Rattle.poly_terms.specs.declared.poly.Row.{Row}
use Rattle.poly_terms.specs.linear_forms.Forms.{at, list_dot}
use Rattle.cert_types.specs.Sizes.{form_found}
use Rattle.cert_context.specs.Columns.{HasColumns, number_in}
use Rattle.cert_context.specs.declared.columns.Column.TheVariants.{Unknown, Constant}
use Rattle.check_ranks.proofs.GoalForms.{loss-row}
use Rattle.check_ranks.proofs.goals.loss_row.Goals as goal

pub lost_coefs-requires-clause-few : goal.lost_coefs-requires-clause-few
lost_coefs-requires-clause-few c = subst (λ (rs : List Row). length rs ≤ 32) (sym c.deref.ensures.value) c.requires.few

pub lost_coefs-requires-clause-new_values : goal.lost_coefs-requires-clause-new_values
lost_coefs-requires-clause-new_values c =
    subst (λ (rs : List Row). All HasRowNumbers (map form_of rs)) (sym c.deref.ensures.value) c.requires.new_values

pub lost_constant-constant-requires-clause-few : goal.lost_constant-constant-requires-clause-few
lost_constant-constant-requires-clause-few c =
    subst (λ (rs : List Row). length rs ≤ 32) (sym c.deref-2.ensures.value) c.requires.few

pub lost_constant-constant-requires-clause-new_values : goal.lost_constant-constant-requires-clause-new_values
lost_constant-constant-requires-clause-new_values c =
    subst (λ (rs : List Row). All HasRowNumbers (map form_of rs)) (sym c.deref-2.ensures.value) c.requires.new_values

pub returns : goal.returns
returns c =
    let before = form_found c.args.before in
    let after = form_found c.args.after in
    let rows = c.args.rows.now in
    loss-row rows.unknowns before after (map form_of rows.new_values.items) (pos c.args.least) c.in_ok-coefs.coefs.items
    (to_z w128 (of_z w128 c.lost_constant-constant.result)) c.requires.within
    (subst (λ (rs : List Row). HasColumns (λ u. at before.coefs u -ℤ list_dot (map (number_in (Unknown u)) (map form_of rs)) (at after.coefs))
    rows.unknowns c.in_ok-coefs.coefs.items) c.deref.ensures.value c.in_ok-coefs.ensures)
    (to_z-of_z w128 c.lost_constant-constant.result (record { sfits = c.lost_constant-constant.type_inv })
    ∙ subst (λ (rs : List Row). c.lost_constant-constant.result ≡ before.constant
    -ℤ list_dot (map (number_in Constant) (map form_of rs)) (at after.coefs) -ℤ after.constant -ℤ pos c.args.least)
    c.deref-2.ensures.value c.lost_constant-constant.ensures)
