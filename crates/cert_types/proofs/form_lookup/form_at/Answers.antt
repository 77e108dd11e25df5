use Rattle.std.proofs.Common.{rules, ◌≡◌, map, Some}
use Rattle.cert_program.specs.cert_rules.Composed.{rank_form}
use Rattle.cert_types.specs.Sizes.{form_found}
use Rattle.cert_types.specs.Views.{form_of}
use Rattle.cert_types.proofs.FormLookups.{found-short}
use Rattle.cert_types.proofs.form_lookup.form_at.Goals as goal

pub returns-in-Some-get-clause-few : goal.returns-in-Some-get-clause-few
returns-in-Some-get-clause-few c =
    let forms = c.args.by.now.node.now.forms.items in
    let first : form_found (Some c.in-Some-get.form.now) ≡ rank_form (map form_of forms) (Some c.in-Some.number) = search rules in
    λ h. found-short forms h (Some c.in-Some-get.form.now) (Some c.in-Some.number) first
