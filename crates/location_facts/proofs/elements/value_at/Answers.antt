use Rattle.std.proofs.Common.{◌≡◌, ◌-◌, arith, map}
use Rattle.std.specs.Prelude.{pos}
use Rattle.std.proofs.lemmas.Int.{ints}
use Rattle.poly_terms.specs.linear_forms.Forms.{form_value}
use Rattle.poly_terms.specs.Views.{form_of}
use Rattle.farkas_cert.specs.Scales.{numerators_of}
use Rattle.location_facts.specs.Rows.{value_after}
use Rattle.location_facts.proofs.ElementRules.{value_found}
use Rattle.location_facts.proofs.ShownRules.{read}
use Rattle.location_facts.proofs.elements.value_at.Goals as goal

pub returns-in-Some-clause-value : goal.returns-in-Some-clause-value
returns-in-Some-clause-value c =
    let v : c.row_value.result ≡ form_value (value_after (map form_of c.args.new_values.now) c.args.place)
    (numerators_of c.args.at.now) (pos c.args.at.now.den) =
    value_found c.row_value.result c.args.new_values.now c.args.place c.in-Some.row.now (numerators_of c.args.at.now)
    (pos c.args.at.now.den) c.if-place-eq0.false
    (read c.args.new_values.now (c.args.place - 1) c.in-Some.row.now c.in-Some.ensures.lookup.3.0
    c.in-Some.ensures.lookup.1)
    c.row_value.ensures.value in
    omega (arith, ints, v, c.row_value.ensures.size)
