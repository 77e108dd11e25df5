use Rattle.std.proofs.Common.{◌≡◌, arith, ap, ◌∙◌, List, map, to_z, of_z}
use Rattle.std.specs.Prelude.{ℤ, pos, ◌*ℤ◌}
use Rattle.std.specs.Int.{w128}
use Rattle.std.proofs.lemmas.Int.{ints}
use Rattle.poly_terms.specs.linear_forms.Forms.{form_value}
use Rattle.poly_terms.specs.declared.poly.Row.{Row}
use Rattle.poly_terms.specs.Views.{form_of}
use Rattle.farkas_cert.specs.Scales.{numerators_of}
use Rattle.location_facts.specs.Rows.{value_after}
use Rattle.location_facts.proofs.ElementRules.{fact-value, new_values_ready}
use Rattle.location_facts.proofs.elements.is_refuting.Goals as goal

pub value_at-plus-requires-clause-small : goal.value_at-plus-requires-clause-small
value_at-plus-requires-clause-small c =
    new_values_ready c.args.prepared_rule.now c.deref.result.now c.requires.prepared c.deref.ensures.value

pub value_at-minus-requires-clause-small : goal.value_at-minus-requires-clause-small
value_at-minus-requires-clause-small c =
    new_values_ready c.args.prepared_rule.now c.deref-2.result.now c.requires.prepared c.deref-2.ensures.value

pub returns : goal.returns
returns c =
    let z = numerators_of c.args.at.now in
    let d = pos c.args.at.now.den in
    let plus = c.value_at-plus.ensures.value
    ∙ ap (λ (rs : List Row). form_value (value_after (map form_of rs) c.args.fact.plus) z d) c.deref.ensures.value in
    let minus = c.value_at-minus.ensures.value
    ∙ ap (λ (rs : List Row). form_value (value_after (map form_of rs) c.args.fact.minus) z d) c.deref-2.ensures.value in
    let cast : to_z w128 (of_z w128 c.from.result) ≡ c.args.fact.least = omega (arith, ints) in
    let value = fact-value (map form_of c.args.prepared_rule.now.new_values.items) c.args.fact z d
    c.value_at-plus.result
    c.value_at-minus.result c.product-least.result plus minus
    (c.product-least.ensures ∙ ap (λ (x : ℤ). d *ℤ x) cast) in (
      λ h. (let l = c.is_below.ensures.0 h in omega (arith, ints, value, l)),
      λ h. c.is_below.ensures.1 (omega (arith, ints, value, h)),
    )
