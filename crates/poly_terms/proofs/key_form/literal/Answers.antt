use Rattle.std.proofs.Common.{ap, ◌∙◌, List, subst}
use Rattle.std.specs.Int.{w128}
use Rattle.std.proofs.lemmas.Int.{to_z-of_z}
use Rattle.std.proofs.lemmas.Result.{IfOk-weaker}
use Rattle.model.specs.Terms.{Literal}
use Rattle.poly_terms.specs.declared.keyed.Key.{Key}
use Rattle.poly_terms.specs.declared.keyed.Keyed.{Keyed}
use Rattle.poly_terms.specs.KeyForms.{IsWithinLimits, RepresentsTerm}
use Rattle.poly_terms.specs.Keys.{number_of, factors_at}
use Rattle.poly_terms.proofs.KeyFormLaws.{literal-stands}
use Rattle.poly_terms.proofs.UnpackingLaws.{factors-none}
use Rattle.poly_terms.proofs.key_form.literal.Goals as goal

pub returns : goal.returns
returns c =
    let table = c.args.table.now in
    let vars = ap (λ (k : Key). factors_at table (number_of k)) c.in_ok-e.ensures.key ∙ factors-none table in
    let coefficient = c.in_ok-e.ensures.coefficient ∙ to_z-of_z w128 c.args.z c.ranges.z in
    IfOk-weaker c.within_limits-2.result (IsWithinLimits table c.in_ok-vec.field-0.items 0) (RepresentsTerm table (Literal c.args.z))
    (λ f w. literal-stands table c.args.z c.in_ok-e.e f (λ i. record { coef = coefficient i; vars = vars i })
    (subst (λ (es : List Keyed). IsWithinLimits table es 0 f) c.in_ok-vec.ensures.items w)) c.within_limits-2.ensures
