use Rattle.std.proofs.Common.{◌≤◌, List, subst, arith}
use Rattle.std.proofs.lemmas.Result.{IfOk-weaker}
use Rattle.model.specs.Limits.{degree_limit}
use Rattle.model.specs.Terms.{Exponentiation}
use Rattle.poly_terms.specs.declared.keyed.Keyed.{Keyed}
use Rattle.poly_terms.specs.KeyForms.{IsWithinLimits, RepresentsTerm}
use Rattle.poly_terms.specs.Keys.{IsPowerAt}
use Rattle.poly_terms.proofs.KeyFormLaws.{power-stands}
use Rattle.poly_terms.proofs.key_form.power.Goals as goal

pub returns : goal.returns
returns c = λ e h.
    let table = c.args.table.now in
    let es = c.in_ok-terms.terms.items in
    let base = c.args.base.now in
    let k = c.args.exponent in
    let n = c.degree_of_power-degree.result in
    let power : IsPowerAt table base.terms.items k es =
    subst (λ (fs : List Keyed). IsPowerAt table fs k es) c.deref.ensures.value c.in_ok-terms.ensures in
    let low : k ≤ degree_limit = omega (arith, c.if-exponent-gt-DEGREE_LIMIT.false) in
    IfOk-weaker c.within_limits.result (IsWithinLimits table es n) (RepresentsTerm table (Exponentiation e k))
    (λ f w. power-stands table e base f es n k c.requires h power low (c.degree_of_power-degree.ensures (record { factors = h.factors }) w.low) w) c.within_limits.ensures
