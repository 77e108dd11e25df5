use Rattle.std.proofs.Common.{◌≡◌, ◌++◌, ℕ, List, map, max, subst, arith}
use Rattle.std.specs.Prelude.{pos}
use Rattle.std.proofs.lemmas.Result.{IfOk-weaker}
use Rattle.model.specs.Terms.{Addition}
use Rattle.poly_terms.specs.declared.keyed.Keyed.{Keyed}
use Rattle.poly_terms.specs.KeyForms.{IsWithinLimits, RepresentsTerm}
use Rattle.poly_terms.specs.Keys.{no_factors, product_at, IsMergedFrom}
use Rattle.poly_terms.proofs.KeyFormLaws.{sum-stands}
use Rattle.poly_terms.proofs.key_form.sum.Goals as goal

pub returns : goal.returns
returns c = λ d e h k.
    let table = c.args.table.now in
    let es = c.in_ok-terms.terms.items in
    let left = c.args.left.now in
    let right = c.args.right.now in
    let factor : Keyed = record { key = no_factors; coef = pos 1 } in
    let merged : IsMergedFrom es (left.terms.items ++ map (product_at factor) right.terms.items) =
    subst (λ (ls : List Keyed). IsMergedFrom es (ls ++ map (product_at factor) right.terms.items)) c.deref.ensures.value
    (subst (λ (rs : List Keyed). IsMergedFrom es (c.deref.result.now ++ map (product_at factor) rs)) c.deref-2.ensures.value c.in_ok-terms.ensures) in
    let degree : c.max.result ≡ max left.degree right.degree = omega (arith, c.max.ensures) in
    IfOk-weaker c.within_limits.result (IsWithinLimits table es c.max.result) (RepresentsTerm table (Addition d e))
    (λ f w. sum-stands table d e left right f es h k merged (subst (λ (n : ℕ). IsWithinLimits table es n f) degree w)) c.within_limits.ensures
