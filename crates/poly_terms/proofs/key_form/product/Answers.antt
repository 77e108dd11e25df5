use Rattle.std.proofs.Common.{List, subst}
use Rattle.std.proofs.lemmas.Result.{IfOk-weaker}
use Rattle.model.specs.Terms.{Multiplication}
use Rattle.poly_terms.specs.declared.keyed.Keyed.{Keyed}
use Rattle.poly_terms.specs.KeyForms.{IsWithinLimits, RepresentsTerm}
use Rattle.poly_terms.specs.Keys.{all_products, IsMergedFrom}
use Rattle.poly_terms.proofs.KeyFormLaws.{product-stands}
use Rattle.poly_terms.proofs.key_form.product.Goals as goal

pub returns : goal.returns
returns c = λ d e h k.
    let table = c.args.table.now in
    let es = c.in_ok-terms.terms.items in
    let left = c.args.left.now in
    let right = c.args.right.now in
    let merged : IsMergedFrom es (all_products left.terms.items right.terms.items) =
    subst (λ (ls : List Keyed). IsMergedFrom es (all_products ls right.terms.items)) c.deref.ensures.value
    (subst (λ (rs : List Keyed). IsMergedFrom es (all_products c.deref.result.now rs)) c.deref-2.ensures.value c.in_ok-terms.ensures) in
    IfOk-weaker c.within_limits.result (IsWithinLimits table es c.degree_of_product.result) (RepresentsTerm table (Multiplication d e))
    (λ f w. product-stands table d e left right f es c.degree_of_product.result c.requires h k merged (c.degree_of_product.ensures (record { factors = h.factors }) (record { factors = k.factors }) w.low) w) c.within_limits.ensures
