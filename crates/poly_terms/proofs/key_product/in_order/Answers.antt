use Rattle.std.proofs.lemmas.Result.{IfOk-weaker}
use Rattle.std.proofs.Common.{[], ◌∷◌}
use Rattle.poly_terms.specs.Keys.{all_products, no_factors, IsMergedFrom}
use Rattle.std.specs.Prelude.{pos}
use Rattle.poly_terms.proofs.KeyLaws.{products-one, same-then}
use Rattle.poly_terms.proofs.key_product.in_order.Goals as goal

pub returns : goal.returns
returns c =
    let es = c.args.es.now in
    let products = all_products es (record { key = no_factors; coef = pos 1 } ∷ []) in
    IfOk-weaker c.rows_merged.result (λ ks. IsMergedFrom ks.items products) (λ ks. IsMergedFrom ks.items es)
    (λ ks h. same-then ks.items products es h (products-one es)) c.rows_merged.ensures
