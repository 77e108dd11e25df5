use Rattle.std.proofs.lemmas.Result.{IfOk-weaker}
use Rattle.poly_terms.specs.Keys.{all_products, IsMergedFrom}
use Rattle.poly_terms.proofs.KeyLaws.{same-then, same-swapped}
use Rattle.poly_terms.proofs.key_product.product_of_lists.Goals as goal

pub returns-else-left-right : goal.returns-else-left-right
returns-else-left-right c =
    let left = c.args.left.now in
    let right = c.args.right.now in
    IfOk-weaker c.rows_merged-else-left-right.result
    (λ es. IsMergedFrom es.items (all_products right left))
    (λ es. IsMergedFrom es.items (all_products left right))
    (λ es h. same-then es.items (all_products right left) (all_products left right) h (same-swapped right left))
    c.rows_merged-else-left-right.ensures
