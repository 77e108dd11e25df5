use Rattle.std.proofs.Common.{◌*◌, ◌&&◌, Bool, ap, sym, ◌∙◌, arith}
use Rattle.std.specs.Prelude.{nat_le}
use Rattle.std.proofs.lemmas.Bool.{le-leb}
use Rattle.signed_bounds.specs.Limits.{expansion_limit, product_limit}
use Rattle.signed_bounds.specs.Measure.{node_count}
use Rattle.signed_bounds.specs.Products.{product_count}
use Rattle.signed_bounds.specs.Views.{signed_of}
use Rattle.signed_within.proofs.SizeLoops.{count_test, expansion_test}
use Rattle.signed_within.proofs.sizes.is_expandable.Goals as goal

pub returns-then-count-le-PRODUCT_LIMIT : goal.returns-then-count-le-PRODUCT_LIMIT
returns-then-count-le-PRODUCT_LIMIT c =
    let bound = signed_of c.args.bound.now in
    let rest = nat_le (product_count bound * node_count bound) expansion_limit in
    expansion_test (product_count bound) (node_count bound) c.product_count-count.result c.node_count.result
    c.saturating_mul.result c.product_count-count.ensures c.node_count.ensures c.saturating_mul.ensures
    ∙ ap (λ (v : Bool). v && rest)
    (sym (sym (count_test (product_count bound) c.product_count-count.result c.product_count-count.ensures)
    ∙ le-leb c.product_count-count.result product_limit (omega arith)))
