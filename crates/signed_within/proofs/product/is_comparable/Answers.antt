use Rattle.signed_bounds.specs.Products.{factor_total}
use Rattle.signed_within.specs.Views.{products_at}
use Rattle.signed_within.proofs.SizeLoops.{pair_test}
use Rattle.signed_within.proofs.product.is_comparable.Goals as goal

pub returns : goal.returns
returns c =
    pair_test (factor_total (products_at c.args.ps.now)) (factor_total (products_at c.args.qs.now))
    c.factor_total.result c.factor_total-2.result c.saturating_mul.result c.factor_total.ensures
    c.factor_total-2.ensures c.saturating_mul.ensures
