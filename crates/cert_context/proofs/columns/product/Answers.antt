use Rattle.std.proofs.Common.{arith}
use Rattle.poly_terms.specs.linear_forms.Limits.{certificate_limit}
use Rattle.farkas_cert.specs.Sizes.{row_limit}
use Rattle.farkas_cert.proofs.Products.{read_product, product_is-le}
use Rattle.cert_context.proofs.columns.product.Goals as goal

pub returns-clause-value : goal.returns-clause-value
returns-clause-value c =
    read_product c.args.number c.args.coef row_limit certificate_limit c.ranges.number c.ranges.coef (omega arith) c.requires.coef_small
    (omega arith)

pub returns-clause-size : goal.returns-clause-size
returns-clause-size c =
    product_is-le _ c.args.number c.args.coef row_limit certificate_limit (returns-clause-value c) (omega arith) c.requires.coef_small
