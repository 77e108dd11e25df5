use Rattle.std.proofs.Common.{arith}
use Rattle.linear_forms.specs.Limits.{point_limit}
use Rattle.farkas_cert.specs.Sizes.{row_limit}
use Rattle.farkas_cert.proofs.Products.{read_product, product_is-le}
use Rattle.farkas_cert.proofs.scaled.product.Goals as goal

pub returns-clause-value : goal.returns-clause-value
returns-clause-value c = read_product c.args.number c.args.part row_limit point_limit c.ranges.number c.ranges.part (omega arith) c.requires.part_small (omega arith)

pub returns-clause-size : goal.returns-clause-size
returns-clause-size c = product_is-le _ c.args.number c.args.part row_limit point_limit (returns-clause-value c) (omega arith) c.requires.part_small
