use Rattle.std.proofs.Common.{arith, rules}
use Rattle.std.proofs.lemmas.Int.{ints}
use Rattle.linear_forms.specs.Limits.{certificate_limit}
use Rattle.farkas_cert.proofs.Products.{read_multiple, multiple-le}
use Rattle.farkas_cert.specs.Sizes.{column_limit}
use Rattle.farkas_cert.proofs.combination.product.Goals as goal

pub returns-clause-value : goal.returns-clause-value
returns-clause-value c = read_multiple c.args.number c.from.result c.args.multiplier column_limit certificate_limit c.ranges.number (search rules) (omega (arith, ints)) c.requires.number_small c.requires.multiplier_small (omega arith)

pub returns-clause-size : goal.returns-clause-size
returns-clause-size c = multiple-le _ c.args.number c.args.multiplier certificate_limit (returns-clause-value c) c.requires.multiplier_small
