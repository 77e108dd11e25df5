use Rattle.std.proofs.Common.{arith, rules, ◌^◌}
use Rattle.std.proofs.lemmas.Int.{ints}
use Rattle.farkas_cert.proofs.Products.{read_multiple}
use Rattle.poly_terms.specs.linear_forms.Limits.{certificate_limit}
use Rattle.location_facts.proofs.faults.product.Goals as goal

pub returns : goal.returns
returns c =
    read_multiple c.args.number c.from.result c.args.den (2 ^ 65) certificate_limit c.ranges.number (search rules)
    (omega (arith, ints)) c.requires.number c.requires.den (omega arith)
