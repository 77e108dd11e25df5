use Rattle.std.proofs.Common.{arith}
use Rattle.std.proofs.lemmas.List.Elements.{All-from_get_or, recursion_from_All}
use Rattle.report_text.specs.Printable.{IsShort}
use Rattle.koat_cli.proofs.fitting.rules_fit.Goals as goal

pub returns : goal.returns
returns c =
    let rules = c.args.rules.now in
    recursion_from_All IsShort rules (All-from_get_or IsShort rules 0 (λ i within. omega (arith, c.type_inv.rules i)))
