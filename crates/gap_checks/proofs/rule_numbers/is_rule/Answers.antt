use Rattle.std.proofs.Common.{◌≤◌, length, refl, arith}
use Rattle.std.proofs.lemmas.List.{length-map}
use Rattle.its_model.specs.Views.{program_of, rule_of}
use Rattle.gap_checks.proofs.GapFaults.{rule-within}
use Rattle.gap_checks.proofs.rule_numbers.is_rule.Goals as goal

pub returns : goal.returns
returns c =
    let count = length-map c.args.p.now.rules.items rule_of in
    let high : c.args.number ≤ length c.args.p.now.rules.items = omega (arith, c.if-number-len.false, c.len.ensures, c.args.p.now.rules.ok.0) in
    (λ e. rule-within (program_of c.args.p.now) c.args.number (λ z. c.if-number-eq0.false z) (omega (arith, high, count)), λ h. refl)
