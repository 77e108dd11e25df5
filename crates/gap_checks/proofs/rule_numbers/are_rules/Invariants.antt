use Rattle.std.proofs.Common.{take}
use Rattle.std.specs.List.{All}
use Rattle.its_model.specs.Views.{program_of}
use Rattle.cert_types.specs.cert_rules.AcceptsPlain.{IsRule}
use Rattle.gap_checks.proofs.rule_numbers.are_rules.Given as goal

abbrev pub invariant-loop-number : goal.invariant-loop-number
invariant-loop-number l =
    All (IsRule (program_of l.p)) (take l.number-index l.numbers)
