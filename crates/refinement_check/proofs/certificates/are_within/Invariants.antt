use Rattle.std.proofs.Common.{◌≡◌, drop}
use Rattle.std.specs.List.{list_all}
use Rattle.cert_rules.specs.NumberTests.{is_in_limit}
use Rattle.refinement_check.proofs.certificates.are_within.Given as goal

-- whether all multipliers are within the limit depends on those left
abbrev pub invariant-loop-number : goal.invariant-loop-number
invariant-loop-number l =
    list_all is_in_limit (drop l.number-index l.by) ≡ list_all is_in_limit l.by
