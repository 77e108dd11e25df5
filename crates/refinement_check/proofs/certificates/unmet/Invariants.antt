use Rattle.std.proofs.Common.{◌≡◌, drop, map}
use Rattle.std.specs.List.{AllByRecursion}
use Rattle.cert_rules.specs.Tests.{first_failing}
use Rattle.refinement_rows.specs.guard_prep.Laws.{IsPreparable}
use Rattle.section_decide.specs.Deciding.{obligation_tests}
use Rattle.refinement_check.specs.Views.{obligation_of}
use Rattle.refinement_check.proofs.certificates.unmet.Given as goal

-- the first fault is that of the obligations left, whose rules can be prepared
abbrev pub invariant-loop-obligation : goal.invariant-loop-obligation
invariant-loop-obligation l =
    record {
      decide : first_failing (obligation_tests l.number (map obligation_of (drop l.obligation-index l.obligations)))
          ≡ first_failing (obligation_tests l.number (map obligation_of l.obligations));
      prepared : AllByRecursion (λ o. IsPreparable o.rule)
          (map obligation_of (drop l.obligation-index l.obligations));
    }
