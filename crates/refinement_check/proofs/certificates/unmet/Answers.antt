use Rattle.std.proofs.Common.{◌≡◌, ◌+◌, ◌∷◌, [], List, Option, map, drop, subst}
use Rattle.std.specs.Prelude.{option_map}
use Rattle.std.specs.List.{AllByRecursion}
use Rattle.cert_rules.specs.Tests.{first_failing}
use Rattle.refinement_rows.specs.guard_prep.Laws.{IsPreparable}
use Rattle.section_checks.specs.Faults.{Obligation}
use Rattle.section_decide.specs.Deciding.{obligation_tests}
use Rattle.refinement_check.specs.declared.fault.SectionFault.{SectionFault}
use Rattle.refinement_check.specs.Views.{fault_of, obligation_of}
use Rattle.refinement_check.proofs.Verdicts.{more, obligations-fail, obligations-pass}
use Rattle.refinement_check.proofs.certificates.unmet.Goals as goal

pub fault_in-requires : goal.fault_in-requires
fault_in-requires c =
    let i = c.loop-obligation.obligation-index in
    (subst (λ (os : List Obligation). AllByRecursion (λ o. IsPreparable o.rule) os)
    (more obligation_of c.args.obligations.now i c.obligation-item.result c.loop-obligation-test.true
    c.obligation-item.is) c.loop-obligation.invariant.prepared).0

pub returns-in-Some : goal.returns-in-Some
returns-in-Some c =
    let i = c.loop-obligation.obligation-index in
    let xs = c.args.obligations.now in
    let o : Obligation = obligation_of c.obligation-item.result in
    obligations-fail c.args.number o (map obligation_of (drop (i + 1) xs)) (map obligation_of (drop i xs))
    (fault_of c.in-Some.fault) (first_failing (obligation_tests c.args.number (map obligation_of xs)))
    (more obligation_of xs i c.obligation-item.result c.loop-obligation-test.true c.obligation-item.is)
    (subst (λ (f : Option SectionFault). option_map fault_of f ≡ first_failing (obligation_tests c.args.number (o ∷ [])))
    c.in-Some.is c.in_ok-fault.ensures)
    c.loop-obligation.invariant.decide

pub loop-obligation-preserved : goal.loop-obligation-preserved
loop-obligation-preserved c =
    let i = c.loop-obligation.obligation-index in
    let xs = c.args.obligations.now in
    let o : Obligation = obligation_of c.obligation-item.result in
    let left : map obligation_of (drop i xs) ≡ o ∷ map obligation_of (drop (i + 1) xs) =
    more obligation_of xs i c.obligation-item.result c.loop-obligation-test.true c.obligation-item.is in
    record {
      decide = obligations-pass c.args.number o (map obligation_of (drop (i + 1) xs)) (map obligation_of (drop i xs))
          (first_failing (obligation_tests c.args.number (map obligation_of xs))) left
          (subst (λ (f : Option SectionFault). option_map fault_of f ≡ first_failing (obligation_tests c.args.number (o ∷ [])))
          c.in_default.is c.in_ok-fault.ensures)
          c.loop-obligation.invariant.decide;
      prepared = (subst (λ (os : List Obligation). AllByRecursion (λ o. IsPreparable o.rule) os) left
          c.loop-obligation.invariant.prepared).1;
    }
