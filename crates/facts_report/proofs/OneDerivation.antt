-- A program has one report with facts within a number of pivots.
use Rattle.std.proofs.Common.{◌≡◌, ℕ, List, sym, subst}
use Rattle.model.specs.Programs.{Program}
use Rattle.outcome.specs.Reports.{Report}
use Rattle.location_facts.specs.declared.fact.LocFact.{LocFact}
use Rattle.location_facts.specs.Strengthening.{strengthened}
use Rattle.location_facts.proofs.Next.{kept-one}
use Rattle.time_bounds.specs.Analysis.{IsAnalysis}
use Rattle.time_bounds.proofs.OneAnalysis.{analysis_one}
use Rattle.time_bounds.proofs.OneProgram.{program_searches_one}
use Rattle.facts_report.specs.WithFacts.{IsFoundWithFacts, AreEqualDerivations, ReportsWithFactsAreOne}

-- the facts and the report found with them are unique
one_derivation : (p : Program) (pivots : ℕ) (facts others : List LocFact) (r q : Report)
    → IsFoundWithFacts p pivots facts r
    → IsFoundWithFacts p pivots others q → AreEqualDerivations facts others r q
one_derivation p pivots facts others r q a b =
    let same : facts ≡ others = kept-one.kept p pivots facts others a.kept b.kept in
    let found : IsAnalysis (strengthened facts p) pivots q =
    subst (λ (fs : List LocFact). IsAnalysis (strengthened fs p) pivots q) (sym same) b.found in
    record {
      facts_same = same;
      report_same = analysis_one (strengthened facts p) pivots (program_searches_one.each (strengthened facts p) pivots)
          r q
          a.found found;
    }

pub one_derivation_each : ReportsWithFactsAreOne
one_derivation_each = record { each = one_derivation }
