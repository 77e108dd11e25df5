-- The result of analysing a program with the facts at its locations.
use Rattle.std.specs.Prelude.{◌≡◌, ℕ, List}
use Rattle.model.specs.Programs.{Program}
use Rattle.outcome.specs.Reports.{Report}
use Rattle.outcome.specs.Holding.{IsReportOn, ReportHolds}
use Rattle.location_facts.specs.declared.fact.LocFact.{LocFact}
use Rattle.location_facts.specs.Kept.{AreKept}
use Rattle.location_facts.specs.Laws.{AreHeld}
use Rattle.location_facts.specs.Strengthening.{strengthened}
use Rattle.time_bounds.specs.Analysis.{IsAnalysis}
use Rattle.time_bounds.specs.Whys.{ReasonsAreTrue}

-- the facts are those that are kept within this many pivots, and each holds on every run of the program, from any
-- integers and by any choice of rules; the report is that of the analysis of the program strengthened by them, with
-- this many pivots for each linear program; it has the entries of a report on the program, and every bound in it holds
-- on every run of the program itself; and each reason in it why a bound is missing is true of the strengthened program
pub record IsFoundWithFacts (p : Program) (pivots : ℕ) (facts : List LocFact) (report : Report) : Type 0 where
  pub kept : AreKept p pivots facts
  pub held : AreHeld p facts
  pub found : IsAnalysis (strengthened facts p) pivots report
  pub on_program : IsReportOn p report
  pub true_on_all_runs : ReportHolds p report
  pub reasons : ReasonsAreTrue (strengthened facts p) pivots report

-- two lists of facts are the same, and so are two reports
pub record AreEqualDerivations (facts others : List LocFact) (r q : Report) : Type 0 where
  pub facts_same : facts ≡ others
  pub report_same : r ≡ q

-- within a number of pivots a program has at most one list of kept facts, and one report with them
pub record ReportsWithFactsAreOne : Type 0 where
  pub each : (p : Program) (pivots : ℕ) (facts others : List LocFact) (r q : Report)
      → IsFoundWithFacts p pivots facts r → IsFoundWithFacts p pivots others q → AreEqualDerivations facts others r q
