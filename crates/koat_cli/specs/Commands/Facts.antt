-- `facts`: the facts at a program's locations, and its report with them.
use Rattle.std.specs.Prelude.{◌≡◌, ℕ, List}
use Rattle.model.specs.Programs.{Program}
use Rattle.location_facts.specs.declared.fact.LocFact.{LocFact}
use Rattle.location_facts.specs.Kept.{AreKept}
use Rattle.location_facts.specs.Strengthening.{strengthened}
use Rattle.outcome.specs.Reports.{Report}
use Rattle.facts_report.specs.FactTexts.{text_with_facts}
use Rattle.facts_report.specs.WithFacts.{IsFoundWithFacts}
use Rattle.time_bounds.specs.Analysis.{IsAnalysis}
use Rattle.call_plans.specs.Plans.{Cases}
use Rattle.koat_cli.specs.Found.{table_by_report}

-- the report is that of the analysis of the program strengthened by the kept facts
pub record IsAnalysisWithFacts (program : Program) (pivots : ℕ) (report : Report) : Type 0 where
  pub facts : List LocFact
  pub kept : AreKept program pivots facts
  pub found : IsAnalysis (strengthened facts program) pivots report

-- the text has the facts that are kept within this many pivots, which hold on every run of the program, followed by the
-- report of the program strengthened by them, of which every bound holds on every run of the program
pub record StatesFacts (program : Program) (pivots : ℕ) (report : Report) (text : List ℕ) : Type 0 where
  pub facts : List LocFact
  pub found : IsFoundWithFacts program pivots facts report
  pub result_is : text ≡ text_with_facts program facts report

-- the table of `facts`: by the report with the facts; the text states both
abbrev pub facts_answers : ℕ → Program → Cases
facts_answers pivots program = table_by_report (IsAnalysisWithFacts program pivots) (StatesFacts program pivots)
