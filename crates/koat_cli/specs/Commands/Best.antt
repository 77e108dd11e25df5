-- `best`: the best bounds on a program that are found, each of which is true on every run.
use Rattle.std.specs.Prelude.{◌≡◌, ℕ, Bool, true, false, List, ◌++◌, ⊤}
use Rattle.std.specs.List.{All}
use Rattle.model.specs.Programs.{Program}
use Rattle.best_bounds.specs.Found.{IsStatedByFile}
use Rattle.location_facts.specs.declared.fact.LocFact.{LocFact}
use Rattle.outcome.specs.Reports.{Report}
use Rattle.facts_report.specs.FactTexts.{location_lines}
use Rattle.facts_report.specs.WithFacts.{IsFoundWithFacts}
use Rattle.best_report.specs.Lines.{Line, is_bounded}
use Rattle.best_report.specs.program_claims.Claims.{Stated}
use Rattle.best_report.specs.Reports.{IsBestReport, UsesStatements}
use Rattle.best_report.specs.Texts.{best_text}
use Rattle.call_plans.specs.declared.status.Status.TheVariants.{Done, Unknown}
use Rattle.call_plans.specs.Plans.{Cases, End, Case}

-- The text has the facts that are kept within this many pivots, which hold on every run of the program, and a line for
-- each subject of the program: how often each rule occurs, what the steps of each rule with a cost cost, what all steps
-- cost, and the value at each place after each rule, from above and from below. Each bound in a line holds on every run
-- of the program, from any integers and by any choice of rules, and there is one wherever the analysis with these facts
-- has one. It is that of the analysis, or that of the first of these statements on its subject, or their minimum, or, of
-- all steps, where neither has one, the sum of what the rules spend by the lines; and each of the statements is one of a
-- proof file that the checker accepts for the program. Behind the lines the text has the reasons of that analysis for
-- each missing time and cost.
pub record StatesBest (program : Program) (pivots : ℕ) (all : Bool) (text : List ℕ) : Type 0 where
  pub facts : List LocFact
  pub report : Report
  pub found : IsFoundWithFacts program pivots facts report
  pub lines : List Line
  pub best : IsBestReport program report lines
  pub stated : List Stated
  pub by_files : All (λ s. IsStatedByFile program s) stated
  pub uses : UsesStatements program report stated lines
  pub bounded : is_bounded lines ≡ all
  pub result_is : text ≡ location_lines program facts ++ best_text program report lines

-- the table of `best`: `Done` with a report in which every rule has a time, every rule with a cost a bound on it, and all
-- steps together one; and `Unknown` with one in which some of these is missing. Which it is depends on what is found.
abbrev pub best_answers : ℕ → Program → Cases
best_answers pivots program =
    Case Done ⊤ (StatesBest program pivots true) (Case Unknown ⊤ (StatesBest program pivots false) End)
