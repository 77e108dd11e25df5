-- The text of the report of an analysis states no other report.
use Rattle.std.specs.Prelude.{◌≡◌, ℕ, ◌^◌, ◌<◌, List, IfSome}
use Rattle.model.specs.Programs.{Program}
use Rattle.command_line.specs.Lines.{Word}
use Rattle.its_model.specs.Valid.{IsValid}
use Rattle.bound_expr.specs.Measure.{node_count}
use Rattle.outcome.specs.Reports.{Report}
use Rattle.report_text.specs.Printable.{IsPrintableReport}
use Rattle.report_text.specs.States.{States}
use Rattle.time_bounds.specs.Analysis.{IsAnalysis}
use Rattle.call_plans.specs.Calls.{SinkUse}
use Rattle.koat_cli.specs.Calls.{Call}
use Rattle.koat_cli.specs.FittingReports.{ReportFits}
use Rattle.koat_cli.specs.WroteReport.{WroteReport}

-- the total, where there is one, has fewer than 2^127 nodes: so has each that fits in memory, but no type says so
abbrev pub HasFewNodes : Report → Type 0
HasFewNodes r = IfSome r.total (λ b. node_count b < 2 ^ 127)

-- The report of an analysis of a valid program, whose numbers fit their types and whose total has few nodes, is
-- printable; so its text states no other printable report, and in particular none of another analysis of the program,
-- with more pivots or fewer. The numbers of what `analyse` wrote fit; so two calls of it that wrote the same text for one
-- program wrote the same report, if the totals have few nodes.
pub record AnalysisTextsStateOneReport : Type 0 where
  pub printable : (p : Program) (pivots : ℕ) (r : Report) → IsValid p → IsAnalysis p pivots r → ReportFits r
      → HasFewNodes r → IsPrintableReport p r
  pub no_other : (p : Program) (pivots : ℕ) (text : List ℕ) (r q : Report) → IsValid p → IsAnalysis p pivots r
      → ReportFits r → HasFewNodes r → IsPrintableReport p q → States p text r → States p text q → r ≡ q
  pub of_analyses : (p : Program) (pivots others : ℕ) (text : List ℕ) (r q : Report) → IsValid p
      → IsAnalysis p pivots r → ReportFits r → HasFewNodes r → IsAnalysis p others q → ReportFits q → HasFewNodes q
      → States p text r → States p text q → r ≡ q
  pub of_calls : (call other : Call) (put more : SinkUse) (pivots others : ℕ) (file second : Word) (r q : Report)
      (a : WroteReport call put pivots file r) (b : WroteReport other more others second q) → a.program ≡ b.program
      → a.text ≡ b.text → HasFewNodes r → HasFewNodes q → r ≡ q
