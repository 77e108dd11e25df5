-- What `analyse` wrote on a program, as far as its bounds go.
use Rattle.std.specs.Prelude.{◌≡◌, List, ℕ, ◌++◌, IsTrue, IsFalse, IsSome}
use Rattle.std.specs.Io.KnownBytes.{Appends}
use Rattle.std.specs.Process.{exit_status}
use Rattle.std.specs.declared.process.ExitCode.{ExitCode}
use Rattle.model.specs.Programs.{Program}
use Rattle.outcome.specs.Reports.{Report, is_bounded}
use Rattle.outcome.specs.Holding.{IsReportOn, ReportHolds}
use Rattle.report_text.specs.Reports.{bounds_text}
use Rattle.call_plans.specs.Calls.{SinkUse}
use Rattle.headline.specs.Reasons.{GivesReasons}

-- A report on the program was appended, whole, to the output: the text of its bounds, and then lines that give reasons.
-- On every run of the program, from any integers and by any choice of rules, every bound in it holds: each rule occurs
-- at most as often as its time says, its steps cost at most what its cost says, all steps cost at most what the total
-- says, and the absolute value at a place after a rule is at most its size.
pub record WroteBounds (p : Program) (put : SinkUse) (report : Report) : Type 0 where
  pub on_program : IsReportOn p report
  pub reasons : List ℕ
  pub are_reasons : GivesReasons reasons
  pub appended : Appends put.written_before put.written_after (bounds_text p.start_names report ++ reasons)
  pub true_on_all_runs : ReportHolds p report

-- A process that ended with status 0 wrote bounds in which each rule has a time and each rule with a cost a bound on it,
-- and which have a total; one that ended with status 1 wrote bounds in which a time or a bound on a cost is missing.
pub record EndedWithBounds (code : ExitCode) (p : Program) (put : SinkUse) : Type 0 where
  pub all : exit_status code ≡ 0
      → (report : Report) × WroteBounds p put report × IsTrue (is_bounded report) × IsSome report.total
  pub some : exit_status code ≡ 1 → (report : Report) × WroteBounds p put report × IsFalse (is_bounded report)
