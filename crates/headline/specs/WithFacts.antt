-- What `facts` wrote on a program: facts at its locations and bounds, which hold on all of its runs.
use Rattle.std.specs.Prelude.{◌≡◌, ℕ, List, ◌++◌, IsTrue, IsFalse, IsSome}
use Rattle.std.specs.Io.KnownBytes.{Appends}
use Rattle.std.specs.Process.{exit_status}
use Rattle.std.specs.declared.process.ExitCode.{ExitCode}
use Rattle.model.specs.Programs.{Program}
use Rattle.its_text.specs.Spelling.{Spells}
use Rattle.its_writer.specs.Texts.{canonical_text}
use Rattle.its_writer.specs.Spellable.{IsSpellable}
use Rattle.location_facts.specs.declared.fact.LocFact.{LocFact}
use Rattle.outcome.specs.Reports.{Report, is_bounded}
use Rattle.outcome.specs.Holding.{IsReportOn, ReportHolds}
use Rattle.report_text.specs.Reports.{bounds_text}
use Rattle.facts_report.specs.FactTexts.{location_lines}
use Rattle.command_line.specs.Lines.{Word}
use Rattle.call_plans.specs.Calls.{SinkUse}
use Rattle.koat_cli.specs.Calls.{Call}
use Rattle.headline.specs.AtSymbols.{AllHoldAt}
use Rattle.headline.specs.Reasons.{GivesReasons}
use Rattle.headline.specs.Words.{facts_command}
use Rattle.headline.specs.Premises.{WasCalled}

-- Facts and a report on the program were appended, whole, to the output: the lines of the facts, the text of the
-- report's bounds, and then lines that give reasons. On every run of the program, from any integers and by any choice
-- of rules, each fact holds whenever the run is at its symbol, and so does every bound.
pub record WroteFactsAndBounds (p : Program) (put : SinkUse) (facts : List LocFact) (report : Report) : Type 0 where
  pub on_program : IsReportOn p report
  pub reasons : List ℕ
  pub are_reasons : GivesReasons reasons
  pub appended : Appends put.written_before put.written_after
      (location_lines p facts ++ (bounds_text p.start_names report ++ reasons))
  pub held : AllHoldAt p facts
  pub true_on_all_runs : ReportHolds p report

-- A process that ended with status 0 wrote facts, and bounds in which each rule has a time and each rule with a cost a
-- bound on it, and which have a total; one that ended with status 1 wrote facts, and bounds of which some is missing.
pub record EndedWithFactsAndBounds (code : ExitCode) (p : Program) (put : SinkUse) : Type 0 where
  pub all : exit_status code ≡ 0 → (facts : List LocFact) × (report : Report)
      × WroteFactsAndBounds p put facts report × IsTrue (is_bounded report) × IsSome report.total
  pub some : exit_status code ≡ 1 → (facts : List LocFact) × (report : Report)
      × WroteFactsAndBounds p put facts report × IsFalse (is_bounded report)

-- A process that was to analyse a file with facts, which held the canonical text of a program that can be spelled, ended
-- with facts and bounds that hold on all runs of the program, if it ended with status 0 or 1.
pub record BoundsWithFactsHold : Type 0 where
  pub each : (code : ExitCode) (call : Call) (put : SinkUse) (file : Word) (p : Program)
      → WasCalled code call put (facts_command file) file (canonical_text p) → IsSpellable p
      → EndedWithFactsAndBounds code p put

-- The same for a file with any text that spells a program.
pub record BoundsWithFactsOfAnyTextHold : Type 0 where
  pub each : (code : ExitCode) (call : Call) (put : SinkUse) (file : Word) (text : List ℕ) (p : Program)
      → WasCalled code call put (facts_command file) file text → Spells text p → EndedWithFactsAndBounds code p put
