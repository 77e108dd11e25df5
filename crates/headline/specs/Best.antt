-- What `best` wrote on a program: facts at its locations and bounds over the start values, which hold on all of its
-- runs.
use Rattle.std.specs.Prelude.{◌≡◌, ℕ, List, ◌++◌, map, IsTrue, IsFalse}
use Rattle.std.specs.Io.KnownBytes.{Appends}
use Rattle.std.specs.Process.{exit_status}
use Rattle.std.specs.declared.process.ExitCode.{ExitCode}
use Rattle.model.specs.Programs.{Program}
use Rattle.its_text.specs.Spelling.{Spells}
use Rattle.its_writer.specs.Texts.{canonical_text}
use Rattle.its_writer.specs.Spellable.{IsSpellable}
use Rattle.location_facts.specs.declared.fact.LocFact.{LocFact}
use Rattle.facts_report.specs.FactTexts.{location_lines}
use Rattle.best_report.specs.Subjects.{subjects_of}
use Rattle.best_report.specs.Lines.{Line, LinesHold, is_bounded}
use Rattle.best_report.specs.Texts.{headline, lines_text}
use Rattle.command_line.specs.Lines.{Word}
use Rattle.call_plans.specs.Calls.{SinkUse}
use Rattle.koat_cli.specs.Calls.{Call}
use Rattle.headline.specs.AtSymbols.{AllHoldAt}
use Rattle.headline.specs.Reasons.{GivesReasons}
use Rattle.headline.specs.Words.{best_command}
use Rattle.headline.specs.Premises.{WasCalled}

-- Facts and lines on the program were appended, whole, to the output: the lines of the facts, the headline, a line for
-- each subject of the program in order, and then lines that give reasons. On every run of the program, from any integers
-- and by any choice of rules, each fact holds whenever the run is at its symbol, and so does every bound in a line.
pub record WroteBest (p : Program) (put : SinkUse) (facts : List LocFact) (lines : List Line) : Type 0 where
  pub subjects : map (λ l. l.subject) lines ≡ subjects_of p
  pub reasons : List ℕ
  pub are_reasons : GivesReasons reasons
  pub appended : Appends put.written_before put.written_after
      (location_lines p facts ++ (headline lines ++ (lines_text p.start_names lines ++ reasons)))
  pub held : AllHoldAt p facts
  pub true_on_all_runs : LinesHold p lines

-- A process that ended with status 0 wrote facts, and lines in which each rule has a time, each rule with a cost a bound
-- on it, and all steps together one; one that ended with status 1 wrote facts, and lines of which some lacks its bound.
pub record EndedWithBest (code : ExitCode) (p : Program) (put : SinkUse) : Type 0 where
  pub all : exit_status code ≡ 0 → (facts : List LocFact) × (lines : List Line)
      × WroteBest p put facts lines × IsTrue (is_bounded lines)
  pub some : exit_status code ≡ 1 → (facts : List LocFact) × (lines : List Line)
      × WroteBest p put facts lines × IsFalse (is_bounded lines)

-- A process that was to find the best bounds on a program in a file, which held the canonical text of a program that can
-- be spelled, ended with facts and bounds that hold on all runs of the program, if it ended with status 0 or 1.
pub record BestBoundsHold : Type 0 where
  pub each : (code : ExitCode) (call : Call) (put : SinkUse) (file : Word) (p : Program)
      → WasCalled code call put (best_command file) file (canonical_text p) → IsSpellable p
      → EndedWithBest code p put

-- The same for a file with any text that spells a program.
pub record BestBoundsOfAnyTextHold : Type 0 where
  pub each : (code : ExitCode) (call : Call) (put : SinkUse) (file : Word) (text : List ℕ) (p : Program)
      → WasCalled code call put (best_command file) file text → Spells text p → EndedWithBest code p put
