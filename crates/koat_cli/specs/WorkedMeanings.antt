-- Worked values of what statuses mean, and of which reports `analyse` may have written.
use Rattle.std.specs.Prelude.{◌≡◌, ℕ, List, [], ◌∷◌, ◌++◌, length, Some, codes, ⊤}
use Rattle.model.specs.Programs.{Program}
use Rattle.model.specs.Bounds.{Constant}
use Rattle.model.specs.WorkedRuns.{countdown}
use Rattle.its_writer.specs.Generated.{generated}
use Rattle.its_writer.specs.Texts.{canonical_text}
use Rattle.command_line.specs.Lines.{Word, Words}
use Rattle.outcome.specs.Reports.{Timed, Report}
use Rattle.outcome.specs.Holding.{numbered_entry}
use Rattle.call_plans.specs.declared.status.Status.{Status}
use Rattle.call_plans.specs.declared.status.Status.TheVariants.{Done, Unknown, Usage, ReadFault, ProgramRefused}
use Rattle.call_plans.specs.Calls.{ShelfUse, SinkUse}
use Rattle.call_plans.specs.Gives.{Gives}
use Rattle.call_plans.specs.OnFiles.{read_fault_text}
use Rattle.koat_cli.specs.Calls.{Call}
use Rattle.koat_cli.specs.Report.{usage_text}
use Rattle.koat_cli.specs.ProgramTexts.{programs}
use Rattle.koat_cli.specs.Means.{Means}
use Rattle.koat_cli.specs.WroteReport.{WroteReport}
use Rattle.koat_cli.specs.WorkedEnds.{undisclosed}
use Rattle.koat_cli.specs.WorkedMissingFiles.{holding}

-- a put that appended these bytes to `old `
abbrev pub appended : List ℕ → SinkUse
appended bytes = record {
  faults_before = 0;
  faults_after = 0;
  puts_before = Some 5;
  puts_after = Some 6;
  written_before = Some (codes "old ");
  written_after = Some (codes "old " ++ bytes);
}

-- a call with these words, after this many fetches, which saw this of the shelf and appended these bytes, has what this
-- status means
abbrev pub Meaning : Words → ℕ → ShelfUse → Status → List ℕ → Type 0
Meaning words before seen status bytes =
    Means status (record { words = words; fetches_before = Some before; shelf = seen }) (appended bytes)

-- a call without words, and `generate 0`, by which no file is fetched, and `analyse p`
abbrev pub WithoutWords : Status → List ℕ → Type 0
WithoutWords status bytes = Meaning [] 7 (undisclosed 0) status bytes

abbrev pub Generating : Status → List ℕ → Type 0
Generating status bytes = Meaning (codes "generate" ∷ codes "0" ∷ []) 7 (undisclosed 0) status bytes

abbrev pub Analysing : ShelfUse → Status → List ℕ → Type 0
Analysing seen status bytes = Meaning (codes "analyse" ∷ codes "p" ∷ []) 0 seen status bytes

-- A call without words ended with `Usage` if the usage text was written, not without it, and not with `Done`.
-- `generate 0` ended with `Done` if the program's text was written, not without it and not with another text, and not
-- with `Usage`, `Unknown`, the refusal of a program or a fault of reading. `analyse p` ended with a fault of reading if
-- `p` is lacking, and not if it is held; with the refusal of an empty `p` if its text was written, and not without it;
-- and neither with `Done` nor with `Unknown` if nothing was written, or the headline of the other.
pub record StatusesMean : Type 0 where
  pub usage : WithoutWords Usage usage_text
  pub usage_unwritten : ¬ (WithoutWords Usage [])
  pub done_without_request : (bytes : List ℕ) → ¬ (WithoutWords Done bytes)
  pub generated : Generating Done (canonical_text (generated 0))
  pub generated_unwritten : ¬ (Generating Done [])
  pub generated_otherwise : ¬ (Generating Done usage_text)
  pub usage_with_request : (bytes : List ℕ) → ¬ (Generating Usage bytes)
  pub generated_unknown : (bytes : List ℕ) → ¬ (Generating Unknown bytes)
  pub generated_refused : (bytes : List ℕ) → ¬ (Generating ProgramRefused bytes)
  pub generated_unread : (bytes : List ℕ) → ¬ (Generating ReadFault bytes)
  pub lacking : Analysing (holding (codes "q")) ReadFault read_fault_text
  pub held : (bytes : List ℕ) → ¬ (Analysing (holding (codes "p")) ReadFault bytes)
  pub refused : Analysing (holding (codes "p")) ProgramRefused (codes "program refused at 0: MissingSection\n")
  pub refused_unwritten : ¬ (Analysing (holding (codes "p")) ProgramRefused [])
  pub done_unwritten : (seen : ShelfUse) → ¬ (Analysing seen Done [])
  pub done_as_unknown : (seen : ShelfUse) (bytes : List ℕ) → ¬ (Analysing seen Done (codes "unknown\n" ++ bytes))
  pub unknown_unwritten : (seen : ShelfUse) → ¬ (Analysing seen Unknown [])
  pub unknown_as_done : (seen : ShelfUse) (bytes : List ℕ) → ¬ (Analysing seen Unknown (codes "bounded\n" ++ bytes))

-- the file of a call gives this program and no other
abbrev pub GivesOnly : Call → Word → Program → Type 0
GivesOnly call file p = (q : Program) → Gives programs call.shelf file ⊤ q → q ≡ p

-- on the program that counts down, of two rules, no report was written in which the time of its loop is one too small,
-- or the total; and no report on a program of one rule. If nothing was written, no report on any program was
pub record ReportsAreOfPrograms : Type 0 where
  pub time_less : (call : Call) (put : SinkUse) (pivots : ℕ) (file : Word) (report : Report)
      → GivesOnly call file countdown → numbered_entry report.times 2 ≡ Some (Timed (Constant 8))
      → ¬ (WroteReport call put pivots file report)
  pub total_less : (call : Call) (put : SinkUse) (pivots : ℕ) (file : Word) (report : Report)
      → GivesOnly call file countdown → report.total ≡ Some (Constant 9)
      → ¬ (WroteReport call put pivots file report)
  pub other_program : (call : Call) (put : SinkUse) (pivots : ℕ) (file : Word) (report : Report)
      → GivesOnly call file countdown → length report.times ≡ 1 → ¬ (WroteReport call put pivots file report)
  pub unwritten : (call : Call) (pivots : ℕ) (file : Word) (report : Report)
      → ¬ (WroteReport call (appended []) pivots file report)
