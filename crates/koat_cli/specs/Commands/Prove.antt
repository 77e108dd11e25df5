-- `prove`: the proof file of a program's analysis.
use Rattle.std.specs.Prelude.{◌≡◌, ℕ, List}
use Rattle.model.specs.Programs.{Program}
use Rattle.outcome.specs.Reports.{Report}
use Rattle.outcome.specs.declared.outcome_of.Outcome.{Outcome}
use Rattle.outcome.specs.Views.{report_of}
use Rattle.cert_types.specs.cert_program.Laws.{AcceptsFileFor}
use Rattle.cert_text.specs.Spelled.{IsTextWithin}
use Rattle.time_bounds.specs.Analysis.{IsAnalysis}
use Rattle.time_bounds.specs.AnalysisLemmas.{HasLemmas}
use Rattle.analysis_certs.specs.ProvedFiles.{file_of_outcome}
use Rattle.call_plans.specs.Plans.{Cases}
use Rattle.koat_cli.specs.Found.{IsFound, table_by_report}

-- the outcome of an analysis of the program with this many pivots, with its lemmas and its gaps; the file of these is
-- accepted for the program, and the text is that of this file, within the limits of proof files
pub record IsProved (program : Program) (pivots : ℕ) (outcome : Outcome) (text : List ℕ) : Type 0 where
  pub found : IsFound program pivots (report_of outcome)
  pub lemmas : HasLemmas program pivots outcome
  pub accepted : AcceptsFileFor program (file_of_outcome outcome)
  pub result_is : IsTextWithin program text (file_of_outcome outcome)

-- the text is that of the proof file of the program's analysis, which has this report
pub record StatesProof (program : Program) (pivots : ℕ) (report : Report) (text : List ℕ) : Type 0 where
  pub outcome : Outcome
  pub reported : report_of outcome ≡ report
  pub proved : IsProved program pivots outcome text

-- the table of `prove`: by the report of the program's analysis, with its proof file
abbrev pub prove_answers : ℕ → Program → Cases
prove_answers pivots program = table_by_report (IsAnalysis program pivots) (StatesProof program pivots)
