-- The proof file of an analysis, and what it guarantees.
use Rattle.std.specs.Prelude.{ℕ, length, map}
use Rattle.std.specs.List.{All}
use Rattle.its_model.specs.Valid.{IsValid}
use Rattle.model.specs.Programs.{Program}
use Rattle.outcome.specs.declared.outcome_of.Outcome.{Outcome}
use Rattle.cert_types.specs.AnswerViews.{gap_of}
use Rattle.cert_types.specs.Views.{proof_of}
use Rattle.cert_types.specs.cert_rules.Gaps.{ProofFile}
use Rattle.cert_types.specs.cert_program.Laws.{AcceptsFileFor}
use Rattle.cert_text.specs.OverFirst.{IsOverFirst}
use Rattle.cert_text.specs.Spelled.{IsFileWithin}
use Rattle.outcome.specs.Views.{report_of}
use Rattle.time_bounds.specs.Analysis.{IsAnalysis}
use Rattle.time_bounds.specs.AnalysisLemmas.{HasLemmas}

-- an outcome is that of the analysis of the program with this many pivots, with its lemmas and its gaps
pub record IsOutcomeOf (p : Program) (pivots : ℕ) (o : Outcome) : Type 0 where
  pub found : IsAnalysis p pivots (report_of o)
  pub lemmas : HasLemmas p pivots o

-- the lemmas of an outcome, and its gaps
abbrev pub file_of_outcome : Outcome → ProofFile
file_of_outcome o = record { lemmas = map proof_of o.lemmas.items; gaps = map gap_of o.gaps.items }

-- the file of an analysis of a valid program is accepted for the program; it is within the limits of proof files; and
-- each bound that its lemmas write is over the start arguments alone
pub record ProvedFilesAreAccepted : Type 0 where
  pub accepted : (p : Program) (pivots : ℕ) (o : Outcome) → IsValid p → IsOutcomeOf p pivots o
      → AcceptsFileFor p (file_of_outcome o)
  pub within : (p : Program) (pivots : ℕ) (o : Outcome) → IsValid p → IsOutcomeOf p pivots o
      → IsFileWithin p (file_of_outcome o)
  pub over_first : (p : Program) (pivots : ℕ) (o : Outcome) → IsValid p → IsOutcomeOf p pivots o
      → All (λ lemma. IsOverFirst (length p.start_names) (proof_of lemma)) o.lemmas.items
