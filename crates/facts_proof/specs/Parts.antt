-- The plain part of a file.
use Rattle.std.specs.Prelude.{length}
use Rattle.std.specs.List.{All}
use Rattle.model.specs.Programs.{Program}
use Rattle.cert_types.specs.declared.file.ProofFile.{ProofFile}
use Rattle.cert_types.specs.AnswerViews.{file_of}
use Rattle.cert_types.specs.Views.{proof_of}
use Rattle.cert_types.specs.cert_program.Laws.{AcceptsFileFor}
use Rattle.cert_text.specs.OverFirst.{IsOverFirst}

-- a file of lemmas and gaps is accepted for a program, and each bound that its lemmas write is over the start arguments
pub record IsPlainPart (p : Program) (f : ProofFile) : Type 0 where
  pub accepted : AcceptsFileFor p (file_of f)
  pub over_first : All (λ lemma. IsOverFirst (length p.start_names) (proof_of lemma)) f.lemmas.items
