-- What accepted files say of the program.
use Rattle.std.specs.Prelude.{◌≡◌, map}
use Rattle.model.specs.Programs.{Program}
use Rattle.its_model.specs.Valid.{IsValid}
use Rattle.cert_program.specs.Laws.{FileHolds}
use Rattle.potential_nodes.specs.Facts.{AllSignedHold}
use Rattle.program_claims.specs.Claims.{AllHoldOf}
use Rattle.program_claims.specs.Verdicts.{Accepted}
use Rattle.program_claims.specs.Acceptance.{stated_by}
use Rattle.refined_files.specs.Files.{RefinedFile, IsAcceptedFor, program_above, all_signed, evidence_in, stated_in}

-- Where a file is accepted for a valid program, what its claims state holds on all runs of the program itself, and that
-- is a statement of each claim; the program that the section spells is valid, the facts and gaps of the plain part hold
-- of it, and so do the facts of all lemmas.
pub record AcceptedRefinedFilesHold : Type 0 where
  pub claims : (p : Program) (f : RefinedFile) → IsValid p → IsAcceptedFor p f → AllHoldOf p (stated_in p f)
  pub each : (p : Program) (f : RefinedFile) → IsAcceptedFor p f
      → map (stated_by (evidence_in p f)) f.claims ≡ map Accepted (stated_in p f)
  pub valid : (p : Program) (f : RefinedFile) → IsValid p → IsAcceptedFor p f → IsValid (program_above p f.section)
  pub plain : (p : Program) (f : RefinedFile) → IsValid p → IsAcceptedFor p f
      → FileHolds (program_above p f.section) f.plain
  pub facts : (p : Program) (f : RefinedFile) → IsValid p → IsAcceptedFor p f
      → AllSignedHold (program_above p f.section) (all_signed (program_above p f.section) f.plain f.signed)
