-- What holds of the outcomes of reading.
use Rattle.std.specs.Prelude.{◌≡◌, ℕ, ◌<◌, ◌^◌, List, length}
use Rattle.its_model.specs.model.Programs.{Program}
use Rattle.its_model.specs.Valid.{IsValid}
use Rattle.cert_text.specs.Spelled.{IsTextWithin}
use Rattle.proof_parts.specs.Parts.{Parts, IsCut}
use Rattle.refined_files.specs.Files.{RefinedFile, program_above, IsSectionAccepted}
use Rattle.refined_text.specs.Outcomes.{Outcome, Gives}
use Rattle.refined_text.specs.Files.{FileReads}

-- bytes have one outcome: they are read as one file at most, or are refused for one reason, and not both
pub record RefinedTextsAreDecided : Type 0 where
  pub one : (p : Program) (bytes : List ℕ) (a b : Outcome RefinedFile) → FileReads p bytes a → FileReads p bytes b
      → a ≡ b

-- the section of a file that is read is accepted, so over a valid program the spelled program is valid
pub record SectionsReadAreAccepted : Type 0 where
  pub accepted : (p : Program) (bytes : List ℕ) (f : RefinedFile) → FileReads p bytes (Gives f)
      → IsSectionAccepted p f.section
  pub valid : (p : Program) (bytes : List ℕ) (f : RefinedFile) → IsValid p → FileReads p bytes (Gives f)
      → IsValid (program_above p f.section)

-- The plain part of a file that is read over a valid program is the text of its plain file over the spelled program,
-- whose symbols are fewer than 2^32, and that file is within the limits.
pub record FilesReadAreWithinLimits : Type 0 where
  pub plain : (p : Program) (bytes : List ℕ) (f : RefinedFile) (parts : Parts) → IsValid p → FileReads p bytes (Gives f)
      → IsCut bytes parts → length (program_above p f.section).symbols < 2 ^ 32
      → IsTextWithin (program_above p f.section) parts.plain f.plain
