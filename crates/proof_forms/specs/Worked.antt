-- Forms of small texts, and their first refusals, as they were worked out by hand.
use Rattle.std.specs.Prelude.{codes}
use Rattle.its_model.specs.model.Programs.{Program}
use Rattle.cert_types.specs.cert_rules.Gaps.{ProofFile}
use Rattle.cert_text.specs.cert_lexer.declared.kind.ProofKind.TheVariants.{Syntax}
use Rattle.refined_files.specs.Files.{RefinedFile}
use Rattle.proof_forms.specs.Texts.{Plain, Refined, StandsFor, IsFirstRefusal}

-- a text whose first line has the number 3 is no file of the first two forms, and no other text is a file of the third
-- form; a blank after the 3 is refused as a fault of the third form
pub record FormsAreWorkedOut : Type 0 where
  pub third : (p : Program) (f : ProofFile) → ¬ (StandsFor p (codes "koat-proof 3\nkoat-proof 1\nend\n") (Plain f))
  pub first : (p : Program) (f : RefinedFile) → ¬ (StandsFor p (codes "koat-proof 1\nend\n") (Refined f))
  pub thirty : (p : Program) (f : RefinedFile) → ¬ (StandsFor p (codes "koat-proof 30\n") (Refined f))
  pub blank : (p : Program) → IsFirstRefusal p (codes "koat-proof 3 \n") (record { kind = Syntax; at = 12 })
