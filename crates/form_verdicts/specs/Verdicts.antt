-- Verdicts on the proof files of all forms, with their texts.
use Rattle.std.specs.Prelude.{◌≡◌, List, [], ℕ, Option, Some, None}
use Rattle.std.specs.List.{All}
use Rattle.model.specs.Programs.{Program}
use Rattle.cert_types.specs.cert_program.Laws.{AcceptsFileFor}
use Rattle.refined_programs.specs.Annotated.{Section}
use Rattle.symbol_facts.specs.Facts.{SymbolFact, IsSymbolFact}
use Rattle.symbol_facts.specs.Common.{symbol_facts}
use Rattle.program_claims.specs.Claims.{Stated, AllHoldOf}
use Rattle.refined_files.specs.Files.{RefinedFile, IsAcceptedFor}
use Rattle.check_refined.specs.Files.{IsAcceptedWith, RefusesFile}
use Rattle.check_refined.specs.declared.refusal.FileRefusal.{FileRefusal}
use Rattle.check_text.specs.Verdicts.{IsAcceptance, IsRefusal, IsVerdictBy}
use Rattle.check_text.specs.declared.verdict.Verdict.{Verdict}
use Rattle.claims_text.specs.Statements.{stated_text}
use Rattle.proof_forms.specs.Texts.{ProofText, Plain, Refined, NotRefined}
use Rattle.form_verdicts.specs.Texts.{section_refusal_text, StatesRefusal}

-- the facts at symbols that all of their copies have, where there is a section
abbrev pub facts_of_section : Program → Option Section → List SymbolFact
facts_of_section p None = []
facts_of_section p (Some s) = symbol_facts p s

-- a file of the third form is accepted for a program; on all runs of the program itself the facts at symbols by its
-- section hold, and so does what its claims state, in order; and the text has a line for each
pub record IsRefinedAcceptance (p : Program) (f : RefinedFile) (text : List ℕ) : Type 0 where
  pub facts : List SymbolFact
  pub stated : List Stated
  pub accepted : IsAcceptedWith p f stated
  pub by_copies : facts ≡ facts_of_section p f.section
  pub facts_hold : All (IsSymbolFact p) facts
  pub hold : AllHoldOf p stated
  pub result_is : text ≡ stated_text p facts stated

-- a file of the third form is refused for the first of its parts that isn't accepted, and the text states it and why
pub record IsRefinedRefusal (p : Program) (f : RefinedFile) (text : List ℕ) : Type 0 where
  pub refusal : FileRefusal
  pub refused : RefusesFile p f refusal
  pub result_is : StatesRefusal p f refusal text

-- the verdict on a file of the third form is right
abbrev pub IsRefinedVerdict : Program → RefinedFile → Verdict → Type 0
IsRefinedVerdict p f = IsVerdictBy (IsRefinedAcceptance p f) (IsRefinedRefusal p f)

-- a proof file of any form is accepted for a program; a text whose section isn't accepted is no such file
abbrev pub Accepts : Program → ProofText → Type 0
Accepts p (Plain f) = AcceptsFileFor p f
Accepts p (Refined f) = IsAcceptedFor p f
Accepts p (NotRefined s r) = ⊥

-- it is accepted, all that it states holds on all runs of the program, and the text has all of that
abbrev pub IsAcceptanceOf : Program → ProofText → List ℕ → Type 0
IsAcceptanceOf p (Plain f) text = IsAcceptance p f text
IsAcceptanceOf p (Refined f) text = IsRefinedAcceptance p f text
IsAcceptanceOf p (NotRefined s r) text = ⊥

-- it isn't accepted, and the text states the first refusal
abbrev pub IsRefusalOf : Program → ProofText → List ℕ → Type 0
IsRefusalOf p (Plain f) text = IsRefusal p f text
IsRefusalOf p (Refined f) text = IsRefinedRefusal p f text
IsRefusalOf p (NotRefined s r) text = text ≡ section_refusal_text s r

-- a verdict is right
abbrev pub IsVerdictOn : Program → ProofText → Verdict → Type 0
IsVerdictOn p t = IsVerdictBy (IsAcceptanceOf p t) (IsRefusalOf p t)
