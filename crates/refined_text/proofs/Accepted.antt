-- The section of a file that is read is accepted, and its plain part is the text of the plain file.
use Rattle.std.proofs.Common.{◌≡◌, ◌<◌, ◌^◌, ℕ, List, [], ◌∷◌, length, Option, Some, None, ap, sym, subst}
use Rattle.its_model.specs.model.Programs.{Program}
use Rattle.its_model.specs.Valid.{IsValid}
use Rattle.refined_programs.specs.Annotated.{Section}
use Rattle.section_checks.specs.Laws.{AcceptedSectionsSpellValid}
use Rattle.text_grammar.specs.text_core.Reading.{Answer, Parsed, Refused, Answers, IsTree, answer}
use Rattle.text_grammar.specs.text_core.Readers.{Fault}
use Rattle.text_grammar.specs.Texts.{reader}
use Rattle.text_grammar.proofs.text_core.FirstFaults.{answer_is}
use Rattle.text_grammar.proofs.ReaderLaws.{reader_laws}
use Rattle.cert_types.specs.cert_rules.Gaps.{ProofFile}
use Rattle.cert_text.specs.cert_lexer.declared.kind.ProofKind.{ProofKind}
use Rattle.cert_text.specs.cert_lexer.Lexing.{tokens}
use Rattle.cert_text.specs.Reading.{proofs_of}
use Rattle.cert_text.specs.RoundTrips.{FilesAreTheirTexts}
use Rattle.cert_text.specs.Spelled.{IsTextWithin}
use Rattle.cert_text.proofs.Lawful.{lawful}
use Rattle.proof_parts.specs.Laws.{PartsAreUnique}
use Rattle.proof_parts.specs.Parts.{Parts, IsCut}
use Rattle.refined_files.specs.Files.{RefinedFile, program_above, IsSectionAccepted}
use Rattle.refined_text.specs.Outcomes.{Gives}
use Rattle.refined_text.specs.Parts.{SectionReads}
use Rattle.refined_text.specs.Files.{FileReads}
use Rattle.refined_text.specs.Laws.{SectionsReadAreAccepted, FilesReadAreWithinLimits}

-- the section that a part gives is accepted
pub section_accepted : (p : Program) (bytes : List ℕ) (s : Option Section) → SectionReads p bytes (Gives s)
    → IsSectionAccepted p s
section_accepted p [] s e = subst (λ (o : Option Section). IsSectionAccepted p o) (sym e) tt
section_accepted p (b ∷ bytes) s (found, text, accepts) =
    subst (λ (o : Option Section). IsSectionAccepted p o) (sym accepts.0) accepts.1

-- the section of a file that is read is accepted
file_accepted : (p : Program) (bytes : List ℕ) (f : RefinedFile) → FileReads p bytes (Gives f)
    → IsSectionAccepted p f.section
file_accepted p bytes f (parts, cut, (s, section, (plain, plain_read, (signed, signed_read, (claims, claims_read, e)))))
    =
    subst (λ (g : RefinedFile). IsSectionAccepted p g.section) (sym e) (section_accepted p parts.section s section)

-- the program that an accepted section spells is valid
pub above-valid : AcceptedSectionsSpellValid → (p : Program) (s : Option Section) → IsValid p → IsSectionAccepted p s
    → IsValid (program_above p s)
above-valid spells p None valid accepted = valid
above-valid spells p (Some s) valid accepted = spells.valid p s valid accepted.0 accepted.1

pub sections_accepted : AcceptedSectionsSpellValid → SectionsReadAreAccepted
sections_accepted spells = record {
  accepted = file_accepted;
  valid = λ p bytes f valid reads. above-valid spells p f.section valid (file_accepted p bytes f reads);
}

-- a tree is the answer to its text
tree_answered : (q : Program) (bytes : List ℕ) (f : ProofFile)
    → IsTree (reader (proofs_of q)) (length bytes) (tokens q bytes) f
    → answer (reader (proofs_of q)) (length bytes) (tokens q bytes) ≡ Parsed f
tree_answered q bytes f tree =
    go (answer (reader (proofs_of q)) (length bytes) (tokens q bytes))
    (answer_is (reader (proofs_of q)) (reader_laws (proofs_of q) (lawful q)) (length bytes) (tokens q bytes))
  where
    go : (a : Answer ProofFile ProofKind) → Answers (reader (proofs_of q)) (length bytes) (tokens q bytes) a
        → a ≡ Parsed f
    go (Parsed g) h = ap Parsed (tree.only g h.written)
    go (Refused x) h = absurd (tree.faultless x h.is)

-- the plain part of a file that is read is the text of its plain file
pub files_within : PartsAreUnique → AcceptedSectionsSpellValid → FilesAreTheirTexts → FilesReadAreWithinLimits
files_within unique spells texts = record { plain = plain_within } where
  plain_within : (p : Program) (bytes : List ℕ) (f : RefinedFile) (parts : Parts) → IsValid p
      → FileReads p bytes (Gives f)
      → IsCut bytes parts → length (program_above p f.section).symbols < 2 ^ 32
      → IsTextWithin (program_above p f.section) parts.plain f.plain
  plain_within p bytes f parts valid
      (others, cut, (s, section, (plain, plain_read, (signed, signed_read, (claims, claims_read, e))))) cut_too few =
      let one : others ≡ parts = unique.one bytes others parts cut cut_too in
      let over = program_above p s in
      let above : IsValid over = above-valid spells p s valid (section_accepted p others.section s section) in
      let same_few : length over.symbols < 2 ^ 32 =
      subst (λ (g : RefinedFile). length (program_above p g.section).symbols < 2 ^ 32) e few in
      let whole : IsTextWithin over others.plain plain =
      texts.text over others.plain plain above same_few (tree_answered over others.plain plain plain_read) in
      subst (λ (g : RefinedFile). IsTextWithin (program_above p g.section) parts.plain g.plain) (sym e)
      (subst (λ (cut : Parts). IsTextWithin over cut.plain plain) one whole)
