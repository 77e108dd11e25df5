-- Bytes have one outcome as a file of the third form.
use Rattle.std.proofs.Common.{◌≡◌, ◌<◌, ◌++◌, ◌∙◌, ℕ, List, [], ◌∷◌, Option, Some, None, refl, ap, sym, subst, arith}
use Rattle.its_model.specs.model.Programs.{Program}
use Rattle.refined_programs.specs.Annotated.{Section}
use Rattle.section_checks.specs.Laws.{FirstFaultsAreUnique}
use Rattle.cert_text.proofs.Lawful as plain_laws
use Rattle.section_text.proofs.Lawful as section_laws
use Rattle.potential_text.specs.declared.kind.Part.TheVariants.{Lemmas, Claims}
use Rattle.potential_text.specs.Reading.{lemmas_in, claims_in}
use Rattle.potential_text.specs.SymbolNames.{symbol_names}
use Rattle.potential_text.proofs.LawfulLines as line_laws
use Rattle.proof_parts.specs.Head.{agreeing, first_line}
use Rattle.proof_parts.specs.Laws.{PartsAreUnique}
use Rattle.proof_parts.specs.Parts.{Parts, IsCut}
use Rattle.refined_files.specs.Files.{RefinedFile, program_above, IsSectionAccepted}
use Rattle.cert_types.specs.cert_rules.Gaps.{ProofFile}
use Rattle.potential_types.specs.potential_nodes.SignedNodes.{SignedLemma}
use Rattle.claim_types.specs.program_claims.Claims.{Claim}
use Rattle.refined_text.specs.Outcomes.{SectionRefusal, BadNames, FirstFault, AtText, AtSection, Gives, Refuses}
use Rattle.refined_text.specs.Outcomes.{TextReads}
use Rattle.refined_text.specs.Outcomes.{IsJust}
use Rattle.refined_text.specs.Parts.{section_text, plain_text, lemma_text, claim_text, IsFirstRefusal, Accepts}
use Rattle.refined_text.specs.Parts.{SectionReads}
use Rattle.refined_text.specs.Files.{CutReads, ClaimsRead, LemmasRead, LinesRead, PartsRead}
use Rattle.refined_text.specs.Laws.{RefinedTextsAreDecided}
use Rattle.refined_text.proofs.Outcomes.{IsOne, just-one, text-one, then-one}

-- a text that begins with the first line agrees with it in all of its bytes
agrees_whole : (behind : List ℕ) → agreeing (first_line ++ behind) first_line ≡ 13
agrees_whole [] = refl
agrees_whole (b ∷ behind) = refl

-- a file that is cut has the first line
not_other : (bytes : List ℕ) (parts : Parts) → IsCut bytes parts → agreeing bytes first_line < 13 → ⊥
not_other bytes parts cut h =
    let whole : agreeing bytes first_line ≡ 13 =
    ap (λ (bs : List ℕ). agreeing bs first_line) cut.begins ∙ agrees_whole cut.behind in
    omega (arith, h, whole)

-- a file has one cut, or another first line
cut-one : PartsAreUnique → (bytes : List ℕ) → IsOne (CutReads bytes)
cut-one unique bytes (Gives parts) (Gives others) h k = ap Gives (unique.one bytes parts others h k)
cut-one unique bytes (Gives parts) (Refuses r) h k = absurd (not_other bytes parts h k.0)
cut-one unique bytes (Refuses r) (Gives parts) h k = absurd (not_other bytes parts k h.0)
cut-one unique bytes (Refuses r) (Refuses s) h k = ap Refuses (h.1 ∙ sym k.1)

-- a section has one refusal, which it has only if it isn't accepted
refusal-one : FirstFaultsAreUnique → (p : Program) (s : Section) (r q : SectionRefusal) → IsFirstRefusal p s r
    → IsFirstRefusal p s q → r ≡ q
refusal-one unique p s BadNames BadNames h k = refl
refusal-one unique p s BadNames (FirstFault y) h k = absurd (h k.0)
refusal-one unique p s (FirstFault x) BadNames h k = absurd (k h.0)
refusal-one unique p s (FirstFault x) (FirstFault y) h k = ap FirstFault (unique.one p s x y h.1 k.1)

not_accepted : FirstFaultsAreUnique → (p : Program) (s : Section) (r : SectionRefusal) → IsFirstRefusal p s r
    → IsSectionAccepted p (Some s) → ⊥
not_accepted unique p s BadNames h k = h k.0
not_accepted unique p s (FirstFault x) h k = unique.excluded p s x h.1 k.1

-- a section is accepted, or is refused for one reason
accepts-one : FirstFaultsAreUnique → (p : Program) (s : Section) → IsOne (Accepts p s)
accepts-one unique p s (Gives a) (Gives b) h k = ap Gives (h.0 ∙ sym k.0)
accepts-one unique p s (Gives a) (Refuses (AtText x)) h k = absurd k
accepts-one unique p s (Gives a) (Refuses (AtSection t r)) h k = absurd (not_accepted unique p s r k.1 h.1)
accepts-one unique p s (Refuses (AtText x)) b h k = absurd h
accepts-one unique p s (Refuses (AtSection t r)) (Gives b) h k = absurd (not_accepted unique p s r h.1 k.1)
accepts-one unique p s (Refuses (AtSection t r)) (Refuses (AtText y)) h k = absurd k
accepts-one unique p s (Refuses (AtSection t r)) (Refuses (AtSection u q)) h k =
    ap (λ (v : Section). Refuses (AtSection v r)) (h.0 ∙ sym k.0)
    ∙ ap (λ (w : SectionRefusal). Refuses (AtSection u w)) (refusal-one unique p s r q h.1 k.1)

-- the section of a file has one outcome
section-one : FirstFaultsAreUnique → (p : Program) (bytes : List ℕ) → IsOne (SectionReads p bytes)
section-one unique p [] = just-one None
section-one unique p (c ∷ bytes) =
    then-one (TextReads (section_text p (c ∷ bytes))) (Accepts p)
    (text-one (section_text p (c ∷ bytes)) (section_laws.lawful p (c ∷ bytes)))
    (λ s first. accepts-one unique p s)

-- a file of these parts
abbrev whole_file : Option Section → ProofFile → List SignedLemma → List Claim → RefinedFile
whole_file s plain signed claims = record { section = s; plain = plain; signed = signed; claims = claims }

-- what is behind a section has one outcome
lines-one : (q : Program) (parts : Parts) (s : Option Section) → IsOne (LinesRead q parts s)
lines-one q parts s =
    then-one (TextReads (plain_text q parts)) (LemmasRead q parts s)
    (text-one (plain_text q parts) (plain_laws.lawful q))
    (λ plain plain_read.
    then-one (TextReads (lemma_text q parts)) (ClaimsRead parts s plain)
    (text-one (lemma_text q parts) (line_laws.lawful lemmas_in Lemmas (symbol_names q) parts.signed))
    (λ signed signed_read.
    then-one (TextReads (claim_text parts)) (λ claims. IsJust (whole_file s plain signed claims))
    (text-one (claim_text parts) (line_laws.lawful claims_in Claims [] parts.claims))
    (λ claims claims_read. just-one (whole_file s plain signed claims))))

-- bytes have one outcome
pub decided : PartsAreUnique → FirstFaultsAreUnique → RefinedTextsAreDecided
decided parts_unique faults_unique = record {
  one = λ p bytes.
      then-one (CutReads bytes) (PartsRead p) (cut-one parts_unique bytes)
      (λ parts cut.
      then-one (SectionReads p parts.section) (λ s. LinesRead (program_above p s) parts s)
      (section-one faults_unique p parts.section)
      (λ s section. lines-one (program_above p s) parts s));
}
