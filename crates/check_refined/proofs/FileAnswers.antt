-- What the answers on the parts of a file say of the whole file.
use Rattle.std.proofs.Common.{◌≡◌, List, Option, Some, None, Bor, refl, sym, ap, ◌∙◌, subst}
use Rattle.std.specs.Prelude.{option_map}
use Rattle.std.specs.Option.{option_copied}
use Rattle.model.specs.Programs.{Program}
use Rattle.its_model.specs.Valid.{IsValid}
use Rattle.refinement.specs.Sections as plain
use Rattle.refined_programs.specs.Annotated.{Section}
use Rattle.refined_programs.specs.Views as section_views
use Rattle.refined_programs.specs.declared.section.Section as code
use Rattle.refined_programs.proofs.AnnotatedLaws.{section-agrees}
use Rattle.section_checks.proofs.Deciding.{accepted_sections_spell_valid}
use Rattle.potential_nodes.specs.Facts.{SignedFact}
use Rattle.program_claims.specs.Claims.{Claim, Stated}
use Rattle.program_claims.specs.Evidence.{Evidence, by_section}
use Rattle.claims_check.specs.Views.{AreStated, AreRefused}
use Rattle.claims_check.specs.Views as claim_views
use Rattle.claims_check.specs.declared.reason.ClaimsError.{ClaimsError}
use Rattle.claims_check.specs.declared.reason.ClaimsError.TheVariants as claim_errors
use Rattle.refined_types.specs.Views.{section_view}
use Rattle.refined_files.specs.Files.{RefinedFile, program_above, all_signed, evidence_by, evidence_in}
use Rattle.check_refined.specs.Refusals.{claim_refusal, RefusesLemmas, AcceptsLemmas}
use Rattle.check_refined.specs.Refusals.{StatesFacts}
use Rattle.check_refined.specs.Files.{IsSpelledOrItself, IsAcceptedWith, HasAcceptedLemmas, RefusesFile}
use Rattle.check_refined.specs.declared.refusal.FileRefusal.{FileRefusal}
use Rattle.check_refined.specs.declared.refusal.FileRefusal.TheVariants as by

-- the lemmas of a file that are refused over the spelled program refuse the file
refused-above : (p : Program) (f : RefinedFile) (above : Program) (r : FileRefusal)
    → IsSpelledOrItself p f.section above
    → RefusesLemmas (program_above p f.section) f.plain f.signed r → RefusesFile p f r
refused-above p f above by.Names is h = absurd h
refused-above p f above (by.Section fault) is h = absurd h
refused-above p f above (by.Node lemma node reason) is h = (is.accepted, h)
refused-above p f above (by.Gap gap fault) is h = (is.accepted, h)
refused-above p f above (by.Lemma r) is h = (is.accepted, h)
refused-above p f above (by.Claim r) is h = absurd h
refused-above p f above by.Memory is h = tt

pub lemmas-refuse : (p : Program) (f : RefinedFile) (above : Program) (r : FileRefusal)
    → IsSpelledOrItself p f.section above
    → RefusesLemmas above f.plain f.signed r → RefusesFile p f r
lemmas-refuse p f above r is h =
    refused-above p f above r is (subst (λ (q : Program). RefusesLemmas q f.plain f.signed r) is.program h)

-- the spelled program is valid
pub above-valid : (p : Program) (o : Option Section) (above : Program) → IsValid p
    → IsSpelledOrItself p o above → IsValid above
above-valid p None above valid is = subst IsValid (sym is.program) valid
above-valid p (Some s) above valid is =
    subst IsValid (sym is.program) (accepted_sections_spell_valid.valid p s valid is.accepted.0 is.accepted.1)

-- the evidence by a section of the code is that by the section with its multipliers
evidence-agrees : (p : Program) (o : Option code.Section) (facts : List SignedFact)
    → claim_views.evidence_by p (option_map section_views.section_of o) facts ≡ evidence_by p (section_view o) facts
evidence-agrees p None facts = refl
evidence-agrees p (Some s) facts = ap (λ (x : plain.Section). by_section p x facts) (sym (section-agrees s))

-- the section of the code as its reader sees it behind a reference
section-seen : (r : Option (Bor code.Section)) (o : Option code.Section) → option_copied r ≡ o
    → option_map (λ s. section_views.section_of s.now) r ≡ option_map section_views.section_of o
section-seen None o e = ap (λ (x : Option code.Section). option_map section_views.section_of x) e
section-seen (Some s) o e = ap (λ (x : Option code.Section). option_map section_views.section_of x) e

pub evidence-seen : (p : Program) (r : Option (Bor code.Section)) (o : Option code.Section)
    (seen facts : List SignedFact) → option_copied r ≡ o → seen ≡ facts
    → claim_views.evidence_by p (option_map (λ s. section_views.section_of s.now) r) seen
    ≡ evidence_by p (section_view o) facts
evidence-seen p r o seen facts e same =
    ap (λ (x : Option plain.Section). claim_views.evidence_by p x seen) (section-seen r o e)
    ∙ (evidence-agrees p o seen ∙ ap (λ (fs : List SignedFact). evidence_by p (section_view o) fs) same)

-- the spelled program is that of the evidence
evidence-above : (p : Program) (o : Option Section) (facts : List SignedFact)
    → (evidence_by p o facts).above ≡ program_above p o
evidence-above p None facts = refl
evidence-above p (Some s) facts = refl

pub above-seen : (p : Program) (o : Option Section) (above : Program) (facts : List SignedFact) (e : Evidence)
    → IsSpelledOrItself p o above → e ≡ evidence_by p o facts → above ≡ e.above
above-seen p o above facts e is same =
    is.program ∙ (sym (evidence-above p o facts) ∙ sym (ap (λ (v : Evidence). v.above) same))

module _ (p : Program) (f : RefinedFile) (above : Program) (is : IsSpelledOrItself p f.section above)
    (facts : List SignedFact)
    (states : StatesFacts above f.plain f.signed facts) (e : Evidence) (by_facts : e ≡ evidence_by p f.section facts)
  where
    -- the evidence is that in the file
    evidence-is : e ≡ evidence_in p f
    evidence-is =
        by_facts
        ∙ ap (λ (fs : List SignedFact). evidence_by p f.section fs)
        (states.stated ∙ ap (λ (q : Program). all_signed q f.plain f.signed) is.program)

    -- the lemmas are accepted
    lemmas : HasAcceptedLemmas p f
    lemmas = record {
      section = is.accepted;
      lemmas = subst (λ (q : Program). AcceptsLemmas q f.plain f.signed) is.program states.accepted;
    }

    -- a refused claim refuses the file
    refused-in : (error : ClaimsError) → AreRefused (evidence_in p f) f.claims error
        → RefusesFile p f (claim_refusal error)
    refused-in (claim_errors.Refused r) h = (lemmas, h)
    refused-in claim_errors.Memory h = tt

    pub claims-refuse : (seen : List Claim) (error : ClaimsError) → seen ≡ f.claims → AreRefused e seen error
        → RefusesFile p f (claim_refusal error)
    claims-refuse seen error same h =
        refused-in error
        (subst (λ (cs : List Claim). AreRefused (evidence_in p f) cs error) same
        (subst (λ (v : Evidence). AreRefused v seen error) evidence-is h))

    -- where all claims are accepted, the file is, with what they state
    accepted-in : (stated : List Stated) → AreStated (evidence_in p f) f.claims stated → IsAcceptedWith p f stated
    accepted-in stated h = record {
      accepted = record {
        section = lemmas.section;
        plain = lemmas.lemmas.plain;
        signed = lemmas.lemmas.signed;
        claims = h.accepted;
      };
      statements = h.statements;
    }

    pub file-accepted : (seen : List Claim) (stated : List Stated) → seen ≡ f.claims → AreStated e seen stated
        → IsAcceptedWith p f stated
    file-accepted seen stated same h =
        accepted-in stated
        (subst (λ (cs : List Claim). AreStated (evidence_in p f) cs stated) same
        (subst (λ (v : Evidence). AreStated v seen stated) evidence-is h))
