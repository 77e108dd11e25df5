-- What an accepted file says, part by part.
use Rattle.std.proofs.Common.{◌≡◌, List, [], ◌∷◌, ◌++◌, Option, Some, None}
use Rattle.std.proofs.lemmas.List.Elements.{All-head, All-tail}
use Rattle.std.specs.Prelude.{All}
use Rattle.std.specs.List.{AllByRecursion, flat_map}
use Rattle.model.specs.Programs.{Program}
use Rattle.model.specs.Facts.{Fact, Holds}
use Rattle.its_model.specs.Valid.{IsValid}
use Rattle.signed_bounds.specs.Safe.{expands_to_squares}
use Rattle.refined_programs.specs.Annotated.{Section, section_of}
use Rattle.section_checks.specs.Laws.{AcceptedSectionsAreCertified, AcceptedSectionsSpellValid}
use Rattle.cert_rules.specs.Gaps.{ProofFile}
use Rattle.cert_rules.specs.Acceptance.{facts_of_lemmas}
use Rattle.cert_program.specs.Setting.{setting_of}
use Rattle.cert_program.specs.Laws.{AcceptsFileFor, AcceptedFilesHold}
use Rattle.potential_nodes.specs.Facts.{SignedFact, AllSignedHold}
use Rattle.potential_nodes.specs.SignedNodes.{SignedLemma}
use Rattle.potential_nodes.specs.Acceptance.{first_refusal}
use Rattle.potential_ground.specs.RowTerms.{ground_of}
use Rattle.potential_ground.specs.Whole.{AcceptedPotentialsHold}
use Rattle.program_claims.specs.Claims.{Claim, AllHoldOf}
use Rattle.program_claims.specs.Laws.{AcceptedClaimsHold, OwnClaimsHold, RefusedClaimsAreFirst}
use Rattle.program_claims.specs.Acceptance.{all_stated}
use Rattle.refined_files.specs.Files.{RefinedFile, IsAcceptedFor, IsSectionAccepted, program_above, plain_signed}
use Rattle.refined_files.specs.Files.{facts_stated, all_signed, evidence_by, evidence_in}
use Rattle.refined_files.specs.Laws.{AcceptedRefinedFilesHold}

-- facts that hold, before others that do
hold-append : (p : Program) (facts others : List Fact) → All (Holds p) facts
    → AllByRecursion (λ fact. Holds p fact) others → AllByRecursion (λ fact. Holds p fact) (facts ++ others)
hold-append p [] others h k = k
hold-append p (fact ∷ facts) others h k =
    (All-head (Holds p) fact facts h, hold-append p facts others (All-tail (Holds p) fact facts h) k)

-- where all facts of lists hold, so do these one after the other
hold-joined : (p : Program) (lists : List (List Fact)) → All (All (Holds p)) lists
    → AllByRecursion (λ fact. Holds p fact) (flat_map (λ facts. facts) lists)
hold-joined p [] h = tt
hold-joined p (facts ∷ lists) h =
    hold-append p facts (flat_map (λ fs. fs) lists) (All-head (All (Holds p)) facts lists h)
    (hold-joined p lists (All-tail (All (Holds p)) facts lists h))

-- what an accepted section spells is valid
above-valid : AcceptedSectionsSpellValid → (p : Program) (o : Option Section) → IsValid p → IsSectionAccepted p o
    → IsValid (program_above p o)
above-valid spells p None valid accepted = valid
above-valid spells p (Some s) valid (names, accepted) = spells.valid p s valid names accepted

-- the facts of all lemmas hold
signed-hold : AcceptedFilesHold → AcceptedPotentialsHold → (q : Program) (f : ProofFile) (lemmas : List SignedLemma)
    → IsValid q → AcceptsFileFor q f → first_refusal (ground_of q expands_to_squares) (plain_signed q f) 1 lemmas ≡ None
    → AllSignedHold q (all_signed q f lemmas)
signed-hold files potentials q f lemmas valid accepted none =
    potentials q (facts_stated q f) lemmas valid
    (hold-joined q (facts_of_lemmas (setting_of q) f.lemmas) (files.each q valid f accepted).facts) none

-- what claims state holds, by a section or without one
claims-hold : AcceptedSectionsAreCertified → AcceptedClaimsHold → OwnClaimsHold → (p : Program) (o : Option Section)
    (facts : List SignedFact) (claims : List Claim) → IsValid p → IsSectionAccepted p o
    → AllSignedHold (program_above p o) facts → AllHoldOf p (all_stated (evidence_by p o facts) claims)
claims-hold sections by_sections own p None facts claims valid accepted hold = own.all p facts hold claims
claims-hold sections by_sections own p (Some s) facts claims valid (names, accepted) hold =
    by_sections.all p (section_of s) (sections.runs p s valid accepted) (sections.facts p s valid accepted) facts hold
    claims

pub files-hold : AcceptedSectionsAreCertified → AcceptedSectionsSpellValid → AcceptedFilesHold → AcceptedPotentialsHold
    → AcceptedClaimsHold → OwnClaimsHold → RefusedClaimsAreFirst → AcceptedRefinedFilesHold
files-hold sections spells files potentials by_sections own refused = record {
  claims = λ p f valid accepted. claims-hold sections by_sections own p f.section
      (all_signed (program_above p f.section) f.plain f.signed) f.claims valid accepted.section
      (facts p f valid accepted);
  each = λ p f accepted. refused.none (evidence_in p f) 1 f.claims accepted.claims;
  valid = valid_above;
  plain = λ p f valid accepted.
      files.each (program_above p f.section) (valid_above p f valid accepted) f.plain accepted.plain;
  facts = facts;
} where
  valid_above : (p : Program) (f : RefinedFile) → IsValid p → IsAcceptedFor p f → IsValid (program_above p f.section)
  valid_above p f valid accepted = above-valid spells p f.section valid accepted.section

  facts : (p : Program) (f : RefinedFile) → IsValid p → IsAcceptedFor p f
      → AllSignedHold (program_above p f.section) (all_signed (program_above p f.section) f.plain f.signed)
  facts p f valid accepted =
      signed-hold files potentials (program_above p f.section) f.plain f.signed (valid_above p f valid accepted)
      accepted.plain accepted.signed
