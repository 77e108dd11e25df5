-- The file without claims is accepted for each program.
use Rattle.std.proofs.Common.{◌≡◌, ℕ, List, [], map, length, Option, None, ap, sym, ◌∙◌, subst}
use Rattle.std.specs.List.{All, Contains}
use Rattle.std.proofs.lemmas.List.Elements.{All-nil}
use Rattle.its_model.specs.model.Programs.{Program}
use Rattle.refined_programs.specs.declared.section.Section.{Section}
use Rattle.cert_types.specs.declared.gap.Gap.{Gap}
use Rattle.cert_types.specs.declared.proof.Proof.{Proof}
use Rattle.cert_types.specs.AnswerViews.{gap_of}
use Rattle.cert_types.specs.Views.{proof_of}
use Rattle.refined_writer.specs.cert_text.OverFirst.{IsOverFirst}
use Rattle.claims_check.specs.Views.{stated_of}
use Rattle.claims_check.specs.declared.statement.Statement.{Statement}
use Rattle.program_claims.specs.Claims.{Stated, AllHoldOf}
use Rattle.refined_files.specs.Files.{RefinedFile, IsAcceptedFor, stated_in}
use Rattle.refined_files.specs.Worked.{SmallFilesAreJudged, claiming}
use Rattle.refined_types.specs.Views.{file_view, section_view}
use Rattle.refined_types.specs.claim_types.Views.{claims_of}
use Rattle.refined_types.specs.claim_types.declared.claim.Claim.{Claim}
use Rattle.potential_types.specs.Views.{lemma_of}
use Rattle.potential_types.specs.declared.nodes.SignedLemma.{SignedLemma}
use Rattle.best_bounds.specs.Subjects.{subject_of}
use Rattle.best_bounds.specs.Found.{IsAcceptedFileFor, IsStatedByFile, IsFoundFor}
use Rattle.best_bounds.specs.declared.found_bounds.AcceptedFile.{AcceptedFile}
use Rattle.best_bounds.specs.declared.found_bounds.Found.{Found}

-- a file of these parts, as plain data
abbrev file_of_parts : Option Section → List Proof → List Gap → List SignedLemma → List Claim → RefinedFile
file_of_parts section lemmas gaps signed claims = record {
  section = section_view section;
  plain = record { lemmas = map proof_of lemmas; gaps = map gap_of gaps };
  signed = map lemma_of signed;
  claims = claims_of claims;
}

-- a file whose parts are all empty is the one without claims
empty_view : (f : AcceptedFile) → f.file.section ≡ None → f.file.plain.lemmas.items ≡ [] → f.file.plain.gaps.items ≡ []
    → f.file.signed.items ≡ [] → f.file.claims.items ≡ [] → file_view f.file ≡ claiming []
empty_view f section lemmas gaps signed claims =
    ap (λ (o : Option Section). file_of_parts o f.file.plain.lemmas.items f.file.plain.gaps.items f.file.signed.items
    f.file.claims.items) section
    ∙ (ap (λ (ls : List Proof). file_of_parts None ls f.file.plain.gaps.items f.file.signed.items f.file.claims.items) lemmas
    ∙ (ap (λ (gs : List Gap). file_of_parts None [] gs f.file.signed.items f.file.claims.items) gaps
    ∙ (ap (λ (ss : List SignedLemma). file_of_parts None [] [] ss f.file.claims.items) signed
    ∙ ap (λ (cs : List Claim). file_of_parts None [] [] [] cs) claims)))

-- a file without plain lemmas writes no bound in one
pub no_lemma_written : (n : ℕ) (lemmas : List Proof) → lemmas ≡ []
    → All (λ lemma. IsOverFirst n (proof_of lemma)) lemmas
no_lemma_written n lemmas none =
    subst (λ (ls : List Proof). All (λ lemma. IsOverFirst n (proof_of lemma)) ls) (sym none)
    (All-nil (λ (lemma : Proof). IsOverFirst n (proof_of lemma)))

-- the file without claims is accepted for each program, and states nothing
pub empty_accepted : (p : Program) (f : AcceptedFile) → SmallFilesAreJudged → f.file.section ≡ None
    → f.file.plain.lemmas.items ≡ [] → f.file.plain.gaps.items ≡ [] → f.file.signed.items ≡ []
    → f.file.claims.items ≡ [] → f.stated.items ≡ [] → IsAcceptedFileFor p f
empty_accepted p f judged section lemmas gaps signed claims stated =
    let same = sym (empty_view f section lemmas gaps signed claims) in
    record {
      over_start_arguments = no_lemma_written (length p.start_names) f.file.plain.lemmas.items lemmas;
      accepted = record {
        accepted = subst (IsAcceptedFor p) same (judged.empty p);
        statements =
            ap (map stated_of) stated ∙ (sym (judged.nothing p) ∙ ap (λ (g : RefinedFile). stated_in p g) same);
      };
      hold = subst (λ (ss : List Statement). AllHoldOf p (map stated_of ss)) (sym stated) tt;
    }

-- nothing is found where a file states nothing, and there are no other statements
pub nothing_is_found : (p : Program) (f : Found) → IsAcceptedFileFor p f.file → f.file.stated.items ≡ [] → f.best.items ≡ []
    → IsFoundFor p f
nothing_is_found p f accepted stated best = record {
  file_accepted = accepted;
  hold = subst (λ (ss : List Statement). AllHoldOf p (map stated_of ss)) (sym best) tt;
  by_files = subst (λ (ss : List Statement). All (λ s. IsStatedByFile p s) (map stated_of ss)) (sym best)
      (All-nil (λ (s : Stated). IsStatedByFile p s));
  on_each = subst (λ (ss : List Statement). All (Contains (map subject_of (map stated_of f.best.items)))
      (map subject_of (map stated_of ss))) (sym stated)
      (All-nil (Contains (map subject_of (map stated_of f.best.items))));
}
