-- What is found by files, one after another.
use Rattle.std.proofs.Common.{◌≡◌, ◌++◌, ◌⊎◌, inl, inr, List, map, sym, subst}
use Rattle.std.specs.Prelude.{ℕ, Some, None}
use Rattle.std.specs.List.{All, Contains}
use Rattle.std.proofs.lemmas.List.{map-append}
use Rattle.std.proofs.lemmas.List.Elements.{All-append, All-weaker, All-contains, All-contains_itself}
use Rattle.std.proofs.lemmas.List.Elements.{All-from_recursion, recursion_from_All}
use Rattle.its_model.specs.model.Programs.{Program}
use Rattle.program_claims.specs.Claims.{Stated, HoldsOf}
use Rattle.claims_check.specs.Views.{stated_of}
use Rattle.refined_types.specs.Views.{file_view}
use Rattle.facts_proof.specs.Proofs.{ProvesFacts, ProvesAnalysis}
use Rattle.facts_proof.specs.declared.proving.FactsProof.{FactsProof}
use Rattle.best_bounds.specs.Subjects.{Subject, subject_of, KeepsSubjects}
use Rattle.best_bounds.specs.Found.{IsAcceptedFileFor, IsStatedByFile, IsFoundFor, HasNoFewerStepBounds, IsCertificateFor}
use Rattle.best_bounds.specs.declared.found_bounds.AcceptedFile.{AcceptedFile}
use Rattle.best_bounds.specs.declared.found_bounds.Found.{Found}
use Rattle.best_bounds.proofs.Within.{subset_transitive, left_part, right_part}

-- the statements of the claims of a file
abbrev stated_by : AcceptedFile → List Stated
stated_by j = map stated_of j.stated.items

abbrev best_in : Found → List Stated
best_in f = map stated_of f.best.items

-- the statements of an accepted file are stated by a file
by-file : (p : Program) (j : AcceptedFile) → IsAcceptedFileFor p j → All (λ s. IsStatedByFile p s) (stated_by j)
by-file p j h =
    All-weaker (Contains (stated_by j)) (λ s. IsStatedByFile p s)
    (λ s member. record {
      file = file_view j.file;
      stated = stated_by j;
      accepted = h.accepted;
      states = member;
    }) (stated_by j) (All-contains_itself (stated_by j))

-- what holds of the elements of two lists holds of those of a list of some of these
of-both : {X : Type 0} (P : X → Type 0) (xs ys zs : List X) → All P xs → All P ys → All (Contains (xs ++ ys)) zs
    → All P zs
of-both P xs ys zs h k among =
    All-weaker (Contains (xs ++ ys)) P (λ z member. All-contains P (xs ++ ys) z (All-append P xs ys h k) member) zs among

-- the subjects of both of two lists are kept where those of the lists together are
module _ (xs ys zs : List Stated) (keeps : KeepsSubjects (xs ++ ys) zs) where
  of_all : All (Contains (map subject_of zs)) (map subject_of xs ++ map subject_of ys)
  of_all =
      subst (λ (ss : List Subject). All (Contains (map subject_of zs)) ss) (map-append subject_of xs ys) keeps.on_each

  of_first : All (Contains (map subject_of zs)) (map subject_of xs)
  of_first =
      subset_transitive (map subject_of xs) (map subject_of xs ++ map subject_of ys) (map subject_of zs)
      (left_part (map subject_of xs) (map subject_of ys)) of_all

  of_second : All (Contains (map subject_of zs)) (map subject_of ys)
  of_second =
      subset_transitive (map subject_of ys) (map subject_of xs ++ map subject_of ys) (map subject_of zs)
      (right_part (map subject_of xs) (map subject_of ys)) of_all

-- the bounds so far, improved by those of a further file
pub with_file_found : (p : Program) (known : Found) (file : AcceptedFile) (both : Found) → IsFoundFor p known
    → IsAcceptedFileFor p file → KeepsSubjects (best_in known ++ stated_by file) (best_in both)
    → (both.file ≡ known.file) ⊎ (both.file ≡ file) → IsFoundFor p both
with_file_found p known file both k j keeps one = record {
  file_accepted = file_accepted one;
  hold = recursion_from_All (λ s. HoldsOf p s) (best_in both)
      (of-both (λ s. HoldsOf p s) (best_in known) (stated_by file) (best_in both)
      (All-from_recursion (λ s. HoldsOf p s) (best_in known) k.hold)
      (All-from_recursion (λ s. HoldsOf p s) (stated_by file) j.hold) keeps.among);
  by_files = of-both (λ s. IsStatedByFile p s) (best_in known) (stated_by file) (best_in both) k.by_files (by-file p file j)
      keeps.among;
  on_each = on_each one;
}
  where
    file_accepted : (both.file ≡ known.file) ⊎ (both.file ≡ file) → IsAcceptedFileFor p both.file
    file_accepted (inl e) = subst (λ (f : AcceptedFile). IsAcceptedFileFor p f) (sym e) k.file_accepted
    file_accepted (inr e) = subst (λ (f : AcceptedFile). IsAcceptedFileFor p f) (sym e) j

    on_each : (both.file ≡ known.file) ⊎ (both.file ≡ file)
        → All (Contains (map subject_of (best_in both))) (map subject_of (stated_by both.file))
    on_each (inl e) =
        subst (λ (f : AcceptedFile). All (Contains (map subject_of (best_in both))) (map subject_of (stated_by f))) (sym e)
        (subset_transitive (map subject_of (stated_by known.file)) (map subject_of (best_in known)) (map subject_of (best_in both))
        k.on_each (of_first (best_in known) (stated_by file) (best_in both) keeps))
    on_each (inr e) =
        subst (λ (f : AcceptedFile). All (Contains (map subject_of (best_in both))) (map subject_of (stated_by f))) (sym e)
        (of_second (best_in known) (stated_by file) (best_in both) keeps)

-- an accepted file is a certificate where there is no file of the analysis with facts
pub alone_certified : (p : Program) (pivots : ℕ) (accepted : AcceptedFile) → IsAcceptedFileFor p accepted
    → IsCertificateFor p pivots accepted
alone_certified p pivots accepted h = record { is_accepted = h; by_facts = None; proves = tt; no_fewer = tt }

-- a file of the analysis of the program itself is accepted
pub by_analysis : (p : Program) (pivots : ℕ) (proof : FactsProof) → ProvesAnalysis p pivots proof
    → IsAcceptedFileFor p (record { file = proof.file; stated = proof.stated })
by_analysis p pivots proof proves = record {
  over_start_arguments = proves.proves.over_first;
  accepted = proves.proves.accepted;
  hold = proves.proves.hold;
}

-- a file of the analysis with facts is accepted
by_facts-accepted : (p : Program) (pivots : ℕ) (proof : FactsProof) (accepted : AcceptedFile) → ProvesFacts p pivots proof
    → accepted ≡ record { file = proof.file; stated = proof.stated } → IsAcceptedFileFor p accepted
by_facts-accepted p pivots proof accepted proves e =
    subst (λ (j : AcceptedFile). IsAcceptedFileFor p j) (sym e) (record {
      over_start_arguments = proves.proves.over_first;
      accepted = proves.proves.accepted;
      hold = proves.proves.hold;
    })

-- the better one of an accepted file and of that of the analysis with facts
pub better_certified : (p : Program) (pivots : ℕ) (found : AcceptedFile) (proof : FactsProof) (better : AcceptedFile)
    → IsAcceptedFileFor p found → ProvesFacts p pivots proof
    → (better ≡ found) ⊎ (better ≡ record { file = proof.file; stated = proof.stated }) → HasNoFewerStepBounds proof better
    → IsCertificateFor p pivots better
better_certified p pivots found proof better h proves one no_fewer = record {
  is_accepted = go one;
  by_facts = Some proof;
  proves = proves;
  no_fewer = no_fewer;
}
  where
    go : (better ≡ found) ⊎ (better ≡ record { file = proof.file; stated = proof.stated }) → IsAcceptedFileFor p better
    go (inl e) = subst (λ (j : AcceptedFile). IsAcceptedFileFor p j) (sym e) h
    go (inr e) = by_facts-accepted p pivots proof better proves e
