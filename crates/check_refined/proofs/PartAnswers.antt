-- What the answers on the parts of a file say of the section and of the lemmas.
use Rattle.std.proofs.Common.{◌≡◌, List, [], ◌∷◌, ◌++◌, map, Some, None, refl, ap, ◌∙◌, subst}
use Rattle.std.specs.List.{flat_map}
use Rattle.model.specs.Programs.{Program}
use Rattle.model.specs.Facts.{Fact}
use Rattle.signed_bounds.specs.Safe.{expands_to_squares}
use Rattle.refined_programs.specs.Annotated.{Section}
use Rattle.section_checks.specs.Laws.{HasDistinctNames}
use Rattle.refinement_check.specs.Views.{SaysFirst}
use Rattle.refinement_check.specs.declared.fault.AcceptError.{AcceptError}
use Rattle.refinement_check.specs.declared.fault.AcceptError.TheVariants as section_errors
use Rattle.cert_types.specs.cert_rules.Gaps.{ProofFile}
use Rattle.cert_types.specs.cert_rules.Acceptance.{facts_of_lemmas}
use Rattle.cert_types.specs.cert_program.Setting.{setting_of}
use Rattle.cert_types.specs.cert_program.Laws.{AcceptsFileFor}
use Rattle.cert_context.specs.Statements.{all_facts}
use Rattle.check_file.specs.Files.{IsAcceptedWith, RefusesFile}
use Rattle.check_file.specs.declared.error.CheckError.{CheckError}
use Rattle.check_file.specs.declared.error.CheckError.TheVariants as plain_errors
use Rattle.potential_nodes.specs.Facts.{SignedFact}
use Rattle.potential_nodes.specs.PlainFacts.{signed_fact}
use Rattle.potential_nodes.specs.SignedNodes.{SignedLemma}
use Rattle.potential_nodes.specs.Acceptance.{facts_after, first_refusal}
use Rattle.potential_ground.specs.RowTerms.{ground_of}
use Rattle.check_potentials.specs.Lists.{Accepts, Refuses, refusal_of}
use Rattle.check_potentials.specs.declared.lemmas.LemmaFault.{LemmaFault}
use Rattle.check_potentials.specs.declared.lemmas.LemmaFault.TheVariants as lemma_errors
use Rattle.refined_files.specs.Files.{plain_signed}
use Rattle.check_refined.specs.Refusals.{section_refusal, plain_refusal, lemma_refusal, RefusesSection, RefusesLemmas}
use Rattle.check_refined.specs.Refusals.{StatesFacts}

-- the first fault of a section whose copies have different names refuses the section
pub section-refused : (p : Program) (s : Section) (error : AcceptError) → HasDistinctNames s → SaysFirst p s error
    → RefusesSection p s (section_refusal error)
section-refused p s (section_errors.Wrong fault) named first = (named, first)
section-refused p s section_errors.Memory named first = tt

-- facts joined in order, by two definitions
facts-joined : (lists : List (List Fact)) → all_facts lists ≡ flat_map (λ facts. facts) lists
facts-joined [] = refl
facts-joined (facts ∷ lists) = ap (λ (others : List Fact). facts ++ others) (facts-joined lists)

-- the signed facts of what an accepted plain part states
pub plain-stated : (q : Program) (f : ProofFile) (facts : List Fact) (signed : List SignedFact)
    → IsAcceptedWith q f facts
    → signed ≡ map (signed_fact q) facts → signed ≡ plain_signed q f
plain-stated q f facts signed accepted e =
    e
    ∙ ap (map (signed_fact q)) (accepted.result_is ∙ facts-joined (facts_of_lemmas (setting_of q) f.lemmas))

-- a refused plain part refuses the lemmas of a file
pub plain-refused : (q : Program) (f : ProofFile) (lemmas : List SignedLemma) (error : CheckError)
    → RefusesFile q f error → RefusesLemmas q f lemmas (plain_refusal error)
plain-refused q f lemmas (plain_errors.No lemma node reason) h = h
plain-refused q f lemmas (plain_errors.NoGap gap fault) h = h
plain-refused q f lemmas plain_errors.Memory h = tt

module _ (q : Program) (f : ProofFile) (lemmas : List SignedLemma) (facts : List SignedFact)
    (accepted : AcceptsFileFor q f)
    (plain : facts ≡ plain_signed q f) where
  -- behind an accepted plain part a refused lemma about potentials refuses the lemmas of a file
  pub signed-refused : (fault : LemmaFault) → Refuses (ground_of q expands_to_squares) facts lemmas fault
      → RefusesLemmas q f lemmas (lemma_refusal fault)
  signed-refused (lemma_errors.Refused r) h = record {
    plain = accepted;
    first = subst
        (λ (fs : List SignedFact). first_refusal (ground_of q expands_to_squares) fs 1 lemmas ≡ Some (refusal_of r))
        plain h;
  }
  signed-refused lemma_errors.Memory h = tt

  -- behind an accepted plain part accepted lemmas about potentials state the facts of all lemmas
  pub facts-stated : (found : List SignedFact) → Accepts (ground_of q expands_to_squares) facts lemmas found
      → StatesFacts q f lemmas found
  facts-stated found h = record {
    accepted = record {
      plain = accepted;
      signed = subst
          (λ (fs : List SignedFact). first_refusal (ground_of q expands_to_squares) fs 1 lemmas ≡ None) plain h.refused;
    };
    stated = h.facts_behind ∙ ap (λ (fs : List SignedFact). facts_after fs lemmas) plain;
  }
