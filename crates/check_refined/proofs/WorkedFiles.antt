-- Answers on small files.
use Rattle.std.proofs.Common.{◌≡◌, ℕ, Bool, true, false, List, [], ◌∷◌, Option, Some, None, refl, sym, ap, ◌∙◌, inl}
use Rattle.std.proofs.Common.{arith}
use Rattle.std.proofs.lemmas.List.Elements.{All-nil}
use Rattle.std.specs.Prelude.{slice_get}
use Rattle.model.specs.Programs.{Program}
use Rattle.model.specs.WorkedRuns.{countdown}
use Rattle.refinement.specs.Sections as plain
use Rattle.refinement.specs.Obligations.{HasFirstCopy}
use Rattle.refined_programs.specs.Annotated.{Section, section_of}
use Rattle.section_checks.specs.Faults.{IsAccepted}
use Rattle.section_checks.specs.Laws.{HasDistinctNames}
use Rattle.signed_bounds.specs.Safe.{expands_to_squares}
use Rattle.cert_types.specs.cert_rules.Setting.{Setting}
use Rattle.cert_types.specs.cert_rules.GapChecks.{GapHolds}
use Rattle.cert_types.specs.cert_rules.Acceptance.{AcceptsLemmas, facts_of_lemmas}
use Rattle.cert_types.specs.cert_program.Setting.{setting_of}
use Rattle.cert_types.specs.cert_program.RankedSets.{forms_at}
use Rattle.cert_types.specs.cert_program.Laws.{AcceptsFileFor}
use Rattle.cert_types.specs.cert_program.Worked.{three_rules}
use Rattle.cert_context.specs.Statements.{all_facts}
use Rattle.check_file.specs.WorkedFiles as plain_files
use Rattle.check_file.specs.WorkedFiles.{off_lemma}
use Rattle.potential_nodes.specs.Acceptance as lemmas
use Rattle.potential_nodes.specs.Acceptance.{first_refusal}
use Rattle.potential_ground.specs.RowTerms.{ground_of}
use Rattle.check_potentials.specs.Lists as lemma_views
use Rattle.program_claims.specs.Acceptance.{ClaimRefusal, first_refused}
use Rattle.claims_check.specs.Views as claim_views
use Rattle.refined_files.specs.Files.{plain_signed, evidence_in}
use Rattle.check_refined.specs.Files.{HasAcceptedLemmas}
use Rattle.check_refined.specs.Worked.{FilesAreAnswered, nothing, copying, copy_a, lesser, claiming, citing}
use Rattle.check_refined.specs.Worked.{first_lemma}
use Rattle.check_refined.specs.Worked.{first_claim, second_claim}

no-lemmas : (s : Setting) → AcceptsLemmas s []
unfolding AcceptsLemmas
no-lemmas s = tt

-- a plain part without lemmas and gaps is accepted
nothing-accepted : (p : Program) → AcceptsFileFor p nothing
nothing-accepted p = record {
  lemmas = no-lemmas (setting_of p);
  gaps = All-nil (GapHolds (setting_of p).program (forms_at p));
}

-- the file that only claims has accepted lemmas, and its claim is the first that is refused
no-lemma-refused : HasAcceptedLemmas countdown claiming
no-lemma-refused = record { section = tt; lemmas = record { plain = nothing-accepted countdown; signed = refl } }

claim-refused : first_refused (evidence_in countdown claiming) 1 claiming.claims
    ≡ Some (claim_views.refusal_of first_claim)
unfolding facts_of_lemmas
claim-refused = refl

-- the lemma that cites facts that aren't there is the first that is refused
lemma-refused : first_refusal (ground_of countdown expands_to_squares) (plain_signed countdown nothing) 1 (lesser ∷ [])
    ≡ Some (lemma_views.refusal_of first_lemma)
unfolding facts_of_lemmas
lemma-refused = refl

-- nothing is something
none-some : {A : Type 0} (o : Option A) (x : A) → o ≡ None → o ≡ Some x → ⊥
none-some o x e k = cc

some-none : {A : Type 0} (x : A) → None ≡ Some x → ⊥
some-none x e = cc

-- the number of a refused claim, 0 if there is none
number_in : Option ClaimRefusal → ℕ
number_in None = 0
number_in (Some r) = r.number

other-number : (o : Option ClaimRefusal) → o ≡ Some (claim_views.refusal_of first_claim)
    → o ≡ Some (claim_views.refusal_of second_claim) → ⊥
unfolding number_in
other-number o e k = let same : ◌≡◌ {A = ℕ} 1 2 = sym (ap number_in e) ∙ ap number_in k in omega (arith, same)

-- the names of no copies differ, and those of two copies with one name don't
no-names : HasDistinctNames (copying [])
no-names = record { names = tt; distinct = tt }

same-name : (a b : ℕ) → ¬ (HasDistinctNames (copying (copy_a a ∷ copy_a b ∷ [])))
same-name a b h = true-false h.distinct.0
  where
    true-false : true ≡ false → ⊥
    true-false e = cc

-- a section without copies has no first copy
no-first : (p : Program) → ¬ (HasFirstCopy p (section_of (copying [])))
no-first p h = none-some (slice_get (section_of (copying [])).copies 0) h.copy refl h.there

pub answered : plain_files.FilesAreAnswered → FilesAreAnswered
answered plain_ones = record {
  empty = record {
    accepted = record { section = tt; plain = nothing-accepted countdown; signed = refl; claims = refl };
    statements = refl;
  };
  empty_states_nothing = λ s h. cons-nil s h.statements;
  empty_not_refused = λ r h. some-none _ h.1;
  claim_refused = (no-lemma-refused, claim-refused);
  other_claim = λ h. other-number _ claim-refused h.1;
  claim_not_lemma = λ r h. some-none _ h.1.first;
  claim_not_names = λ h. h;
  claim_not_section = λ f h. h;
  claim_not_accepted = λ stated h. none-some _ _ h.accepted.claims claim-refused;
  lemma_refused = (tt, record { plain = nothing-accepted countdown; first = lemma-refused });
  lemma_first = λ r h. none-some _ _ h.0.lemmas.signed lemma-refused;
  node_refused = (tt, plain_ones.lemma_refused);
  node_first = λ r h.
      plain_ones.lemma_not_accepted (all_facts (facts_of_lemmas (setting_of three_rules) off_lemma.lemmas))
      (record { accepted = h.1.plain; result_is = refl });
  section_refused = (no-names, inl (inl (no-first countdown, refl)));
  section_first = λ r h. no-first countdown h.0.1.0.0;
  section_not_names = λ h. h no-names;
  names_refused = same-name 1 0;
  names_first = λ f h. same-name 1 0 h.0;
} where
  cons-nil : {A : Type 0} (x : A) → (x ∷ []) ≡ [] → ⊥
  cons-nil x e = cc
