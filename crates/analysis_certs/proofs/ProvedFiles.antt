-- The proof file of an analysis of a valid program is accepted, and within the limits.
use Rattle.std.proofs.Common.{◌≡◌, ℕ, ◌≤◌, List, [], ◌∷◌, length, map, sym, ap, ◌∙◌, subst, arith, All}
use Rattle.std.proofs.lemmas.List.{length-append, length-map}
use Rattle.std.proofs.lemmas.List.Elements.{All-nil, All-cons, All-head, All-tail, All-map}
use Rattle.its_model.specs.Valid.{IsValid}
use Rattle.model.specs.Programs.{Program}
use Rattle.outcome.specs.Views.{report_of, time_of}
use Rattle.outcome.specs.declared.outcome_of.Outcome.{Outcome}
use Rattle.cert_types.specs.AnswerViews.{gap_of}
use Rattle.cert_types.specs.Views.{proof_of}
use Rattle.cert_types.specs.declared.gap.Gap as code
use Rattle.cert_types.specs.declared.proof.Proof as codes
use Rattle.cert_types.specs.cert_rules.Acceptance.{AcceptsLemmas}
use Rattle.cert_types.specs.cert_rules.GapChecks.{GapHolds}
use Rattle.cert_types.specs.cert_rules.Nodes.{Proof}
use Rattle.cert_types.specs.cert_program.RankedSets.{forms_at}
use Rattle.cert_types.specs.cert_program.Setting.{setting_of}
use Rattle.bound_fixpoint.specs.Derivations.{bounds_of, number_in}
use Rattle.bound_fixpoint.specs.Needs.{lemma_by, lemmas_of}
use Rattle.cert_text.specs.OverFirst.{IsOverFirst}
use Rattle.cert_text.specs.Spelled.{AreLemmasWithin, IsGapWithin, IsFileWithin}
use Rattle.time_bounds.specs.ProgramSearches.{searches_of_program}
use Rattle.cost_bounds.specs.CostLemmas.{cost_lemma, cost_lemmas}
use Rattle.time_bounds.proofs.CostNumbers.{certified_few}
use Rattle.time_bounds.proofs.OneProgram.{program_searches_one}
use Rattle.time_bounds.proofs.RightSizings.{program_searches_right}
use Rattle.analysis_certs.specs.ProvedFiles.{IsOutcomeOf, file_of_outcome, ProvedFilesAreAccepted}
use Rattle.bound_derivations.proofs.FewDerivations.{made-few}
use Rattle.analysis_certs.proofs.GapsWithin.{gap-within}
use Rattle.analysis_certs.proofs.LemmasWithin.{lemmas-within, lemmas-over_first}
use Rattle.analysis_certs.proofs.ShutPlaces.{HasItsPlaces, named-places, all-numbered, gaps-few}

-- gaps that hold, each over its places, are within the limits
gaps-within : (p : Program) (gaps : List code.Gap) → All (λ g. GapHolds p (forms_at p) (gap_of g)) gaps
    → All (λ g. HasItsPlaces p (gap_of g)) gaps → All (λ g. IsGapWithin p (gap_of g)) gaps
gaps-within p [] h k = All-nil (λ g. IsGapWithin p (gap_of g))
gaps-within p (g ∷ gaps) h k =
    All-cons (λ x. IsGapWithin p (gap_of x)) g gaps
    (gap-within p (gap_of g) (All-head (λ x. GapHolds p (forms_at p) (gap_of x)) g gaps h)
    (All-head (λ x. HasItsPlaces p (gap_of x)) g gaps k))
    (gaps-within p gaps (All-tail (λ x. GapHolds p (forms_at p) (gap_of x)) g gaps h)
    (All-tail (λ x. HasItsPlaces p (gap_of x)) g gaps k))

-- a property of all proofs as plain data is one of all proofs
each-proof : (P : Proof → Type 0) (ls : List codes.Proof) → All P (map proof_of ls) → All (λ l. P (proof_of l)) ls
each-proof P [] h = All-nil (λ l. P (proof_of l))
each-proof P (l ∷ ls) h =
    All-cons (λ k. P (proof_of k)) l ls (All-head P (proof_of l) (map proof_of ls) h)
    (each-proof P ls (All-tail P (proof_of l) (map proof_of ls) h))

module _ (p : Program) (pivots : ℕ) (o : Outcome) (valid : IsValid p) (h : IsOutcomeOf p pivots o) where
  -- the lemmas of the file are within the limits
  lemmas : AreLemmasWithin p 0 (map proof_of o.lemmas.items)
  lemmas =
      subst (AreLemmasWithin p 0) (sym h.lemmas.lemmas)
      (lemmas-within (setting_of p) valid h.lemmas.derivations h.lemmas.certified
      (subst (AcceptsLemmas (setting_of p)) h.lemmas.lemmas h.lemmas.accepted))

  -- there are few lemmas
  few : length (map proof_of o.lemmas.items) ≤ 100000
  few =
      let derivations = made-few (searches_of_program p pivots) (setting_of p) valid (program_searches_right.each p pivots valid)
      (program_searches_one.each p pivots) h.lemmas.derivations h.lemmas.last.made in
      let same = ap (λ (xs : List Proof). length xs) h.lemmas.lemmas
      ∙ length-append (lemmas_of h.lemmas.derivations) (cost_lemmas (setting_of p) (number_in h.lemmas.derivations) h.lemmas.certified) in
      let long = length-map h.lemmas.derivations (λ f. lemma_by (number_in h.lemmas.derivations) f.node f.premises) in
      let costs = length-map h.lemmas.certified (cost_lemma (setting_of p) (number_in h.lemmas.derivations)) in
      let certified = certified_few p pivots (bounds_of p h.lemmas.derivations) 1 (report_of o).costs h.lemmas.certified
      h.lemmas.are_certified in
      omega (arith, derivations, same, long, costs, certified, h.found.cost_each, valid.few_rules)

  -- the gaps of the file are within the limits
  gaps : All (IsGapWithin p) (map gap_of o.gaps.items)
  gaps =
      All-map (IsGapWithin p) gap_of o.gaps.items
      (gaps-within p o.gaps.items h.lemmas.gaps_hold
      (all-numbered (HasItsPlaces p) o.gaps.items
      (λ j more most.
      named-places p pivots valid h.lemmas.derivations o.gaps.items 1 0 (length o.gaps.items) o.times.items h.lemmas.gaps
      h.lemmas.times j more most)))

  -- there are few gaps
  few-gaps : length (map gap_of o.gaps.items) ≤ 1000
  few-gaps =
      let long = length-map o.gaps.items gap_of in
      let most = gaps-few 0 (length o.gaps.items) o.times.items h.lemmas.gaps in
      let times = length-map o.times.items (time_of o.gaps.items) in
      omega (arith, long, most, times, h.found.one_each, valid.few_rules)

  whole : IsFileWithin p (file_of_outcome o)
  whole = record { lemmas = lemmas; few_lemmas = few; gaps = gaps; few_gaps = few-gaps }

-- the proof file is accepted, and within the limits
pub proved-accepted : ProvedFilesAreAccepted
proved-accepted = record {
  accepted = λ p pivots o valid h. record {
    lemmas = h.lemmas.accepted;
    gaps = All-map (GapHolds p (forms_at p)) gap_of o.gaps.items h.lemmas.gaps_hold;
  };
  within = λ p pivots o valid h. whole p pivots o valid h;
  over_first = λ p pivots o valid h.
      each-proof (IsOverFirst (length p.start_names)) o.lemmas.items
      (subst (All (IsOverFirst (length p.start_names))) (sym h.lemmas.lemmas) (lemmas-over_first (length p.start_names) (setting_of p) h.lemmas.derivations h.lemmas.certified));
}
