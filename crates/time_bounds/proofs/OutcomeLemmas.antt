-- The lemmas of an analysis are those of its derivations, and entries carry the numbers of these.
use Rattle.std.proofs.Common.{◌≡◌, ℕ, List, [], ◌∷◌, ◌++◌, length, map, All, sym, ◌∙◌, ap, subst}
use Rattle.std.proofs.lemmas.List.{length-map}
use Rattle.std.specs.List.{Contains}
use Rattle.model.specs.Facts.{Fact}
use Rattle.model.specs.Programs.{Program}
use Rattle.its_model.specs.Valid.{IsValid}
use Rattle.outcome.specs.Views.{report_of}
use Rattle.outcome.specs.declared.outcome_of.Outcome.{Outcome}
use Rattle.cert_types.specs.cert_rules.Acceptance.{AcceptsLemmas, facts_of_lemma, facts_of_lemmas}
use Rattle.cert_types.specs.cert_rules.GapChecks.{GapHolds}
use Rattle.cert_types.specs.cert_rules.Nodes.{Proof}
use Rattle.cert_types.specs.cert_program.Setting.{setting_of}
use Rattle.cert_types.specs.AnswerViews.{gap_of}
use Rattle.cert_types.specs.Views.{proof_of}
use Rattle.rank_search.specs.rule_questions.ProgramQuestions.{forms_at}
use Rattle.bound_fixpoint.specs.Derivations as plain
use Rattle.bound_fixpoint.specs.Derivations.{bounds_of, facts_of_derivation, number_in}
use Rattle.bound_fixpoint.specs.Keys.{Bounds, place_fact}
use Rattle.bound_fixpoint.specs.Needs.{lemma_by, lemmas_of}
use Rattle.bound_fixpoint.specs.Rounds.{IsLast}
use Rattle.bound_fixpoint.specs.Justification.{AreJustified}
use Rattle.bound_fixpoint.proofs.JustificationLaws.{are_numbered, have_lemmas}
use Rattle.bound_derivations.specs.declared.derivation.Derivation.{Derivation}
use Rattle.bound_derivations.specs.Books.{AreDerivedBounds}
use Rattle.size_bounds.specs.Tables.{bounds_in, number_at}
use Rattle.bound_derivations.specs.Views.{derivations_of}
use Rattle.size_bounds.specs.declared.table.Table.{Table}
use Rattle.cost_bounds.specs.CostLemmas.{cost_fact, cost_lemmas}
use Rattle.cost_bounds.specs.Laws.{IsBoundedCost, table_with}
use Rattle.cost_bounds.proofs.CitedBefore.{contains-before}
use Rattle.cost_bounds.proofs.CostLemmas.{bounded-accepted}
use Rattle.time_bounds.specs.Analysis.{AreTimesOf, AreCostsOver, AreSizeRowsOf}
use Rattle.time_bounds.specs.AnalysisLemmas.{CarriesTime, CarriesSizes, CarryCosts, AreCertified, AreGapsInOrder, HasLemmas}
use Rattle.time_bounds.specs.CostEntries.{AreCostEntries}
use Rattle.time_bounds.specs.Numbered.{EachNumbered}
use Rattle.time_bounds.specs.ProgramSearches.{searches_of_program}
use Rattle.time_bounds.proofs.AnalysisOfDerivations.{IsAnalysisWith}
use Rattle.bound_fixpoint.proofs.SizesAreJustified.{all_justified}
use Rattle.time_bounds.proofs.OneProgram.{program_searches_one}
use Rattle.time_bounds.proofs.RightSizings.{program_searches_right}
use Rattle.time_bounds.proofs.CostNumbers.{certified_bounded, costs_stated}
use Rattle.time_bounds.proofs.TablesOver.{bounds_same, numbers_same}

-- an analysis over derived bounds, with their lemmas, has lemmas
pub has_lemmas : (p : Program) (pivots : ℕ) (tab : Table) (derivations : List Derivation) (o : Outcome) → IsValid p → AreDerivedBounds p tab derivations
    → IsAnalysisWith p pivots (derivations_of derivations) (report_of o)
    → AreCostEntries p pivots (bounds_in tab) (number_at tab) (lemmas_of (derivations_of derivations)) o.costs.items
    (map proof_of o.lemmas.items)
    → EachNumbered (CarriesTime (number_at tab)) 1 o.times.items → EachNumbered (CarriesSizes (number_at tab)) 1 (map (λ row. row.items) o.sizes.items)
    → AreGapsInOrder 0 o.times.items (length o.gaps.items) → All (λ g. GapHolds p (forms_at p) (gap_of g)) o.gaps.items
    → HasLemmas p pivots o
has_lemmas p pivots tab derivations o valid derived analysis entries times sizes gaps hold = record {
  derivations = derivations_of derivations;
  last = last;
  times =
      subst (λ (fs : List plain.Derivation). AreTimesOf (searches_of_program p pivots) p fs 1 (report_of o).times) analysis.1 analysis.0.times;
  sizes =
      subst (λ (fs : List plain.Derivation). AreSizeRowsOf (searches_of_program p pivots) p fs 1 (report_of o).sizes) analysis.1 analysis.0.sizes;
  certified = entries.certified;
  are_certified = are;
  lemmas = lemmas;
  accepted =
      subst (λ (ls : List Proof). AcceptsLemmas (setting_of p) ls) (sym lemmas)
      (bounded-accepted.accepted p pivots (derivations_of derivations) entries.certified valid stand bounded);
  stated = λ t i b rule e.
      subst (λ (facts : List (List Fact)). Contains (facts_of_lemma facts (number_in (derivations_of derivations) t i)) (place_fact t i b))
      (sym whole)
      (contains-before _ _ (number_in (derivations_of derivations) t i) (place_fact t i b)
      (subst (λ (facts : List (List Fact)). Contains (facts_of_lemma facts (number_in (derivations_of derivations) t i)) (place_fact t i b))
      (have_lemmas.stated (setting_of p) (derivations_of derivations) stand)
      (are_numbered.each (setting_of p) (derivations_of derivations) stand t i b rule e)));
  stated_costs = λ t s e.
      ap (λ (facts : List (List Fact)). facts_of_lemma facts s.lemma) whole
      ∙ costs_stated p pivots (bounds_of p (derivations_of derivations)) (map facts_of_derivation (derivations_of derivations)) t
      o.costs.items entries.certified s analysis_costs are carried e;
  carried_times = subst (λ (ns : ℕ → ℕ → ℕ). EachNumbered (CarriesTime ns) 1 o.times.items) (numbers_same p tab derivations derived) times;
  carried_costs = subst (λ (n : ℕ). CarryCosts n o.costs.items) count entries.carried;
  carried_sizes =
      subst (λ (ns : ℕ → ℕ → ℕ). EachNumbered (CarriesSizes ns) 1 (map (λ row. row.items) o.sizes.items)) (numbers_same p tab derivations derived) sizes;
  gaps = gaps;
  gaps_hold = hold;
}
  where
    last : IsLast (searches_of_program p pivots) (setting_of p) (derivations_of derivations)
    last = subst (λ (fs : List plain.Derivation). IsLast (searches_of_program p pivots) (setting_of p) fs) analysis.1 analysis.0.last

    stand : AreJustified (setting_of p) (derivations_of derivations)
    stand =
        all_justified (searches_of_program p pivots) (setting_of p) (program_searches_right.each p pivots valid)
        (program_searches_one.each p pivots) (derivations_of derivations) last.made

    -- the table has the bounds that are known with the derivations
    same : bounds_in tab ≡ bounds_of p (derivations_of derivations)
    same = bounds_same p tab derivations derived

    are : AreCertified p pivots (bounds_of p (derivations_of derivations)) 1 (report_of o).costs entries.certified
    are = subst (λ (b : Bounds). AreCertified p pivots b 1 (report_of o).costs entries.certified) same entries.are_certified

    analysis_costs : AreCostsOver p pivots (bounds_of p (derivations_of derivations)) 1 (report_of o).costs
    analysis_costs = subst (λ (b : Bounds). AreCostsOver p pivots b 1 (report_of o).costs) same entries.each

    bounded : All (IsBoundedCost p pivots (table_with p (derivations_of derivations))) entries.certified
    bounded = certified_bounded p pivots (bounds_of p (derivations_of derivations)) 1 (report_of o).costs entries.certified are

    lemmas : map proof_of o.lemmas.items
        ≡ lemmas_of (derivations_of derivations) ++ cost_lemmas (setting_of p) (number_in (derivations_of derivations)) entries.certified
    lemmas = entries.lemmas_are
        ∙ ap (λ (ns : ℕ → ℕ → ℕ). lemmas_of (derivations_of derivations) ++ cost_lemmas (setting_of p) ns entries.certified)
        (numbers_same p tab derivations derived)

    whole : facts_of_lemmas (setting_of p) (map proof_of o.lemmas.items)
        ≡ map facts_of_derivation (derivations_of derivations)
        ++ map (λ node. cost_fact (setting_of p) (table_with p (derivations_of derivations)) node ∷ []) entries.certified
    whole = ap (facts_of_lemmas (setting_of p)) lemmas
        ∙ bounded-accepted.stated p pivots (derivations_of derivations) entries.certified valid stand bounded

    -- there is a lemma for each derivation
    count : length (lemmas_of (derivations_of derivations)) ≡ length (derivations_of derivations)
    count = length-map (derivations_of derivations)
        (λ f. lemma_by (number_in (derivations_of derivations)) f.node f.premises)

    carried : CarryCosts (length (map facts_of_derivation (derivations_of derivations))) o.costs.items
    carried = subst (λ (n : ℕ). CarryCosts n o.costs.items)
        (count ∙ sym (length-map (derivations_of derivations) facts_of_derivation)) entries.carried
