-- The lemmas and gaps of an analysis, and their numbers.
use Rattle.std.specs.Prelude.{◌≡◌, ℕ, suc, List, [], ◌∷◌, ◌++◌, length, map, Option, Some, None, ⊤}
use Rattle.std.specs.List.{All, Contains}
use Rattle.model.specs.Bounds.{Bound}
use Rattle.model.specs.Facts.{Cost}
use Rattle.model.specs.Programs.{Program}
use Rattle.bound_expr.specs.Views.{bound_of}
use Rattle.outcome.specs.Holding.{numbered_entry}
use Rattle.outcome.specs.Reports.{RuleCost, Costed, Uncosted}
use Rattle.outcome.specs.declared.entry.CostEntry.{CostEntry}
use Rattle.outcome.specs.declared.entry.CostEntry.TheVariants as costs
use Rattle.outcome.specs.declared.entry.Stored.{Stored}
use Rattle.outcome.specs.declared.entry.TimeEntry.{TimeEntry}
use Rattle.outcome.specs.declared.entry.TimeEntry.TheVariants as times
use Rattle.outcome.specs.declared.entry.SizeEntry.{SizeEntry}
use Rattle.outcome.specs.declared.outcome_of.Outcome.{Outcome}
use Rattle.outcome.specs.Views.{report_of}
use Rattle.cert_types.specs.cert_rules.Acceptance.{AcceptsLemmas, facts_of_lemma, facts_of_lemmas}
use Rattle.cert_types.specs.cert_rules.AcceptsPlain.{IsRule}
use Rattle.cert_types.specs.cert_rules.GapChecks.{GapHolds}
use Rattle.cert_types.specs.cert_rules.Nodes.{CostBy, CostNode}
use Rattle.cert_types.specs.cert_program.Setting.{setting_of}
use Rattle.cert_types.specs.AnswerViews.{gap_of}
use Rattle.cert_types.specs.Views.{proof_of}
use Rattle.rank_search.specs.rule_questions.ProgramQuestions.{forms_at}
use Rattle.bound_fixpoint.specs.Keys.{Bounds, over, place_fact}
use Rattle.bound_fixpoint.specs.Derivations.{Derivation, bounds_of, number_in}
use Rattle.bound_fixpoint.specs.Needs.{lemmas_of}
use Rattle.bound_fixpoint.specs.Rounds.{IsLast}
use Rattle.cost_bounds.specs.CostLemmas.{cost_lemmas, cost_node}
use Rattle.cost_bounds.specs.CostOutcomes.{BoundedBy, IsCostOf}
use Rattle.time_bounds.specs.Analysis.{AreTimesOf, AreSizeRowsOf}
use Rattle.time_bounds.specs.Numbered.{EachNumbered, time_stored, size_stored, CarriesNumber}
use Rattle.time_bounds.specs.ProgramSearches.{searches_of_program}

-- an entry of a rule's time carries the number of its lemma
abbrev pub CarriesTime : (ℕ → ℕ → ℕ) → ℕ → TimeEntry → Type 0
CarriesTime number t x = CarriesNumber (number t 0) (time_stored x)

-- the entry of a place's size carries the number of its lemma; and so do the entries of the places after a rule
abbrev pub CarriesSize : (ℕ → ℕ → ℕ) → ℕ → ℕ → SizeEntry → Type 0
CarriesSize number t i x = CarriesNumber (number t i) (size_stored x)

abbrev pub CarriesSizes : (ℕ → ℕ → ℕ) → ℕ → List SizeEntry → Type 0
CarriesSizes number t row = EachNumbered (CarriesSize number t) 1 row

-- the gaps that times name are numbered in the order of rules: the first one after n earlier ones has the number n + 1,
-- and so on, and after the last one there are this many
abbrev pub AreGapsInOrder : ℕ → List TimeEntry → ℕ → Type 0
AreGapsInOrder n [] count = n ≡ count
AreGapsInOrder n (times.Known s ∷ entries) count = AreGapsInOrder n entries count
AreGapsInOrder n (times.Gap g ∷ entries) count = (g ≡ suc n) × AreGapsInOrder (suc n) entries count
AreGapsInOrder n (times.OutOfLimits x ∷ entries) count = AreGapsInOrder n entries count
AreGapsInOrder n (times.Large k ∷ entries) count = AreGapsInOrder n entries count

-- the known costs of rules carry numbers in the order of rules: the first one after n earlier lemmas carries n + 1, and
-- so on
abbrev pub CarryCosts : ℕ → List (Option CostEntry) → Type 0
CarryCosts n [] = ⊤
CarryCosts n (None ∷ entries) = CarryCosts n entries
CarryCosts n (Some (costs.Known s) ∷ entries) = (s.lemma ≡ suc n) × CarryCosts (suc n) entries
CarryCosts n (Some (costs.UnboundedSide l) ∷ entries) = CarryCosts n entries
CarryCosts n (Some (costs.OutOfLimits x) ∷ entries) = CarryCosts n entries
CarryCosts n (Some (costs.Missing m) ∷ entries) = CarryCosts n entries
CarryCosts n (Some (costs.Untimed r) ∷ entries) = CarryCosts n entries
CarryCosts n (Some (costs.Large k) ∷ entries) = CarryCosts n entries

-- these are the nodes of the costs of rules from t on that have a bound over known ones, in the order of rules
abbrev pub AreCertified : Program → ℕ → Bounds → ℕ → List (Option RuleCost) → List CostNode → Type 0
AreCertified p pivots b t [] nodes = nodes ≡ []
AreCertified p pivots b t (None ∷ costs) nodes = AreCertified p pivots b (suc t) costs nodes
AreCertified p pivots b t (Some (Costed x) ∷ costs) nodes = (by : CostBy) × IsCostOf p pivots (over b) t (BoundedBy by)
    × ((rest : List CostNode) × (nodes ≡ cost_node t by ∷ rest) × AreCertified p pivots b (suc t) costs rest)
AreCertified p pivots b t (Some (Uncosted why) ∷ costs) nodes = AreCertified p pivots b (suc t) costs nodes

-- the lemma of a known cost states it, and nothing else
abbrev pub StateCosts : Outcome → Program → Type 0
StateCosts o p = (t : ℕ) (s : Stored) → numbered_entry o.costs.items t ≡ Some (Some (costs.Known s))
    → facts_of_lemma (facts_of_lemmas (setting_of p) (map proof_of o.lemmas.items)) s.lemma ≡ Cost t (bound_of s.bound) ∷ []

-- the lemmas are those of the last derivations of the rounds, from which the report is made, in their order, and then
-- those of the costs that have a bound, in the order of rules; they are accepted; each bound that is known is a fact of
-- the lemma whose number its key has, each known cost is that of its lemma, and the entries carry these numbers; and
-- the gaps are numbered in the order of rules, and hold
pub record HasLemmas (p : Program) (pivots : ℕ) (o : Outcome) : Type 0 where
  pub derivations : List Derivation
  pub last : IsLast (searches_of_program p pivots) (setting_of p) derivations
  pub times : AreTimesOf (searches_of_program p pivots) p derivations 1 (report_of o).times
  pub sizes : AreSizeRowsOf (searches_of_program p pivots) p derivations 1 (report_of o).sizes
  pub certified : List CostNode
  pub are_certified : AreCertified p pivots (bounds_of p derivations) 1 (report_of o).costs certified
  pub lemmas : map proof_of o.lemmas.items
      ≡ lemmas_of derivations ++ cost_lemmas (setting_of p) (number_in derivations) certified
  pub accepted : AcceptsLemmas (setting_of p) (map proof_of o.lemmas.items)
  pub stated : (t i : ℕ) (b : Bound) → IsRule p t → bounds_of p derivations t i ≡ Some b
      → Contains (facts_of_lemma (facts_of_lemmas (setting_of p) (map proof_of o.lemmas.items)) (number_in derivations t i))
      (place_fact t i b)
  pub stated_costs : StateCosts o p
  pub carried_times : EachNumbered (CarriesTime (number_in derivations)) 1 o.times.items
  pub carried_costs : CarryCosts (length derivations) o.costs.items
  pub carried_sizes : EachNumbered (CarriesSizes (number_in derivations)) 1 (map (λ row. row.items) o.sizes.items)
  pub gaps : AreGapsInOrder 0 o.times.items (length o.gaps.items)
  pub gaps_hold : All (λ g. GapHolds p (forms_at p) (gap_of g)) o.gaps.items
