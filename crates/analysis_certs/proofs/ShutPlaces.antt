-- The shut places of the gaps of an analysis are places of the program's symbols, and there is at most one gap for each
-- rule.
use Rattle.std.proofs.Common.{◌≡◌, ℕ, zero, suc, ◌<◌, ◌≤◌, List, [], ◌∷◌, length, map, Some, None, refl, sym, ◌∙◌, ap, subst}
use Rattle.std.proofs.Common.{arith, All, ◌⊎◌, inl, inr, ◌+◌}
use Rattle.std.specs.List.{Contains}
use Rattle.std.proofs.lemmas.List.Elements.{All-nil, All-cons, All-weaker, All-contains_itself}
use Rattle.its_model.specs.Valid.{IsValid}
use Rattle.model.specs.Bounds.{Constant}
use Rattle.model.specs.Paths.{target_of}
use Rattle.model.specs.Programs.{Program, arity_of}
use Rattle.model.proofs.Cases.{some_same}
use Rattle.outcome.specs.Views.{time_of, numbered_gap}
use Rattle.outcome.specs.declared.entry.TimeEntry.{TimeEntry}
use Rattle.outcome.specs.declared.entry.TimeEntry.TheVariants as times
use Rattle.cert_types.specs.AnswerViews.{gap_of}
use Rattle.cert_types.specs.declared.gap.Gap as code
use Rattle.cert_types.specs.cert_rules.AcceptsPlain.{IsRule}
use Rattle.cert_types.specs.cert_rules.Gaps.{SymbolPlace, Gap}
use Rattle.cert_types.specs.cert_program.Setting.{setting_of}
use Rattle.cert_text.specs.Spelled.{IsPlaceOf}
use Rattle.bound_fixpoint.specs.Answers.{Target, TimeOf, SizesOf, Answer, Lacks, AnswersTarget, AnswersTime, AnswersRanking}
use Rattle.bound_fixpoint.specs.Derivations.{Derivation, bounds_of}
use Rattle.bound_fixpoint.specs.Rounds.{IsAskedFor, IsNoBound}
use Rattle.bound_fixpoint.specs.Searches.{Searches, Ranking, Ranked, Unranked, RankHitLimit, OfTime}
use Rattle.outcome.specs.Reports.{NoFunction, TimeHitLimit, TimeLarge}
use Rattle.bound_fixpoint.specs.Sets.{IsShut}
use Rattle.bound_fixpoint.specs.Right.{AreRight, IsGapOf}
use Rattle.bound_fixpoint.proofs.AcceptedRanks.{is_question}
use Rattle.time_bounds.specs.Analysis.{AreTimesOf}
use Rattle.time_bounds.specs.AnalysisLemmas.{AreGapsInOrder}
use Rattle.time_bounds.specs.ProgramSearches.{searches_of_program}
use Rattle.time_bounds.proofs.RightSizings.{program_searches_right}
use Rattle.analysis_certs.proofs.RulePlaces.{target-below}

-- the shut places of a gap are places of the program's symbols
abbrev pub HasItsPlaces : Program → Gap → Type 0
HasItsPlaces p g = All (IsPlaceOf p) g.shut

-- equal reasons name the same gap
same-gap : (g h : Gap) → ◌≡◌ {A = Answer} (Lacks (OfTime (NoFunction g))) (Lacks (OfTime (NoFunction h))) → g ≡ h
same-gap g h e = cc

not-large : (g : Gap) (n : ℕ) → OfTime (NoFunction g) ≡ OfTime (TimeLarge n) → ⊥
not-large g n e = cc

-- if one number is at most another, they are equal or the second is greater
cases : (x y : ℕ) → x ≤ y → (y ≡ x) ⊎ (x < y)
cases zero zero h = inl refl
cases zero (suc y) h = inr (omega arith)
cases (suc x) zero h = absurd (omega (arith, h))
cases (suc x) (suc y) h = later (cases x y (omega (arith, h)))
  where
    later : (y ≡ x) ⊎ (x < y) → (suc y ≡ suc x) ⊎ (suc x < suc y)
    later (inl e) = inl (ap (λ (m : ℕ). suc m) e)
    later (inr l) = inr (omega (arith, l))

module _ (p : Program) (pivots : ℕ) (valid : IsValid p) where
  -- a shut place is a place of a symbol
  place-of : (fs : List Derivation) (set : List ℕ) (x : SymbolPlace) → IsShut p (bounds_of p fs) set x → IsPlaceOf p x
  place-of fs set x h = record {
    symbol = target-below p valid h.entry x.symbol h.leads;
    least = h.place.least;
    most =
        subst (λ (a : ℕ). x.place ≤ arity_of p a)
        (some_same h.place.symbol x.symbol (sym h.place.target ∙ h.leads)) h.place.last;
  }

  -- the shut places of the gap for which a rule has no time are places of symbols
  places-of : (fs : List Derivation) (t : ℕ) (g : Gap)
      → IsNoBound (searches_of_program p pivots) (setting_of p) fs t 0 (OfTime (NoFunction g)) → HasItsPlaces p g
  places-of fs t g h = by-target h.target h.asked h.is_answer
    where
      by-answer : (u : ℕ) → IsRule p u → (a : AnswersTime (searches_of_program p pivots) (setting_of p) (bounds_of p fs) u (Lacks (OfTime (NoFunction g))))
          → (r : Ranking) → (searches_of_program p pivots).Ranks a.asked.set u a.asked.shut r
          → AnswersRanking (setting_of p) (bounds_of p fs) r (Lacks (OfTime (NoFunction g))) → HasItsPlaces p g
      by-answer u rule a (Ranked node) answered is_answer = absurd (not-large g _ is_answer.1)
      by-answer u rule a (RankHitLimit x) answered is_answer = absurd (let e : ◌≡◌ {A = Answer} (Lacks (OfTime (NoFunction g))) (Lacks (OfTime (TimeHitLimit x))) = is_answer in let no_way : ⊥ = cc in no_way)
      by-answer u rule a (Unranked k) answered is_answer =
          let right = (program_searches_right.each p pivots valid).rank a.asked.set u a.asked.shut (Unranked k)
          (is_question (setting_of p) (bounds_of p fs) (Constant 1, refl) u a.asked.set rule a.asked.is_set) answered in
          let same : k.shut ≡ a.asked.shut = right.0.same_shut in
          let shut : HasItsPlaces p k =
          subst (All (IsPlaceOf p)) (sym same)
          (All-weaker (Contains a.asked.shut) (IsPlaceOf p)
          (λ x c. place-of fs a.asked.set x ((a.asked.are_shut.places x).0 c)) a.asked.shut (All-contains_itself a.asked.shut)) in
          subst (HasItsPlaces p) (sym (same-gap g k is_answer)) shut

      by-target : (target : Target) → IsAskedFor (searches_of_program p pivots) (setting_of p) t 0 target
          → AnswersTarget (searches_of_program p pivots) (setting_of p) (bounds_of p fs) target (Lacks (OfTime (NoFunction g)))
          → HasItsPlaces p g
      by-target (TimeOf u) asked is_answer =
          by-answer u (subst (IsRule p) (sym asked.1) asked.0) is_answer is_answer.asked.answer is_answer.asked.answered is_answer.is_answer
      by-target (SizesOf keys) asked is_answer = absurd asked

  -- the shut places of each gap that times name are places of symbols
  pub named-places : (fs : List Derivation) (gaps : List code.Gap) (t n count : ℕ) (entries : List TimeEntry)
      → AreGapsInOrder n entries count → AreTimesOf (searches_of_program p pivots) p fs t (map (time_of gaps) entries)
      → (j : ℕ) → n < j → j ≤ count → HasItsPlaces p (numbered_gap gaps j)
  named-places fs gaps t n count [] order are j more most = absurd (omega (arith, order, more, most))
  named-places fs gaps t n count (times.Known s ∷ entries) order are j more most =
      named-places fs gaps (suc t) n count entries order are.1 j more most
  named-places fs gaps t n count (times.OutOfLimits x ∷ entries) order are j more most =
      named-places fs gaps (suc t) n count entries order are.1 j more most
  named-places fs gaps t n count (times.Large k ∷ entries) order are j more most =
      named-places fs gaps (suc t) n count entries order are.1 j more most
  named-places fs gaps t n count (times.Gap g ∷ entries) order are j more most =
      go (cases (suc n) j more) (λ l. named-places fs gaps (suc t) (suc n) count entries order.1 are.1 j l most)
    where
      go : (j ≡ suc n) ⊎ (suc n < j) → (suc n < j → HasItsPlaces p (numbered_gap gaps j)) → HasItsPlaces p (numbered_gap gaps j)
      go (inl e) later =
          subst (λ (m : ℕ). HasItsPlaces p (numbered_gap gaps m)) (order.0 ∙ sym e)
          (places-of fs t (numbered_gap gaps g) are.0)
      go (inr l) later = later l

-- a property of each gap by its number is one of all gaps
pub all-numbered : (P : Gap → Type 0) (gaps : List code.Gap)
    → ((j : ℕ) → 0 < j → j ≤ length gaps → P (numbered_gap gaps j)) → All (λ g. P (gap_of g)) gaps
all-numbered P [] h = All-nil (λ g. P (gap_of g))
all-numbered P (g ∷ gaps) h =
    All-cons (λ k. P (gap_of k)) g gaps (h 1 (omega arith) (omega arith)) (all-numbered P gaps rest)
  where
    rest : (j : ℕ) → 0 < j → j ≤ length gaps → P (numbered_gap gaps j)
    rest zero more most = absurd (omega (arith, more))
    rest (suc j) more most = h (suc (suc j)) (omega arith) (omega (arith, most))

-- there are no more gaps than times
pub gaps-few : (n count : ℕ) (entries : List TimeEntry) → AreGapsInOrder n entries count → count ≤ n + length entries
gaps-few n count [] h = omega (arith, h)
gaps-few n count (times.Known s ∷ entries) h = let rest = gaps-few n count entries h in omega (arith, rest)
gaps-few n count (times.OutOfLimits x ∷ entries) h = let rest = gaps-few n count entries h in omega (arith, rest)
gaps-few n count (times.Large k ∷ entries) h = let rest = gaps-few n count entries h in omega (arith, rest)
gaps-few n count (times.Gap g ∷ entries) h = let rest = gaps-few (suc n) count entries h.1 in omega (arith, rest)
