-- The searches of a program have one answer to each question.
use Rattle.std.proofs.Common.{◌≡◌, ◌⊎◌, inl, inr, ℕ, Bool, true, List, [], ◌∷◌, length, map}
use Rattle.std.proofs.Common.{refl, sym, ◌∙◌, ap, subst}
use Rattle.std.specs.List.{AllByRecursion, range_with_len}
use Rattle.std.proofs.lemmas.List.Elements.{recursion_from_All}
use Rattle.model.specs.Programs.{Program, Rule}
use Rattle.guard_prep.specs.Prepared.{prepared}
use Rattle.its_graph.specs.Components.{IsListing}
use Rattle.its_graph.proofs.Uniqueness.{one_listing}
use Rattle.cert_types.specs.cert_rules.Nodes.{ResultVariable}
use Rattle.cert_types.specs.cert_program.Setting.{setting_of}
use Rattle.rank_search.specs.rule_questions.EmptyAnswers.{IsEmptyAnswer}
use Rattle.cert_types.specs.declared.answer.GuardFeasibility.{GuardFeasibility}
use Rattle.rank_search.specs.rule_questions.OneEmptyAnswer.{IsSameEmptyAnswer, EmptyAnswersAreOne}
use Rattle.local_size.specs.LocalAnswers.{Local}
use Rattle.local_size.specs.LocalLaws.{LocalAnswersAreOne}
use Rattle.rvg_components.specs.Flows.{Locals, live_result_variables}
use Rattle.rvg_components.specs.Listing.{result_variable_at, HasFlow, AreComponents}
use Rattle.bound_fixpoint.specs.Keys.{Bounds, has_key, key, over}
use Rattle.bound_fixpoint.specs.Searches.{SizeOutcome}
use Rattle.bound_fixpoint.specs.Right.{AreOne}
use Rattle.bound_fixpoint.proofs.Cases.{some_same}
use Rattle.rank_search.specs.OneAnswer.{RankAnswersAreOne}
use Rattle.time_bounds.proofs.OneSearches.{emptiness_one, ranking_question_one}
use Rattle.bound_fixpoint.proofs.DeadRules.{dead_by}
use Rattle.time_bounds.specs.ProgramSizes.{AreLive, IsAnswerAt, IsLocalOf, AreLocals}
use Rattle.time_bounds.proofs.PlaceAnswers.{any_answer, AnyAnswers, OneAnswers, code_answered}
use Rattle.time_bounds.specs.ProgramSearches.{searches_of_program}
use Rattle.time_bounds.proofs.ResultVariableLists.{at-member}
use Rattle.time_bounds.proofs.LiveResultVariables.{listed-live, live_result_variables-same}
use Rattle.rvg_components.proofs.Listings.{listing-same}
use Rattle.time_bounds.proofs.OneSizings.{flow_same, sizing_one}
use Rattle.model.proofs.Cases.{same_tests as same_test}

module _ (p : Program) (pivots : ℕ) where
  -- the live rules are the same
  module _ (f g : ℕ → Bool) (h : AreLive p pivots f) (k : AreLive p pivots g) where
    live_on : (t : ℕ) → f t ≡ true → g t ≡ true
    live_on t e =
        let x = (h.live t).0 e in
        (k.live t).1 (
          x.0,
          λ dead. x.1 (dead_by p k.is_empty h.is_empty (λ u rule yes. (h.empty u rule).1 ((k.empty u rule).0 yes)) t x.0 dead),
        )

  live_one : (f g : ℕ → Bool) → AreLive p pivots f → AreLive p pivots g → (t : ℕ) → f t ≡ g t
  live_one f g h k t = same_test (f t) (g t) (live_on f g h k t) (live_on g f k h t)

  module _ (empties_one : EmptyAnswersAreOne) (locals_one : LocalAnswersAreOne) where
    -- the answer for a place is unique
    pub local_one : (t i : ℕ) (x y : Local) → IsLocalOf p pivots t i x → IsLocalOf p pivots t i y → x ≡ y
    local_one t i x y h k =
        by (code_answered p pivots k.rule t k.numbered i x
        (subst (λ (r : Rule). IsAnswerAt p pivots (prepared r) (key t i) x) same h.local))
        (code_answered p pivots k.rule t k.numbered i y k.local)
      where
        same : h.rule ≡ k.rule
        same = some_same h.rule k.rule (sym h.numbered ∙ k.numbered)

        self : (a : GuardFeasibility) → IsEmptyAnswer (prepared k.rule) t pivots a → IsSameEmptyAnswer a a
        self a is = empties_one.each (prepared k.rule) t pivots a a is is

        by : AnyAnswers pivots t i k.rule x ⊎ OneAnswers pivots t i k.rule x
            → AnyAnswers pivots t i k.rule y ⊎ OneAnswers pivots t i k.rule y → x ≡ y
        by (inl f) (inl g) =
            locals_one.each (prepared k.rule) (key t i) pivots any_answer any_answer x y (refl, refl) (f any_answer) (g any_answer)
        by (inl f) (inr (a, is, g)) = locals_one.each (prepared k.rule) (key t i) pivots a a x y (self a is) (f a) g
        by (inr (a, is, f)) (inl g) = locals_one.each (prepared k.rule) (key t i) pivots a a x y (self a is) f (g a)
        by (inr (a, is, f)) (inr (c, is_too, g)) =
            locals_one.each (prepared k.rule) (key t i) pivots a c x y
            (empties_one.each (prepared k.rule) t pivots a c is is_too) f g

    -- the same for each of these places
    all_one : (f g : Locals) (result_variables : List ResultVariable)
        → AllByRecursion (λ m. IsLocalOf p pivots m.rule m.place (f m.rule m.place)) result_variables
        → AllByRecursion (λ m. IsLocalOf p pivots m.rule m.place (g m.rule m.place)) result_variables
        → AllByRecursion (λ m. f m.rule m.place ≡ g m.rule m.place) result_variables
    all_one f g [] h k = tt
    all_one f g (m ∷ result_variables) h k =
        (local_one m.rule m.place (f m.rule m.place) (g m.rule m.place) h.0 k.0, all_one f g result_variables h.1 k.1)

    -- the answer for a component is unique
    sizes_one : (b : Bounds) (result_variables : List ResultVariable) (x y : SizeOutcome) → (searches_of_program p pivots).Sizes b result_variables x
        → (searches_of_program p pivots).Sizes b result_variables y → x ≡ y
    sizes_one b result_variables x y (f, fs, is) (g, gs, is_too) =
        sizing_one (setting_of p) (over b) f g result_variables
        (all_one f g result_variables
        (recursion_from_All (λ m. IsLocalOf p pivots m.rule m.place (f m.rule m.place)) result_variables fs)
        (recursion_from_All (λ m. IsLocalOf p pivots m.rule m.place (g m.rule m.place)) result_variables gs)) x y is is_too

    -- the same live rules with the same answers have the same flows
    module _ (is_live : ℕ → Bool) (f g : Locals) (fs : AreLocals p pivots is_live f) (gs : AreLocals p pivots is_live g)
      where
        same_on : (n : ResultVariable) → has_key (live_result_variables p is_live) n.rule n.place ≡ true → f n.rule n.place ≡ g n.rule n.place
        same_on n h =
            let x = listed-live p is_live (range_with_len 1 (length p.rules)) n.rule n.place h in
            local_one n.rule n.place (f n.rule n.place) (g n.rule n.place) (fs n.rule n.place x.0 x.1)
            (gs n.rule n.place x.0 x.1)

        flow_on : (a b : ℕ) → HasFlow (setting_of p) f (live_result_variables p is_live) a b
            → HasFlow (setting_of p) g (live_result_variables p is_live) a b
        flow_on a b h =
            let to = result_variable_at (live_result_variables p is_live) b in record {
              from = h.from;
              to = h.to;
              flow =
                  sym (flow_same (setting_of p) f g (result_variable_at (live_result_variables p is_live) a) to
                  (same_on to (at-member (live_result_variables p is_live) b to.rule to.place h.to refl))) ∙ h.flow;
            }

    -- the same live rules with the same answers have the same components
    listings_one : (is_live : ℕ → Bool) (f g : Locals) → AreLocals p pivots is_live f → AreLocals p pivots is_live g
        → (cs ds : List (List ResultVariable)) → AreComponents (setting_of p) is_live f cs → AreComponents (setting_of p) is_live g ds
        → cs ≡ ds
    listings_one is_live f g fs gs cs ds h k =
        let moved =
        listing-same (HasFlow (setting_of p) g (live_result_variables p is_live)) (HasFlow (setting_of p) f (live_result_variables p is_live))
        (flow_on is_live g f gs fs) (flow_on is_live f g fs gs) (length (live_result_variables p is_live)) k.positions k.listing in
        let same =
        one_listing (HasFlow (setting_of p) f (live_result_variables p is_live)) (length (live_result_variables p is_live)) h.positions k.positions
        h.listing moved in
        h.result_variables ∙ (ap (λ (pss : List (List ℕ)). map (map (result_variable_at (live_result_variables p is_live))) pss) same ∙ sym k.result_variables)

    -- equal live rules have the same components
    components_one : (cs ds : List (List ResultVariable)) → (searches_of_program p pivots).AreComponents cs
        → (searches_of_program p pivots).AreComponents ds → cs ≡ ds
    components_one cs ds (live, lives, (f, fs, h)) (other, others, (g, gs, k)) =
        listings_one live f g fs (λ t i e place. gs t i (sym (same t) ∙ e) place) cs ds h record {
          positions = k.positions;
          listing = subst (λ (ms : List ResultVariable). IsListing (HasFlow (setting_of p) g ms) (length ms) k.positions)
              (sym result_variables) k.listing;
          result_variables = subst (λ (ms : List ResultVariable). ds ≡ map (map (result_variable_at ms)) k.positions) (sym result_variables) k.result_variables;
        }
      where
        same : (t : ℕ) → live t ≡ other t
        same = live_one live other lives others

        result_variables : live_result_variables p live ≡ live_result_variables p other
        result_variables = live_result_variables-same p live other same

    -- each question has one answer
    pub searches_one : RankAnswersAreOne → AreOne (searches_of_program p pivots)
    searches_one ranks_one = record {
      empties = emptiness_one empties_one ranks_one p pivots;
      ranks = ranking_question_one empties_one ranks_one p pivots;
      components = components_one;
      sizes = sizes_one;
    }
