-- The reason that the answer to a rank question gives for a rule without a time is true of the program.
use Rattle.std.proofs.Common.{◌≡◌, ◌⊎◌, inl, inr, ℕ, List, [], ◌∷◌, refl, sym, subst}
use Rattle.model.specs.Programs.{Program}
use Rattle.its_model.specs.Valid.{IsValid}
use Rattle.guard_prep.specs.Prepared.{prepared}
use Rattle.outcome.specs.Reports.{NoTime, NoFunction, TimeHitLimit, TimeLarge}
use Rattle.cert_types.specs.rule_forms.Ranking.{NoRank}
use Rattle.cert_types.specs.cert_rules.AcceptsPlain.{IsRule}
use Rattle.cert_types.specs.cert_rules.AcceptsRank.{rank_time}
use Rattle.cert_types.specs.cert_rules.Checks.{large_nodes}
use Rattle.cert_types.specs.cert_rules.Gaps.{SymbolPlace, Gap}
use Rattle.cert_types.specs.cert_rules.Known.{IsKnown}
use Rattle.cert_types.specs.cert_rules.Nodes.{RankNode}
use Rattle.cert_types.specs.cert_program.Setting.{setting_of}
use Rattle.cert_types.specs.declared.answer.GuardFeasibility.{GuardFeasibility}
use Rattle.cert_types.specs.declared.answer.GuardFeasibility.TheVariants as empties
use Rattle.cert_types.specs.declared.answer.LimitHit.{LimitHit}
use Rattle.cert_types.specs.Views.{rank_of}
use Rattle.rank_search.specs.RankAnswers.{IsRankNode, IsRankAnswer, IsOwnLimitHit, IsFeasibilityLimitHit}
use Rattle.rank_search.specs.declared.answer.RankAnswer.{RankAnswer}
use Rattle.rank_search.specs.declared.answer.RankAnswer.TheVariants as ranks
use Rattle.rank_search.specs.rule_questions.EmptyAnswers.{IsEmptyAnswer}
use Rattle.rank_search.specs.rule_questions.ProgramQuestions.{ranked_set}
use Rattle.rank_search.proofs.rule_questions.Exact.{nodes-accepted as empty_nodes-accepted}
use Rattle.rank_search.proofs.Accepted.{nodes-accepted}
use Rattle.rank_search.proofs.NodeLaws.{nodes-rank}
use Rattle.rank_search.proofs.RankExact.{answers-exact}
use Rattle.bound_fixpoint.specs.Answers.{Lacks, AnswersRanking, AnswersTime}
use Rattle.bound_fixpoint.specs.Keys.{Bounds, over}
use Rattle.bound_fixpoint.specs.Right.{IsFirstLimitHit, IsGapOf, IsQuestion}
use Rattle.bound_fixpoint.specs.Searches.{EmptyHitLimit, Ranking, Ranked, Unranked}
use Rattle.bound_fixpoint.specs.Searches.{RankHitLimit, OfTime}
use Rattle.bound_fixpoint.specs.Sets.{IsSetOfRule, AreShutOf}
use Rattle.bound_fixpoint.proofs.AcceptedRanks.{is_question}
use Rattle.time_bounds.specs.ProgramRules.{emptiness_of, ranking_of, EmptyHitsLimitSo}
use Rattle.time_bounds.specs.ProgramSearches.{searches_of_program}
use Rattle.time_bounds.specs.TimeWhys.{FirstHitsLimitSo, IsSought, NoFunctionRanks, PointsLimitHitSo, RankHitsLimitSo}
use Rattle.time_bounds.specs.TimeWhys.{HasNoTime}
use Rattle.time_bounds.proofs.RightSearches.{first_limit_hit_of, ranking_right}

-- equal results without a time have the same reason
one_time : (v w : NoTime) → Lacks (OfTime v) ≡ Lacks (OfTime w) → v ≡ w
one_time v w e = cc

module _ (p : Program) (pivots : ℕ) where
  -- a limit hit of a feasibility answer is that of the rule's own linear program
  pub empty_limit_hit : (t : ℕ) (x : LimitHit) → (searches_of_program p pivots).Empties t (EmptyHitLimit x)
      → EmptyHitsLimitSo p pivots t x
  empty_limit_hit t x (r, numbered, (a, same, is)) = go a same is
    where
      go : (a : GuardFeasibility) → emptiness_of a ≡ EmptyHitLimit x → IsEmptyAnswer (prepared r) t pivots a
          → EmptyHitsLimitSo p pivots t x
      go (empties.Empty n) e h = absurd (let none : ⊥ = cc in none)
      go (empties.Point z) e h = absurd (let none : ⊥ = cc in none)
      go (empties.OutOfLimits y) e h =
          let same_limit_hit : y ≡ x = cc in
          record {
            rule = r;
            numbered = numbered;
            hits_limit = subst (λ (z : LimitHit). IsEmptyAnswer (prepared r) t pivots (empties.OutOfLimits z)) same_limit_hit h;
          }

  -- a limit hit of a rule's own linear program is its feasibility answer
  limit_hit_answered : (t : ℕ) (x : LimitHit) → EmptyHitsLimitSo p pivots t x
      → (searches_of_program p pivots).Empties t (EmptyHitLimit x)
  limit_hit_answered t x h = (h.rule, h.numbered, (empties.OutOfLimits x, refl, h.hits_limit))

  -- the first rule whose feasibility answer is a limit hit is the first whose linear program exceeds the limit
  first_limit_hit_so : (ts : List ℕ) (x : LimitHit) → IsFirstLimitHit (searches_of_program p pivots) ts x → FirstHitsLimitSo p pivots ts x
  first_limit_hit_so [] x h = absurd h
  first_limit_hit_so (t ∷ ts) x (inl h) = inl (empty_limit_hit t x h)
  first_limit_hit_so (t ∷ ts) x (inr h) = inr ((λ y k. h.0 (y, limit_hit_answered t y k)), first_limit_hit_so ts x h.1)

  module _ (valid : IsValid p) (b : Bounds) (begun : IsKnown (b 0 0)) (t : ℕ) (rule : IsRule p t) (set : List ℕ)
      (shut : List SymbolPlace) (sought : IsSought p b t set shut) where
    question : IsQuestion p set t
    question = is_question (setting_of p) b begun t set rule sought.is_set

    -- if there is a gap, no function ranks the rule
    none_ranks : (g : Gap) → IsGapOf (setting_of p) set t shut g → NoFunctionRanks p b t g
    none_ranks g h = record {
      rule = h.rule;
      sought = record {
        is_set = subst (λ (xs : List ℕ). IsSetOfRule p b t xs) (sym h.same_set) sought.is_set;
        are_shut = subst (λ (xs : List ℕ). AreShutOf p b xs g.shut) (sym h.same_set)
            (subst (λ (ss : List SymbolPlace). AreShutOf p b set ss) (sym h.same_shut) sought.are_shut);
      };
      none = subst (λ (xs : List ℕ). NoRank (ranked_set p xs t g.shut)) (sym h.same_set)
          (subst (λ (ss : List SymbolPlace). NoRank (ranked_set p set t ss)) (sym h.same_shut) h.none);
      shown = h.holds;
    }

    -- the node of an answer is the one that was found
    node_found : (node : RankNode) → (searches_of_program p pivots).Ranks set t shut (Ranked node)
        → IsRankNode (ranked_set p set t shut) pivots node
    node_found node (answers, are, (a, same, is)) = go a same is
      where
        go : (a : RankAnswer) → ranking_of a ≡ Ranked node → IsRankAnswer (ranked_set p set t shut) shut pivots answers a
            → IsRankNode (ranked_set p set t shut) pivots node
        go (ranks.Ranked n) e h =
            let same_node : rank_of n ≡ node = cc in
            subst (λ (m : RankNode). IsRankNode (ranked_set p set t shut) pivots m) same_node h.0
        go (ranks.NoRank gap) e h = absurd (let none : ⊥ = cc in none)
        go (ranks.OutOfLimits y) e h = absurd (let none : ⊥ = cc in none)

    -- the limit hit of an answer is that of the rank question
    limit_hit_so : (x : LimitHit) → (searches_of_program p pivots).Ranks set t shut (RankHitLimit x) → RankHitsLimitSo p pivots b t x
    limit_hit_so x (answers, are, (a, same, is)) = go a same is
      where
        cases : (y : LimitHit)
            → IsOwnLimitHit (ranked_set p set t shut) pivots y ⊎ IsFeasibilityLimitHit (ranked_set p set t shut) pivots answers y
            → IsOwnLimitHit (ranked_set p set t shut) pivots y ⊎ PointsLimitHitSo p pivots (ranked_set p set t shut) y
        cases y (inl own) = inl own
        cases y (inr h) = inr record {
          hits_no_limit = h.hits_no_limit;
          unsolved = h.unsolved;
          first = first_limit_hit_so set y
              (first_limit_hit_of empty_nodes-accepted nodes-rank nodes-accepted answers-exact p pivots valid answers are y set
              question.rules h.first);
        }

        go : (a : RankAnswer) → ranking_of a ≡ RankHitLimit x
            → IsRankAnswer (ranked_set p set t shut) shut pivots answers a → RankHitsLimitSo p pivots b t x
        go (ranks.Ranked n) e h = absurd (let none : ⊥ = cc in none)
        go (ranks.NoRank gap) e h = absurd (let none : ⊥ = cc in none)
        go (ranks.OutOfLimits y) e h =
            let same_limit_hit : y ≡ x = cc in
            subst (λ (z : LimitHit). RankHitsLimitSo p pivots b t z) same_limit_hit
            record { set = set; shut = shut; sought = sought; hits_limit = cases y h }

    -- the reason of each answer is true
    reason_is_true : (answer : Ranking) → (searches_of_program p pivots).Ranks set t shut answer → (why : NoTime)
        → AnswersRanking (setting_of p) b answer (Lacks (OfTime why)) → HasNoTime p pivots b t why
    reason_is_true (Ranked node) h (NoFunction g) told =
        let e : OfTime (NoFunction g) ≡ OfTime (TimeLarge (large_nodes (setting_of p).rewrite
        (rank_time (setting_of p) node (over b)))) = told.1 in absurd (let none : ⊥ = cc in none)
    reason_is_true (Ranked node) h (TimeHitLimit x) told =
        let e : OfTime (TimeHitLimit x) ≡ OfTime (TimeLarge (large_nodes (setting_of p).rewrite
        (rank_time (setting_of p) node (over b)))) = told.1 in absurd (let none : ⊥ = cc in none)
    reason_is_true (Ranked node) h (TimeLarge n) told =
        let e : OfTime (TimeLarge n) ≡ OfTime (TimeLarge (large_nodes (setting_of p).rewrite
        (rank_time (setting_of p) node (over b)))) = told.1 in
        record {
          set = set;
          shut = shut;
          sought = sought;
          node = node;
          ranks = ranking_right p pivots valid set t shut (Ranked node) question h;
          found = node_found node h;
          large = told.0;
          nodes = same_number n _ e;
        }
      where
        same_number : (k m : ℕ) → OfTime (TimeLarge k) ≡ OfTime (TimeLarge m) → k ≡ m
        same_number k m e = cc
    reason_is_true (Unranked g) h why told =
        subst (λ (v : NoTime). HasNoTime p pivots b t v) (sym (one_time why (NoFunction g) told))
        (none_ranks g (ranking_right p pivots valid set t shut (Unranked g) question h).0)
    reason_is_true (RankHitLimit x) h why told =
        subst (λ (v : NoTime). HasNoTime p pivots b t v) (sym (one_time why (TimeHitLimit x) told)) (limit_hit_so x h)

  -- the reason of a rule without a time is true
  pub time_so : IsValid p → (b : Bounds) → IsKnown (b 0 0) → (t : ℕ) → IsRule p t → (why : NoTime)
      → AnswersTime (searches_of_program p pivots) (setting_of p) b t (Lacks (OfTime why)) → HasNoTime p pivots b t why
  time_so valid b begun t rule why h =
      reason_is_true valid b begun t rule h.asked.set h.asked.shut
      (record { is_set = h.asked.is_set; are_shut = h.asked.are_shut }) h.asked.answer h.asked.answered why h.is_answer
