-- The rules of a program have one answer on emptiness, and one to each rank question.
use Rattle.std.proofs.Common.{◌≡◌, ◌⊎◌, inl, inr, ℕ, zero, suc, ◌<◌, ◌≤◌, List, [], ◌∷◌, length, map, Option, Some}
use Rattle.std.proofs.Common.{None, refl, sym, ◌∙◌, ap, subst, arith, slice_get}
use Rattle.model.specs.Programs.{Program, Rule}
use Rattle.model.proofs.Membership.{slice_get-below}
use Rattle.its_model.proofs.linear_forms.CauseLaws.{names-same}
use Rattle.guard_prep.specs.Prepared.{prepared}
use Rattle.cert_types.specs.cert_rules.Gaps.{ScaledPoint, SymbolPlace, Gap}
use Rattle.cert_types.specs.cert_rules.Nodes.{RankNode}
use Rattle.cert_types.specs.declared.answer.LimitHit.{LimitHit}
use Rattle.cert_types.specs.declared.answer.GuardFeasibility.{GuardFeasibility}
use Rattle.cert_types.specs.declared.answer.GuardFeasibility.TheVariants as empties
use Rattle.rank_search.specs.declared.answer.RankAnswer.{RankAnswer}
use Rattle.rank_search.specs.declared.answer.RankAnswer.TheVariants as ranks
use Rattle.rank_search.specs.rule_questions.ProgramQuestions.{ranked_set}
use Rattle.rank_search.specs.rule_questions.EmptyAnswers.{IsEmptyAnswer}
use Rattle.rank_search.specs.rule_questions.RuleAnswers.{answer_for, AreEmptyAnswers, point_in, limit_hit_in}
use Rattle.rank_search.specs.RankAnswers.{first_of, first_limit_hit}
use Rattle.rank_search.specs.rule_questions.OneEmptyAnswer.{IsSameLimitHit, IsSameEmptyAnswer, EmptyAnswersAreOne}
use Rattle.rank_search.specs.OneAnswer.{SeeTheSame, IsSameRankAnswer, RankAnswersAreOne}
use Rattle.bound_fixpoint.specs.Searches.{Emptiness, NoPoint, HasPoint, EmptyHitLimit, Ranking, Ranked, Unranked}
use Rattle.bound_fixpoint.specs.Searches.{RankHitLimit}
use Rattle.time_bounds.specs.ProgramRules.{emptiness_of, ranking_of, IsEmptinessOf, IsRankingOf}
use Rattle.model.proofs.Cases.{slice_get-there as at_some, some_none, some_same}

limit_hit_one : (t u : LimitHit) → IsSameLimitHit t u → t ≡ u
limit_hit_one t u h = together t u h.0 (names-same t.cause u.cause h.1)
  where
    together : (x y : LimitHit) → x.question ≡ y.question → x.cause ≡ y.cause → x ≡ y
    together x y q c = λ i. record { question = q i; cause = c i }

-- answers that are the same have the same point, and the same limit hit
parts_one : (a b : GuardFeasibility) → IsSameEmptyAnswer a b → (point_in (Some a) ≡ point_in (Some b)) × (limit_hit_in (Some a) ≡ limit_hit_in (Some b))
parts_one (empties.Empty n) (empties.Empty k) h = (refl, refl)
parts_one (empties.Empty n) (empties.Point z) h = absurd h
parts_one (empties.Empty n) (empties.OutOfLimits t) h = absurd h
parts_one (empties.Point z) (empties.Empty k) h = absurd h
parts_one (empties.Point z) (empties.Point w) h = (ap (λ (x : ScaledPoint). Some x) h, refl)
parts_one (empties.Point z) (empties.OutOfLimits t) h = absurd h
parts_one (empties.OutOfLimits t) (empties.Empty k) h = absurd h
parts_one (empties.OutOfLimits t) (empties.Point w) h = absurd h
parts_one (empties.OutOfLimits t) (empties.OutOfLimits u) h = (refl, ap (λ (x : LimitHit). Some x) (limit_hit_one t u h))

-- answers with the same point and the same limit hit are the same, as plain data
same_emptiness : (a b : GuardFeasibility) → IsSameEmptyAnswer a b → emptiness_of a ≡ emptiness_of b
same_emptiness (empties.Empty n) (empties.Empty k) h = ap (λ (ms : List ℕ). NoPoint ms) h.1
same_emptiness (empties.Empty n) (empties.Point z) h = absurd h
same_emptiness (empties.Empty n) (empties.OutOfLimits t) h = absurd h
same_emptiness (empties.Point z) (empties.Empty k) h = absurd h
same_emptiness (empties.Point z) (empties.Point w) h = ap (λ (x : ScaledPoint). HasPoint x) h
same_emptiness (empties.Point z) (empties.OutOfLimits t) h = absurd h
same_emptiness (empties.OutOfLimits t) (empties.Empty k) h = absurd h
same_emptiness (empties.OutOfLimits t) (empties.Point w) h = absurd h
same_emptiness (empties.OutOfLimits t) (empties.OutOfLimits u) h = ap (λ (x : LimitHit). EmptyHitLimit x) (limit_hit_one t u h)

ranking_one : (a c : RankAnswer) → IsSameRankAnswer a c → ranking_of a ≡ ranking_of c
ranking_one (ranks.Ranked n) (ranks.Ranked k) h = ap (λ (x : RankNode). Ranked x) h.0
ranking_one (ranks.Ranked n) (ranks.NoRank g) h = absurd h
ranking_one (ranks.Ranked n) (ranks.OutOfLimits t) h = absurd h
ranking_one (ranks.NoRank g) (ranks.Ranked k) h = absurd h
ranking_one (ranks.NoRank g) (ranks.NoRank w) h = ap (λ (x : Gap). Unranked x) h
ranking_one (ranks.NoRank g) (ranks.OutOfLimits t) h = absurd h
ranking_one (ranks.OutOfLimits t) (ranks.Ranked k) h = absurd h
ranking_one (ranks.OutOfLimits t) (ranks.NoRank g) h = absurd h
ranking_one (ranks.OutOfLimits t) (ranks.OutOfLimits u) h = ap (λ (x : LimitHit). RankHitLimit x) (limit_hit_one t u h)

past_end : {X : Type 0} (xs : List X) (k : ℕ) → length xs ≤ k → slice_get xs k ≡ None
past_end [] k h = refl
past_end (x ∷ xs) zero h = absurd (omega (arith, h))
past_end (x ∷ xs) (suc k) h = past_end xs k (omega (arith, h))

module _ (empties_one : EmptyAnswersAreOne) (ranks_one : RankAnswersAreOne) (p : Program) (pivots : ℕ) where
  module _ (xs ys : List GuardFeasibility) (a : AreEmptyAnswers p pivots xs) (b : AreEmptyAnswers p pivots ys) where
    -- two lists of answers of a program have the same parts for each number
    same_parts : (t : ℕ) → (point_in (answer_for xs t) ≡ point_in (answer_for ys t)) × (limit_hit_in (answer_for xs t) ≡ limit_hit_in (answer_for ys t))
    same_parts zero = (refl, refl)
    same_parts (suc k) = go (slice_get p.rules k) refl
      where
        go : (o : Option Rule) → slice_get p.rules k ≡ o
            → (point_in (slice_get xs k) ≡ point_in (slice_get ys k)) × (limit_hit_in (slice_get xs k) ≡ limit_hit_in (slice_get ys k))
        go (Some r) e =
            let low = slice_get-below p.rules k r e in
            let x = at_some xs k (omega (arith, low, a.one_each)) in
            let y = at_some ys k (omega (arith, low, b.one_each)) in
            let same = parts_one x.0 y.0 (empties_one.each (prepared r) (suc k) pivots x.0 y.0 (a.each (suc k) r x.0 e x.1) (b.each (suc k) r y.0 e y.1)) in
            (ap point_in x.1 ∙ (same.0 ∙ ap point_in (sym y.1)), ap limit_hit_in x.1 ∙ (same.1 ∙ ap limit_hit_in (sym y.1)))
        go None e =
            let high : length p.rules ≤ k = past (order k (length p.rules)) in
            let x = past_end xs k (omega (arith, high, a.one_each)) in
            let y = past_end ys k (omega (arith, high, b.one_each)) in
            (ap point_in (x ∙ sym y), ap limit_hit_in (x ∙ sym y))
          where
            order : (m n : ℕ) → (m < n) ⊎ (n ≤ m)
            order m n = grind arith

            past : (k < length p.rules) ⊎ (length p.rules ≤ k) → length p.rules ≤ k
            past (inl low) = let there = at_some p.rules k low in absurd (some_none there.0 (sym there.1 ∙ e))
            past (inr high) = high

    same_points : (set : List ℕ) → map (λ t. point_in (answer_for xs t)) set ≡ map (λ t. point_in (answer_for ys t)) set
    same_points [] = refl
    same_points (t ∷ set) =
        ap (λ (o : Option ScaledPoint). o ∷ map (λ u. point_in (answer_for xs u)) set) (same_parts t).0
        ∙ ap (λ (os : List (Option ScaledPoint)). point_in (answer_for ys t) ∷ os) (same_points set)

    same_hits_limit : (set : List ℕ) → first_limit_hit xs set ≡ first_limit_hit ys set
    same_hits_limit [] = refl
    same_hits_limit (t ∷ set) =
        ap (λ (o : Option LimitHit). first_of o (first_limit_hit xs set)) (same_parts t).1
        ∙ ap (λ (o : Option LimitHit). first_of (limit_hit_in (answer_for ys t)) o) (same_hits_limit set)

    see_the_same : (set : List ℕ) → SeeTheSame xs ys set
    see_the_same set = record { points = same_points set; hits_limit = same_hits_limit set }

  -- the answer on the emptiness of a rule is unique
  pub emptiness_one : (t : ℕ) (x y : Emptiness) → IsEmptinessOf p pivots t x → IsEmptinessOf p pivots t y → x ≡ y
  emptiness_one t x y (r, numbered, (a, same, is)) (s, there, (b, same_too, is_too)) =
      sym same ∙ (same_emptiness a b (empties_one.each (prepared s) t pivots a b
      (subst (λ (u : Rule). IsEmptyAnswer (prepared u) t pivots a) one_rule is) is_too) ∙ same_too)
    where
      one_rule : r ≡ s
      one_rule = some_same r s (sym numbered ∙ there)

  -- the answer to each rank question is unique
  pub ranking_question_one : (set : List ℕ) (t : ℕ) (shut : List SymbolPlace) (x y : Ranking)
      → IsRankingOf p pivots set t shut x → IsRankingOf p pivots set t shut y → x ≡ y
  ranking_question_one set t shut x y (xs, a, (v, same, is)) (ys, b, (w, same_too, is_too)) =
      sym same ∙ (ranking_one v w (ranks_one.each (ranked_set p set t shut) shut pivots xs ys (see_the_same xs ys a b set) v w is is_too) ∙ same_too)
