-- The answers of the searches on the rules of a program within a number of pivots: on feasibility and on ranking.
use Rattle.std.specs.Prelude.{◌≡◌, ℕ, List, Some}
use Rattle.model.specs.Programs.{Program, Rule, rule_at}
use Rattle.guard_prep.specs.Prepared.{prepared}
use Rattle.cert_types.specs.cert_rules.Gaps.{SymbolPlace}
use Rattle.cert_types.specs.declared.answer.GuardFeasibility.{GuardFeasibility}
use Rattle.cert_types.specs.declared.answer.GuardFeasibility.TheVariants as empties
use Rattle.cert_types.specs.declared.answer.LimitHit.{LimitHit}
use Rattle.cert_types.specs.Views.{rank_of}
use Rattle.cert_types.specs.AnswerViews.{scaled_of, gap_of}
use Rattle.rank_search.specs.declared.answer.RankAnswer.{RankAnswer}
use Rattle.rank_search.specs.declared.answer.RankAnswer.TheVariants as ranks
use Rattle.rank_search.specs.rule_questions.ProgramQuestions.{ranked_set}
use Rattle.rank_search.specs.rule_questions.EmptyAnswers.{IsEmptyAnswer}
use Rattle.rank_search.specs.rule_questions.RuleAnswers.{AreEmptyAnswers}
use Rattle.rank_search.specs.RankAnswers.{IsRankAnswer}
use Rattle.bound_fixpoint.specs.Searches.{Emptiness, NoPoint, HasPoint, EmptyHitLimit, Ranking, Ranked, Unranked}
use Rattle.bound_fixpoint.specs.Searches.{RankHitLimit}

-- an answer whether a rule's rows have a point, as plain data
abbrev pub emptiness_of : GuardFeasibility → Emptiness
emptiness_of (empties.Empty n) = NoPoint n.multipliers.items
emptiness_of (empties.Point z) = HasPoint (scaled_of z)
emptiness_of (empties.OutOfLimits t) = EmptyHitLimit t

-- an answer which function ranks a rule, as plain data
abbrev pub ranking_of : RankAnswer → Ranking
ranking_of (ranks.Ranked node) = Ranked (rank_of node)
ranking_of (ranks.NoRank gap) = Unranked (gap_of gap)
ranking_of (ranks.OutOfLimits t) = RankHitLimit t

-- this is the answer on the feasibility of rule t
abbrev pub IsEmptinessOf : Program → ℕ → ℕ → Emptiness → Type 0
IsEmptinessOf p pivots t e = (r : Rule) × (rule_at p t ≡ Some r)
    × ((a : GuardFeasibility) × (emptiness_of a ≡ e) × IsEmptyAnswer (prepared r) t pivots a)

-- the rule is infeasible: its rows have no point, as these multipliers show
abbrev pub IsEmptyRule : Program → ℕ → ℕ → Type 0
IsEmptyRule p pivots t = (multipliers : List ℕ) × IsEmptinessOf p pivots t (NoPoint multipliers)

-- the linear program which asks whether the rows of a rule have a point exceeds this limit
pub record EmptyHitsLimitSo (p : Program) (pivots t : ℕ) (x : LimitHit) : Type 0 where
  pub rule : Rule
  pub numbered : rule_at p t ≡ Some rule
  pub hits_limit : IsEmptyAnswer (prepared rule) t pivots (empties.OutOfLimits x)

-- this is the answer to the rank question of a set, a rule of it and shut places
abbrev pub IsRankingOf : Program → ℕ → List ℕ → ℕ → List SymbolPlace → Ranking → Type 0
IsRankingOf p pivots set t shut r = (empties : List GuardFeasibility) × AreEmptyAnswers p pivots empties
    × ((a : RankAnswer) × (ranking_of a ≡ r) × IsRankAnswer (ranked_set p set t shut) shut pivots empties a)
