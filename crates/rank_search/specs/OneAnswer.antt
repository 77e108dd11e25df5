-- A rank question has one answer.
use Rattle.std.specs.Prelude.{◌≡◌, ℕ, List, map}
use Rattle.simplex_core.specs.linear_forms.RuleQuestions.{RankedSet}
use Rattle.cert_types.specs.cert_rules.Gaps.{SymbolPlace}
use Rattle.cert_types.specs.declared.answer.GuardFeasibility.{GuardFeasibility}
use Rattle.cert_types.specs.AnswerViews.{gap_of}
use Rattle.cert_types.specs.Views.{rank_of}
use Rattle.rule_questions.specs.OneEmptyAnswer.{IsSameLimitHit}
use Rattle.rank_search.specs.declared.answer.RankAnswer.{RankAnswer}
use Rattle.rank_search.specs.declared.answer.RankAnswer.TheVariants as ranked
use Rattle.rule_questions.specs.RuleAnswers.{answer_for, point_in}
use Rattle.rank_search.specs.RankAnswers.{first_limit_hit, IsRankAnswer}

-- two lists of answers have the same points for the rules of a set, and the same first limit hit
pub record SeeTheSame (xs ys : List GuardFeasibility) (set : List ℕ) : Type 0 where
  pub points : map (λ t. point_in (answer_for xs t)) set ≡ map (λ t. point_in (answer_for ys t)) set
  pub hits_limit : first_limit_hit xs set ≡ first_limit_hit ys set

-- two answers on ranking functions are the same
abbrev pub IsSameRankAnswer : RankAnswer → RankAnswer → Type 0
IsSameRankAnswer (ranked.Ranked n) (ranked.Ranked k) = (rank_of n ≡ rank_of k) × (n.uses.items ≡ k.uses.items)
IsSameRankAnswer (ranked.Ranked n) (ranked.NoRank g) = ⊥
IsSameRankAnswer (ranked.Ranked n) (ranked.OutOfLimits t) = ⊥
IsSameRankAnswer (ranked.NoRank g) (ranked.Ranked n) = ⊥
IsSameRankAnswer (ranked.NoRank g) (ranked.NoRank h) = gap_of g ≡ gap_of h
IsSameRankAnswer (ranked.NoRank g) (ranked.OutOfLimits t) = ⊥
IsSameRankAnswer (ranked.OutOfLimits t) (ranked.Ranked n) = ⊥
IsSameRankAnswer (ranked.OutOfLimits t) (ranked.NoRank g) = ⊥
IsSameRankAnswer (ranked.OutOfLimits t) (ranked.OutOfLimits u) = IsSameLimitHit t u

-- for a set, its shut places and a number of pivots, there is one answer, whichever list of the rules' answers is given
pub record RankAnswersAreOne : Type 0 where
  pub each : (b : RankedSet) (shut : List SymbolPlace) (pivots : ℕ) (xs ys : List GuardFeasibility)
      → SeeTheSame xs ys b.set
      → (a c : RankAnswer) → IsRankAnswer b shut pivots xs a → IsRankAnswer b shut pivots ys c → IsSameRankAnswer a c
