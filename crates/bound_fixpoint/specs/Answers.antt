-- The targets of queries in a round, and the results of the searches: a derivation, or the reason why there is none.
use Rattle.std.specs.Prelude.{◌≡◌, ℕ, ◌||◌, Bool, false, List, [], ◌∷◌}
use Rattle.rule_questions.specs.model.Bounds.{Bound}
use Rattle.rule_questions.specs.cert_rules.Nodes.{ResultVariable}
use Rattle.rule_questions.specs.cert_rules.Setting.{Setting}
use Rattle.rule_questions.specs.cert_rules.Limits.{IsSmallComposed}
use Rattle.rule_questions.specs.cert_rules.Checks.{large_nodes}
use Rattle.rule_questions.specs.cert_rules.AcceptsRank.{rank_time}
use Rattle.rule_questions.specs.cert_rules.Gaps.{SymbolPlace}
use Rattle.bound_fixpoint.specs.Keys.{Bounds, time_key, at_key, lacks, over}
use Rattle.bound_fixpoint.specs.Derivations.{Node, RankBy, Derivation}
use Rattle.bound_fixpoint.specs.Needs.{needs_of}
use Rattle.bound_fixpoint.specs.Justification.{composed_bound}
use Rattle.bound_fixpoint.specs.Sets.{IsSetOfRule, AreShutOf}
use Rattle.bound_fixpoint.specs.Searches.{Searches, Ranking, Ranked, Unranked, RankHitLimit, SizeOutcome, SizedBy, Unsized}
use Rattle.bound_fixpoint.specs.Searches.{NoBound, OfTime, OfSize}
use Rattle.outcome.specs.Reports.{NoFunction, TimeHitLimit, TimeLarge}

-- the target of a query: the time of a rule, or one size for all these places
pub data Target : Type 0 where
  TimeOf : ℕ → Target
  SizesOf : List ResultVariable → Target

-- the keys that get the bound
abbrev pub keys_asked : Target → List ResultVariable
keys_asked (TimeOf t) = time_key t ∷ []
keys_asked (SizesOf keys) = keys

-- whether some of these keys has no bound
abbrev pub are_open : Bounds → List ResultVariable → Bool
are_open b [] = false
are_open b (k ∷ keys) = lacks (at_key b k) || are_open b keys

-- whether a bound of the target is missing
abbrev pub is_open : Bounds → Target → Bool
is_open b g = are_open b (keys_asked g)

-- a node with its premises, and the bound that it composes; or the reason why there is none
pub data Answer : Type 0 where
  Found : Node → List ResultVariable → Bound → Answer
  Lacks : NoBound → Answer

-- the derivations that an answer gives
abbrev pub derivations_by : Target → Answer → List Derivation
derivations_by g (Found node premises bound) = record { keys = keys_asked g; node = node; premises = premises; bound = bound } ∷ []
derivations_by g (Lacks why) = []

-- the answer for a node over bounds that composes this bound: a derivation of the rewritten bound, if it is small; else
-- that the bound is too large, with its number of nodes
abbrev pub Composes : Setting → Bounds → Node → Bound → Answer → Type 0
Composes s b node whole (Found n premises bound) = IsSmallComposed s.rewrite whole × (n ≡ node)
    × (premises ≡ needs_of s b node) × (bound ≡ s.rewrite whole)
Composes s b node whole (Lacks why) = (¬ (IsSmallComposed s.rewrite whole))
    × (why ≡ OfTime (TimeLarge (large_nodes s.rewrite whole)))

-- the result of an answer to a rank question
abbrev pub AnswersRanking : Setting → Bounds → Ranking → Answer → Type 0
AnswersRanking s b (Ranked node) a = Composes s b (RankBy node) (rank_time s node (over b)) a
AnswersRanking s b (Unranked g) a = a ≡ Lacks (OfTime (NoFunction g))
AnswersRanking s b (RankHitLimit t) a = a ≡ Lacks (OfTime (TimeHitLimit t))

-- the answer to the outcome for a component
abbrev pub AnswersSizing : Setting → Bounds → SizeOutcome → Answer → Type 0
AnswersSizing s b (SizedBy node) a = a ≡ Found node (needs_of s b node) (composed_bound s b node)
AnswersSizing s b (Unsized why) a = a ≡ Lacks (OfSize why)

-- the rank question of rule t over bounds, and its answer
pub record AnsweredQuestion (q : Searches) (s : Setting) (b : Bounds) (t : ℕ) : Type 0 where
  pub set : List ℕ
  pub shut : List SymbolPlace
  pub answer : Ranking
  pub is_set : IsSetOfRule s.program b t set
  pub are_shut : AreShutOf s.program b set shut
  pub answered : q.Ranks set t shut answer

-- rule t was queried over bounds, and this is the result on its time
pub record AnswersTime (q : Searches) (s : Setting) (b : Bounds) (t : ℕ) (a : Answer) : Type 0 where
  pub asked : AnsweredQuestion q s b t
  pub is_answer : AnswersRanking s b asked.answer a

-- places were queried over bounds, and this is the result on their size
pub record AnswersSize (q : Searches) (s : Setting) (b : Bounds) (keys : List ResultVariable) (a : Answer) : Type 0 where
  pub answer : SizeOutcome
  pub answered : q.Sizes b keys answer
  pub is_answer : AnswersSizing s b answer a

-- the result of the searches on a target, over bounds
abbrev pub AnswersTarget : Searches → Setting → Bounds → Target → Answer → Type 0
AnswersTarget q s b (TimeOf t) a = AnswersTime q s b t a
AnswersTarget q s b (SizesOf keys) a = AnswersSize q s b keys a
