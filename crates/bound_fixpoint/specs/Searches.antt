-- The answers of the searches on a program, as relations, so that each search defines itself which answers are its own.
use Rattle.std.specs.Prelude.{◌≡◌, ℕ, List}
use Rattle.rule_questions.specs.cert_rules.Nodes.{ResultVariable, RankNode}
use Rattle.rule_questions.specs.cert_rules.Gaps.{ScaledPoint, SymbolPlace, Gap}
use Rattle.rule_questions.specs.cert_types.declared.answer.LimitHit.{LimitHit}
use Rattle.outcome.specs.Reports.{NoTime, NoSize}
use Rattle.bound_fixpoint.specs.Keys.{Bounds}
use Rattle.bound_fixpoint.specs.Derivations.{Node}

-- why a key has no bound: why a rule has no time, or why a place has no size
pub data NoBound : Type 0 where
  OfTime : NoTime → NoBound
  OfSize : NoSize → NoBound

-- whether the rows of a rule have a rational point: multipliers show that they have none, or one is given, or the
-- linear program exceeded a limit
pub data Emptiness : Type 0 where
  NoPoint : List ℕ → Emptiness
  HasPoint : ScaledPoint → Emptiness
  EmptyHitLimit : LimitHit → Emptiness

-- the outcome of a ranking question: a function, a gap if there is none, or a limit that a linear program hit
pub data Ranking : Type 0 where
  Ranked : RankNode → Ranking
  Unranked : Gap → Ranking
  RankHitLimit : LimitHit → Ranking

-- the outcome for a component: the node that gives its members their size, or why they have none
pub data SizeOutcome : Type 0 where
  SizedBy : Node → SizeOutcome
  Unsized : NoSize → SizeOutcome

-- the answers of the searches: on a rule's emptiness; on a rank question of a set, a rule of it and shut places; the
-- components of the places of live rules; and on a component where these bounds are known
pub record Searches : Type 1 where
  pub Empties : ℕ → Emptiness → Type 0
  pub Ranks : List ℕ → ℕ → List SymbolPlace → Ranking → Type 0
  pub AreComponents : List (List ResultVariable) → Type 0
  pub Sizes : Bounds → List ResultVariable → SizeOutcome → Type 0

-- searches that are functions of their questions
pub record Answers : Type 0 where
  pub empty : ℕ → Emptiness
  pub rank : List ℕ → ℕ → List SymbolPlace → Ranking
  pub components : List (List ResultVariable)
  pub size : Bounds → List ResultVariable → SizeOutcome

-- the answers as relations
abbrev pub searches_of : Answers → Searches
searches_of a = record {
  Empties = λ t e. a.empty t ≡ e;
  Ranks = λ set t shut r. a.rank set t shut ≡ r;
  AreComponents = λ cs. a.components ≡ cs;
  Sizes = λ b keys r. a.size b keys ≡ r;
}
