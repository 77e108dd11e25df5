-- Why a rule has no time, as sentences about the program.
use Rattle.std.specs.Prelude.{◌≡◌, ◌⊎◌, ℕ, List, [], ◌∷◌}
use Rattle.model.specs.Programs.{Program}
use Rattle.its_model.specs.linear_forms.LinearProgram.{HasSolution}
use Rattle.its_model.specs.linear_forms.RuleQuestions.{RankedSet}
use Rattle.outcome.specs.Reports.{NoTime, NoFunction, TimeHitLimit, TimeLarge}
use Rattle.cert_types.specs.rule_forms.Ranking.{NoRank}
use Rattle.cert_types.specs.cert_rules.AcceptsRank.{rank_time}
use Rattle.cert_types.specs.cert_rules.Checks.{large_nodes}
use Rattle.cert_types.specs.cert_rules.GapChecks.{GapHolds}
use Rattle.cert_types.specs.cert_rules.Gaps.{SymbolPlace, Gap}
use Rattle.cert_types.specs.cert_rules.Limits.{IsSmallComposed}
use Rattle.cert_types.specs.cert_rules.Nodes.{RankNode}
use Rattle.cert_types.specs.cert_program.Setting.{setting_of}
use Rattle.cert_types.specs.declared.answer.LimitHit.{LimitHit}
use Rattle.rank_search.specs.RankAnswers.{rank_program, IsRankNode, IsOwnLimitHit}
use Rattle.rank_search.specs.rule_questions.ProgramQuestions.{forms_at, ranked_set}
use Rattle.rank_search.specs.rule_questions.Programs.{NothingHitsLimit}
use Rattle.bound_fixpoint.specs.Keys.{Bounds, over}
use Rattle.bound_fixpoint.specs.Right.{IsRanking}
use Rattle.bound_fixpoint.specs.Sets.{IsSetOfRule, AreShutOf}
use Rattle.time_bounds.specs.ProgramRules.{EmptyHitsLimitSo}

-- of these rules there is a first one for which the linear program that asks for a point exceeds a limit: it passes
-- this one
abbrev pub FirstHitsLimitSo : Program → ℕ → List ℕ → LimitHit → Type 0
FirstHitsLimitSo p pivots [] x = ⊥
FirstHitsLimitSo p pivots (t ∷ ts) x = EmptyHitsLimitSo p pivots t x
    ⊎ (((y : LimitHit) → ¬ (EmptyHitsLimitSo p pivots t y)) × FirstHitsLimitSo p pivots ts x)

-- with these known bounds, a function is searched over this set, with coefficient 0 at these places: the set contains
-- the rule, and each rule without a time from where a path of such rules leads to it; and a place of a symbol is shut
-- if some entry of the set leads to the symbol and has no size there
pub record IsSought (p : Program) (b : Bounds) (t : ℕ) (set : List ℕ) (shut : List SymbolPlace) : Type 0 where
  pub is_set : IsSetOfRule p b t set
  pub are_shut : AreShutOf p b set shut

-- no affine function of the arguments that aren't shut ranks the rule over the rational points of the linear parts of
-- the guards of its set; there a new value of degree 2 or more counts as a variable of its own, which may be any
-- number, and comparisons of degree 2 or more are ignored. The points of the gap, which is of exactly this set and
-- these shut places, show it
pub record NoFunctionRanks (p : Program) (b : Bounds) (t : ℕ) (g : Gap) : Type 0 where
  pub rule : g.rule ≡ t
  pub sought : IsSought p b t g.set g.shut
  pub none : NoRank (ranked_set p g.set t g.shut)
  pub shown : GapHolds p (forms_at p) g

-- the linear program of a rank question exceeds no limit and has no solution, but it isn't known of each rule of the
-- set that it has a point, and without that no function is excluded: the linear program for a point of the first such
-- rule exceeds this limit
pub record PointsLimitHitSo (p : Program) (pivots : ℕ) (b : RankedSet) (x : LimitHit) : Type 0 where
  pub hits_no_limit : NothingHitsLimit (rank_program b) pivots
  pub unsolved : ¬ (HasSolution (rank_program b))
  pub first : FirstHitsLimitSo p pivots b.set x

-- the linear program which asks for a function that ranks the rule exceeds this limit, or one of those for points does
pub record RankHitsLimitSo (p : Program) (pivots : ℕ) (b : Bounds) (t : ℕ) (x : LimitHit) : Type 0 where
  pub set : List ℕ
  pub shut : List SymbolPlace
  pub sought : IsSought p b t set shut
  pub hits_limit : IsOwnLimitHit (ranked_set p set t shut) pivots x ⊎ PointsLimitHitSo p pivots (ranked_set p set t shut) x

-- the function of least weight at which the simplex method ends ranks the rule, and uses only arguments that aren't
-- shut; but the time that it composes of known times and sizes is too large, with this many nodes
pub record TimeIsLarge (p : Program) (pivots : ℕ) (b : Bounds) (t n : ℕ) : Type 0 where
  pub set : List ℕ
  pub shut : List SymbolPlace
  pub sought : IsSought p b t set shut
  pub node : RankNode
  pub ranks : IsRanking (setting_of p) set t shut node
  pub found : IsRankNode (ranked_set p set t shut) pivots node
  pub large : ¬ (IsSmallComposed (setting_of p).rewrite (rank_time (setting_of p) node (over b)))
  pub nodes : n ≡ large_nodes (setting_of p).rewrite (rank_time (setting_of p) node (over b))

-- what each reason says of a rule without a time, where these bounds are known
abbrev pub HasNoTime : Program → ℕ → Bounds → ℕ → NoTime → Type 0
HasNoTime p pivots b t (NoFunction g) = NoFunctionRanks p b t g
HasNoTime p pivots b t (TimeHitLimit x) = RankHitsLimitSo p pivots b t x
HasNoTime p pivots b t (TimeLarge n) = TimeIsLarge p pivots b t n
