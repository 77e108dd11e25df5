-- Laws of the answers on ranking functions.
use Rattle.std.specs.Prelude.{◌≡◌, ◌↔◌, ◌≢◌, ◌⊎◌, ℕ, suc, List, length, true, pos, ◌<◌, Some, None}
use Rattle.simplex_core.specs.linear_forms.Forms.{at}
use Rattle.simplex_core.specs.linear_forms.LinearProgram.{HasSolution}
use Rattle.simplex_core.specs.linear_forms.QuestionLaws.{parameters_of}
use Rattle.simplex_core.specs.linear_forms.RuleQuestions.{RankedSet, has_symbol}
use Rattle.cert_types.specs.rule_forms.Ranking.{Function, Ranks, Fits, NoRank, IsLeastRank}
use Rattle.cert_types.specs.rule_forms.RankLaws.{HavePointsOf, function_of}
use Rattle.poly_terms.specs.model.Programs.{Program}
use Rattle.its_model.specs.Valid.{IsValid}
use Rattle.poly_terms.specs.model.Entries.{is_in, IsEntry}
use Rattle.cert_types.specs.cert_rules.AcceptsRank.{at_target, rank_time, HasRankShape, Loses, HasFloor, AcceptsRank}
use Rattle.cert_types.specs.cert_rules.Composed.{rank_form}
use Rattle.cert_types.specs.cert_rules.Gaps.{SymbolPlace, is_shut}
use Rattle.cert_types.specs.cert_rules.Known.{IsKnown, Table}
use Rattle.cert_types.specs.cert_rules.Limits.{IsSmallComposed}
use Rattle.cert_types.specs.cert_rules.Nodes.{RankNode}
use Rattle.cert_types.specs.cert_rules.Setting.{Setting}
use Rattle.cert_types.specs.cert_program.GapLaws.{IsFoundGap}
use Rattle.cert_types.specs.cert_program.Setting.{setting_of}
use Rattle.cert_types.specs.AnswerViews.{gap_of}
use Rattle.cert_types.specs.declared.answer.GuardFeasibility.{GuardFeasibility}
use Rattle.cert_types.specs.declared.gap.Gap.{Gap}
use Rattle.rank_search.specs.declared.answer.RankAnswer.{RankAnswer}
use Rattle.rank_search.specs.declared.answer.RankAnswer.TheVariants as answers
use Rattle.rule_questions.specs.ProgramQuestions.{ranked_set}
use Rattle.rule_questions.specs.Programs.{NothingHitsLimit}
use Rattle.rank_search.specs.RankAnswers.{IsRuleSet, rank_program, IsRankNode, IsRankAnswer}
use Rattle.rule_questions.specs.RuleAnswers.{AreEmptyAnswers}
use Rattle.rank_search.specs.RankAnswers.{first_limit_hit, SaysRanked, SaysNoRank, SaysHitLimit}

-- the function that a node is read off
abbrev pub function_of_node : (b : RankedSet) (pivots : ℕ) (node : RankNode) → IsRankNode b pivots node → Function
function_of_node b pivots node n = function_of b (parameters_of (at n.numbers))

-- the premises that a node needs: a runtime bound of each entry, and the sizes there of the places with nonzero
-- coefficients, which compose a small bound
pub record HoldsFacts (s : Setting) (table : Table) (node : RankNode) : Type 0 where
  pub times : (e : ℕ) → IsEntry s.program node.set e → IsKnown (table.time e)
  pub sizes : (e : ℕ) → IsEntry s.program node.set e → (j : ℕ) → at (at_target s.program node e).coefs j ≢ pos 0
      → IsKnown (table.size e (suc j))
  pub small : IsSmallComposed s.rewrite (rank_time s node table)

-- a found node has, at each symbol of the set, the form of a function; this function has coefficient 0 at every shut
-- place and ranks the rule with the node's denominator, on all rational points; and if each rule of the set has a
-- point, no such function weighs less
pub record RankedNodesRank : Type 0 where
  pub parts : (b : RankedSet) (pivots : ℕ) (node : RankNode) (n : IsRankNode b pivots node) (s : ℕ)
      → has_symbol b s ≡ true → s < b.symbols → rank_form node.forms (Some s) ≡ function_of_node b pivots node n s
  pub fits : (b : RankedSet) (pivots : ℕ) (node : RankNode) (n : IsRankNode b pivots node)
      → Fits b (function_of_node b pivots node n)
  pub ranks : (p : Program) (set : List ℕ) (strict : ℕ) (shut : List SymbolPlace) (pivots : ℕ) (node : RankNode)
      → IsValid p → IsRuleSet p set strict → (n : IsRankNode (ranked_set p set strict shut) pivots node)
      → Ranks (ranked_set p set strict shut) (function_of_node (ranked_set p set strict shut) pivots node n) node.den
  pub least : (p : Program) (set : List ℕ) (strict : ℕ) (shut : List SymbolPlace) (pivots : ℕ) (node : RankNode)
      → IsValid p → IsRuleSet p set strict → (n : IsRankNode (ranked_set p set strict shut) pivots node)
      → HavePointsOf (ranked_set p set strict shut)
      → IsLeastRank (ranked_set p set strict shut) (function_of_node (ranked_set p set strict shut) pivots node n)
      node.den

-- the conditions of acceptance that don't concern premises: the node has its shape, and its multipliers show its moves
-- and its floor
pub record HasCertificates (s : Setting) (node : RankNode) : Type 0 where
  pub shape : HasRankShape s node
  pub moves : (t : ℕ) → is_in t node.set ≡ true → Loses s node t
  pub floor : HasFloor s node

-- a found node is certified, and accepted once its premises are available; and at each symbol of the set it has
-- coefficient 0 at every shut place
pub record RankedNodesAreAccepted : Type 0 where
  pub shown : (p : Program) (set : List ℕ) (strict : ℕ) (shut : List SymbolPlace) (pivots : ℕ) (node : RankNode)
      → IsValid p → IsRuleSet p set strict → IsRankNode (ranked_set p set strict shut) pivots node
      → HasCertificates (setting_of p) node
  pub shut : (p : Program) (set : List ℕ) (strict : ℕ) (shut : List SymbolPlace) (pivots : ℕ) (node : RankNode)
      (s j : ℕ)
      → IsRankNode (ranked_set p set strict shut) pivots node → has_symbol (ranked_set p set strict shut) s ≡ true
      → s < length p.symbols → is_shut shut s (suc j) ≡ true → at (rank_form node.forms (Some s)).coefs j ≡ pos 0
  pub each : (p : Program) (set : List ℕ) (strict : ℕ) (shut : List SymbolPlace) (pivots : ℕ) (node : RankNode)
      → IsValid p → IsRuleSet p set strict → IsRankNode (ranked_set p set strict shut) pivots node
      → (table : Table) → HoldsFacts (setting_of p) table node → AcceptsRank (setting_of p) table node

-- each answer is given exactly in its case: `Ranked` if the linear program has a solution and hits no limit; `NoRank`
-- if no function ranks the rule, the linear program hits no limit, and no feasibility question of the set hit one; and
-- `OutOfLimits` if the linear program hits a limit, or has no solution and the feasibility question of a rule of the
-- set hit one
pub record RankAnswersAreExact : Type 0 where
  pub ranked : (b : RankedSet) (shut : List SymbolPlace) (pivots : ℕ) (empties : List GuardFeasibility) (a : RankAnswer)
      → IsRankAnswer b shut pivots empties a
      → SaysRanked a ↔ (HasSolution (rank_program b) × NothingHitsLimit (rank_program b) pivots)
  pub none : (p : Program) (set : List ℕ) (strict : ℕ) (shut : List SymbolPlace) (pivots : ℕ)
      (empties : List GuardFeasibility) (a : RankAnswer)
      → IsValid p → IsRuleSet p set strict → AreEmptyAnswers p pivots empties
      → IsRankAnswer (ranked_set p set strict shut) shut pivots empties a
      → SaysNoRank a
      ↔ (NoRank (ranked_set p set strict shut) × NothingHitsLimit (rank_program (ranked_set p set strict shut)) pivots
      × (first_limit_hit empties set ≡ None))
  pub hit_limit : (b : RankedSet) (shut : List SymbolPlace) (pivots : ℕ) (empties : List GuardFeasibility)
      (a : RankAnswer)
      → IsRankAnswer b shut pivots empties a
      → SaysHitLimit a
      ↔ ((¬ NothingHitsLimit (rank_program b) pivots)
      ⊎ (NothingHitsLimit (rank_program b) pivots × (¬ HasSolution (rank_program b))
      × ¬ (first_limit_hit empties b.set ≡ None)))

-- a `NoRank` answer has a gap with the given set, strict rule and shut places, and it holds
pub record FoundGapsHold : Type 0 where
  pub each : (p : Program) (set : List ℕ) (strict : ℕ) (shut : List SymbolPlace) (pivots : ℕ)
      (empties : List GuardFeasibility) (g : Gap)
      → IsValid p → IsRuleSet p set strict → AreEmptyAnswers p pivots empties
      → IsRankAnswer (ranked_set p set strict shut) shut pivots empties (answers.NoRank g)
      → IsFoundGap p set strict shut (gap_of g)
