-- The meaning of each answer to which function ranks a rule of a set.
use Rattle.std.specs.Prelude.{◌≡◌, ◌⊎◌, ℕ, suc, List, [], ◌∷◌, ◌++◌, map, ℤ, nat_abs, true}
use Rattle.std.specs.Prelude.{Option, Some, None}
use Rattle.std.specs.List.{All}
use Rattle.simplex_core.specs.linear_forms.Causes.{cause_of}
use Rattle.simplex_core.specs.linear_forms.Forms.{at}
use Rattle.simplex_core.specs.linear_forms.LinearProgram.{LinearProgram, HasSolution}
use Rattle.simplex_core.specs.linear_forms.Questions.{Group, listed, program_of_question}
use Rattle.simplex_core.specs.linear_forms.QuestionLaws.{after, parameters_of}
use Rattle.simplex_core.specs.linear_forms.RuleQuestions.{RankedSet, symbols_of_set, rank_question}
use Rattle.cert_types.specs.rule_forms.Ranking.{Function}
use Rattle.cert_types.specs.rule_forms.RankLaws.{function_of, rank_multipliers}
use Rattle.poly_terms.specs.model.Programs.{Program}
use Rattle.simplex_core.specs.HitsLimit.{HitsLimit, IsScaledSolution, IsScaledDual}
use Rattle.cert_types.specs.cert_rules.AcceptsPlain.{IsRule}
use Rattle.cert_types.specs.cert_rules.Gaps.{ScaledPoint, SymbolPlace, Gap}
use Rattle.cert_types.specs.cert_rules.Nodes.{RankNode, SymbolForm}
use Rattle.poly_terms.specs.model.Entries.{is_in}
use Rattle.cert_types.specs.cert_rules.Numbers.{IsAscending}
use Rattle.cert_types.specs.declared.answer.LimitHit.{LimitHit}
use Rattle.cert_types.specs.declared.answer.Question.TheVariants as asked
use Rattle.cert_types.specs.declared.answer.GuardFeasibility.{GuardFeasibility}
use Rattle.cert_types.specs.AnswerViews.{gap_of}
use Rattle.cert_types.specs.Views.{rank_of}
use Rattle.rule_questions.specs.RuleAnswers.{answer_for, point_in, limit_hit_in}
use Rattle.rank_search.specs.declared.answer.RankAnswer.{RankAnswer}
use Rattle.rank_search.specs.declared.answer.RankAnswer.TheVariants.{Ranked, NoRank, OutOfLimits}
use Rattle.rule_questions.specs.EmptyAnswers.{SaysEmpty}
use Rattle.rule_questions.specs.Programs.{NothingHitsLimit}

-- the set ascends, consists of numbers of rules, and contains the rule that has to decrease
pub record IsRuleSet (p : Program) (set : List ℕ) (strict : ℕ) : Type 0 where
  pub ascending : IsAscending set
  pub rules : All (IsRule p) set
  pub inside : is_in strict set ≡ true

-- no rule of the set is known to have no point
pub record MayAllRun (set : List ℕ) (empties : List GuardFeasibility) : Type 0 where
  pub each : All (λ t. (a : GuardFeasibility) → answer_for empties t ≡ Some a → ¬ SaysEmpty a) set

-- the linear program that asks whether a function ranks the rule
abbrev pub rank_program : RankedSet → LinearProgram
rank_program b = program_of_question (rank_question b)

-- the form of a function at a symbol, as a node stores it
abbrev pub part_at : Function → ℕ → SymbolForm
part_at f s = record { symbol = s; form = f s }

-- the node is read off the solution at which the linear program's sequence of tableaux ends: its function is that of
-- the parameters, over the least common denominator, and its multipliers are those of the groups, the floor's last
pub record IsRankNode (b : RankedSet) (pivots : ℕ) (node : RankNode) : Type 0 where
  pub numbered : node.rule ≡ b.strict
  pub same_set : node.set ≡ b.set
  pub numbers : List ℤ
  pub solution : IsScaledSolution (rank_program b) pivots numbers node.den
  pub forms : node.forms ≡ map (part_at (function_of b (parameters_of (at numbers)))) (symbols_of_set b)
  pub multipliers : node.moves ++ (node.floor ∷ []) ≡ rank_multipliers b (at numbers)
  pub hits_no_limit : NothingHitsLimit (rank_program b) pivots

-- the points of groups in a list of numbers: a numerator for each unknown, and then the denominator
abbrev pub points_of : (ℕ → ℤ) → List Group → List ScaledPoint
points_of y [] = []
points_of y (g ∷ gs) =
    record { parts = listed g.unknowns y; den = nat_abs (y g.unknowns) } ∷ points_of (after (suc g.unknowns) y) gs

-- the gap is read off the dual at which the linear program's sequence of tableaux ends: a move for each rule of the
-- set, and the floor; and it has a kept point for each rule of the set
pub record IsReadOff (b : RankedSet) (shut : List SymbolPlace) (pivots : ℕ) (empties : List GuardFeasibility)
    (g : Gap) : Type 0 where
  pub numbered : g.rule ≡ b.strict
  pub same_set : g.set ≡ b.set
  pub same_shut : g.shut ≡ shut
  pub numbers : List ℤ
  pub den : ℕ
  pub dual : IsScaledDual (rank_program b) pivots numbers den
  pub points : g.moves ++ (g.floor ∷ []) ≡ points_of (at numbers) (rank_question b).groups
  pub kept : map (λ z. Some z) g.kept ≡ map (λ t. point_in (answer_for empties t)) b.set
  pub hits_no_limit : NothingHitsLimit (rank_program b) pivots

-- the answer for a rule is a point
pub record HasPointFor (empties : List GuardFeasibility) (t : ℕ) : Type 0 where
  pub point : ScaledPoint
  pub found : point_in (answer_for empties t) ≡ Some point

-- the first limit hit if there is one, else the second
abbrev pub first_of : Option LimitHit → Option LimitHit → Option LimitHit
first_of None other = other
first_of (Some t) other = Some t

-- the limit hit of the first rule of the set whose feasibility question hit one
abbrev pub first_limit_hit : List GuardFeasibility → List ℕ → Option LimitHit
first_limit_hit empties [] = None
first_limit_hit empties (t ∷ ts) = first_of (limit_hit_in (answer_for empties t)) (first_limit_hit empties ts)

-- the linear program hits a limit, with the reported cause
pub record IsOwnLimitHit (b : RankedSet) (pivots : ℕ) (t : LimitHit) : Type 0 where
  pub question : t.question ≡ asked.Rank b.strict
  pub hits_limit : HitsLimit (rank_program b) pivots (cause_of t.cause)

-- the linear program hits no limit and has no solution, and the feasibility question of a rule of the set hit a limit:
-- the first such limit hit
pub record IsFeasibilityLimitHit (b : RankedSet) (pivots : ℕ) (empties : List GuardFeasibility) (t : LimitHit) : Type 0
  where
    pub hits_no_limit : NothingHitsLimit (rank_program b) pivots
    pub unsolved : ¬ HasSolution (rank_program b)
    pub first : first_limit_hit empties b.set ≡ Some t

-- the meaning of the answer, within a number of pivots: a function that ranks the rule, as a node whose premises are
-- still missing; that there is none, with a gap; or the limit hit of a linear program
abbrev pub IsRankAnswer : RankedSet → List SymbolPlace → ℕ → List GuardFeasibility → RankAnswer → Type 0
IsRankAnswer b shut pivots empties (Ranked node) = IsRankNode b pivots (rank_of node) × (node.uses.items ≡ [])
IsRankAnswer b shut pivots empties (NoRank gap) =
    IsReadOff b shut pivots empties (gap_of gap) × (first_limit_hit empties b.set ≡ None)
IsRankAnswer b shut pivots empties (OutOfLimits t) = IsOwnLimitHit b pivots t ⊎ IsFeasibilityLimitHit b pivots empties t

-- the answer is a function that ranks the rule
abbrev pub SaysRanked : RankAnswer → Type 0
SaysRanked (Ranked node) = Unit {0}
SaysRanked (NoRank gap) = ⊥
SaysRanked (OutOfLimits t) = ⊥

abbrev pub SaysNoRank : RankAnswer → Type 0
SaysNoRank (Ranked node) = ⊥
SaysNoRank (NoRank gap) = Unit {0}
SaysNoRank (OutOfLimits t) = ⊥

abbrev pub SaysHitLimit : RankAnswer → Type 0
SaysHitLimit (Ranked node) = ⊥
SaysHitLimit (NoRank gap) = ⊥
SaysHitLimit (OutOfLimits t) = Unit {0}
