-- The context of an analysis, and the questions about rules.
use Rattle.std.specs.Prelude.{◌≡◌, ℕ, suc, ◌≤◌, List, [], ◌∷◌, length, Bool, false, Option, Some, None}
use Rattle.std.specs.Prelude.{slice_index_or, ⊤}
use Rattle.model.specs.Programs.{Program}
use Rattle.guard_prep.specs.declared.rule_rows.RuleRows.{RuleRows}
use Rattle.guard_prep.specs.Views.{prepared_of}
use Rattle.its_graph.specs.Graphs.{IsGraphOf}
use Rattle.its_model.specs.Valid.{IsValid}
use Rattle.its_model.specs.Views.{program_of}
use Rattle.cert_types.specs.declared.answer.GuardFeasibility.{GuardFeasibility}
use Rattle.cert_types.specs.Composing.{AreRowsOf}
use Rattle.std.specs.List.{All}
use Rattle.cert_types.specs.Sizes.{IsShort}
use Rattle.rank_search.specs.declared.answer.RankAnswer.{RankAnswer}
use Rattle.rank_search.specs.declared.answer.RankAnswer.TheVariants as ranks
use Rattle.rank_search.specs.rule_questions.EmptyAnswers.{IsEmptyAnswer, SaysEmpty}
use Rattle.rank_search.specs.rule_questions.RuleAnswers.{AreEmptyAnswers, answer_for}
use Rattle.rank_search.specs.RankAnswers.{IsRankAnswer}
use Rattle.rank_search.specs.rule_questions.ProgramQuestions.{ranked_set, places_of}
use Rattle.bound_fixpoint.specs.Keys.{Bounds, is_untimed}
use Rattle.bound_fixpoint.specs.Sets.{IsSetOfRule, AreShutOf}
use Rattle.size_bounds.specs.Tables.{bounds_in}
use Rattle.time_bounds.specs.declared.asking.AnsweredRankQuestion.{AnsweredRankQuestion}
use Rattle.time_bounds.specs.declared.context.Context.{Context}
use Rattle.size_bounds.specs.declared.table.Table.{Table}

-- the answers for these rows, those of rule k and of the rules after it, in order
abbrev pub AreAnswersFrom : ℕ → ℕ → List RuleRows → List GuardFeasibility → Type 0
AreAnswersFrom pivots k [] [] = ⊤
AreAnswersFrom pivots k [] (a ∷ answers) = ⊥
AreAnswersFrom pivots k (m ∷ prepared_rules) [] = ⊥
AreAnswersFrom pivots k (m ∷ prepared_rules) (a ∷ answers) =
    IsEmptyAnswer (prepared_of m) k pivots a × AreAnswersFrom pivots (suc k) prepared_rules answers

-- the program that is analysed
abbrev pub program_in : Context → Program
program_in cx = program_of cx.program.now

-- the program is valid, and the graph, the rows and the answers are those of the program
pub record BelongsTogether (cx : Context) : Type 0 where
  pub valid : IsValid (program_in cx)
  pub graph : IsGraphOf cx.graph (program_in cx)
  pub rows : AreRowsOf cx.prepared_rules.items (program_in cx)
  pub empties : AreEmptyAnswers (program_in cx) cx.pivots cx.empties.items

-- the flags of the virtual entry and of all rules say which have no time
pub record AreUntimed (p : Program) (tab : Table) (flags : List Bool) : Type 0 where
  pub one_each : length flags ≡ suc (length p.rules)
  pub each : (t : ℕ) → t ≤ length p.rules → slice_index_or flags t false ≡ is_untimed (bounds_in tab) t

-- each rule whose rows are known to have no point has a time
pub record KnowsEmpty (p : Program) (tab : Table) (empties : List GuardFeasibility) : Type 0 where
  pub each : (t : ℕ) (a : GuardFeasibility) → answer_for empties t ≡ Some a → SaysEmpty a
      → is_untimed (bounds_in tab) t ≡ false

-- a node that was found has a denominator of at least 1, and forms with few coefficients
abbrev pub HasShape : RankAnswer → Type 0
HasShape (ranks.Ranked node) = (1 ≤ node.den) × All IsShort node.forms.items
HasShape (ranks.NoRank gap) = ⊤
HasShape (ranks.OutOfLimits t) = ⊤

-- the answer is one to the question of this set and these shut places
pub record AnswersQuestion (p : Program) (pivots : ℕ) (empties : List GuardFeasibility) (t : ℕ) (a : AnsweredRankQuestion) : Type 0 where
  pub answer : IsRankAnswer (ranked_set p a.set.items t (places_of a.shut.items)) (places_of a.shut.items) pivots
      empties
      a.answer
  pub shape : HasShape a.answer

-- this is the earlier question, of this set and these shut places
pub record IsSameQuestion (before : Option AnsweredRankQuestion) (set : List ℕ) (shut : List (ℕ × ℕ)) (a : AnsweredRankQuestion) : Type 0 where
  pub asked : before ≡ Some a
  pub same_set : a.set.items ≡ set
  pub same_shut : a.shut.items ≡ shut

-- the question's set and shut places are those of the rule
pub record IsAsked (p : Program) (b : Bounds) (t : ℕ) (a : AnsweredRankQuestion) : Type 0 where
  pub set : IsSetOfRule p b t a.set.items
  pub shut : AreShutOf p b a.set.items (places_of a.shut.items)

-- for each rule from rule k on a question that was answered, or none
abbrev pub AreAnsweredFrom : Program → ℕ → List GuardFeasibility → ℕ → List (Option AnsweredRankQuestion) → Type 0
AreAnsweredFrom p pivots empties k [] = ⊤
AreAnsweredFrom p pivots empties k (None ∷ kept) = AreAnsweredFrom p pivots empties (suc k) kept
AreAnsweredFrom p pivots empties k (Some a ∷ kept) =
    AnswersQuestion p pivots empties k a × AreAnsweredFrom p pivots empties (suc k) kept

-- a table of a program, as rounds use it: it has a time or none for the virtual entry and for each rule; that of the
-- virtual entry is known, and so is that of each infeasible rule
pub record IsTable (p : Program) (tab : Table) (empties : List GuardFeasibility) : Type 0 where
  pub one_each : length tab.times.items ≡ suc (length p.rules)
  pub start : is_untimed (bounds_in tab) 0 ≡ false
  pub empty : KnowsEmpty p tab empties
