-- The result of a round for each rule.
use Rattle.std.specs.Prelude.{◌≡◌, ◌⊎◌, ℕ, suc, true, false, List, [], ◌∷◌, ◌++◌, map, Option, Some, None}
use Rattle.model.specs.Programs.{Program}
use Rattle.bound_expr.specs.Views.{bound_of}
use Rattle.cert_types.specs.declared.answer.GuardFeasibility.{GuardFeasibility}
use Rattle.cert_types.specs.declared.gap.Gap.{Gap}
use Rattle.cert_types.specs.cert_program.Setting.{setting_of}
use Rattle.cert_types.specs.Views.{rank_of, result_variable_of}
use Rattle.bound_fixpoint.specs.Keys.{Bounds, is_untimed, time_key}
use Rattle.bound_fixpoint.specs.Derivations.{Derivation, RankBy}
use Rattle.bound_fixpoint.specs.Searches.{NoBound}
use Rattle.bound_fixpoint.specs.Answers as told
use Rattle.bound_fixpoint.specs.Answers.{Lacks, AnswersRanking, AnswersTime}
use Rattle.time_bounds.specs.declared.asking.AnsweredRankQuestion.{AnsweredRankQuestion}
use Rattle.time_bounds.specs.declared.tried_rules.RuleAttempt.{RuleAttempt}
use Rattle.time_bounds.specs.declared.tried_rules.RuleAttempt.TheVariants.{Known, Found, Missing}
use Rattle.time_bounds.specs.Numbered.{EachNumbered}
use Rattle.time_bounds.specs.ProgramRules.{ranking_of}
use Rattle.time_bounds.specs.ProgramSearches.{searches_of_program}
use Rattle.time_bounds.specs.Questions.{AnswersQuestion, IsAsked}

-- the rule's question was answered over bounds, and the answer gives no time
pub record IsMissing (p : Program) (b : Bounds) (pivots : ℕ) (empties : List GuardFeasibility) (t : ℕ) (a : AnsweredRankQuestion)
    : Type 0 where
  pub asked : IsAsked p b t a
  pub answered : AnswersQuestion p pivots empties t a
  pub why : NoBound
  pub is_answer : AnswersRanking (setting_of p) b (ranking_of a.answer) (Lacks why)

-- a round's result for rule t over bounds is right: the rule had a time; or it had none, and the answer to its question
-- gives this time, or none
abbrev pub IsTried : Program → Bounds → ℕ → List GuardFeasibility → ℕ → RuleAttempt → Type 0
IsTried p b pivots empties t Known = is_untimed b t ≡ false
IsTried p b pivots empties t (Found node premises bound) = (is_untimed b t ≡ true)
    × AnswersTime (searches_of_program p pivots) (setting_of p) b t
    (told.Found (RankBy (rank_of node)) (map result_variable_of premises.items) (bound_of bound))
IsTried p b pivots empties t (Missing a) = (is_untimed b t ≡ true) × IsMissing p b pivots empties t a

-- the same for each rule from rule k on, in order
abbrev pub AreTried : Program → Bounds → ℕ → List GuardFeasibility → ℕ → List RuleAttempt → Type 0
AreTried p b pivots empties k tries = EachNumbered (IsTried p b pivots empties) k tries

-- the derivation of rule t, where its time was found; and those of these rules from t on
abbrev pub derivation_in : ℕ → RuleAttempt → List Derivation
derivation_in t Known = []
derivation_in t (Found node premises bound) = record {
  keys = time_key t ∷ [];
  node = RankBy (rank_of node);
  premises = map result_variable_of premises.items;
  bound = bound_of bound;
} ∷ []
derivation_in t (Missing a) = []

abbrev pub derivations_in : ℕ → List RuleAttempt → List Derivation
derivations_in t [] = []
derivations_in t (x ∷ tries) = derivation_in t x ++ derivations_in (suc t) tries

-- the query of a rule whose time is missing
abbrev pub kept_in : RuleAttempt → Option AnsweredRankQuestion
kept_in Known = None
kept_in (Found node premises bound) = None
kept_in (Missing a) = Some a

-- for rule t there is a query over some bounds, with which its time was missing, as it still is; or there is none, and
-- its time is known with the later bounds
abbrev pub IsAskedOver : Program → Bounds → Bounds → ℕ → List GuardFeasibility → ℕ → Option AnsweredRankQuestion → Type 0
IsAskedOver p b later pivots empties t None = is_untimed later t ≡ false
IsAskedOver p b later pivots empties t (Some a) = (is_untimed b t ≡ true) × IsMissing p b pivots empties t a

-- the same for each rule from k on, in order
abbrev pub AreAskedOver : Program → Bounds → Bounds → ℕ → List GuardFeasibility → ℕ → List (Option AnsweredRankQuestion) → Type 0
AreAskedOver p b later pivots empties k asked = EachNumbered (IsAskedOver p b later pivots empties) k asked

-- a list of gaps stays as it is, or has one more
abbrev pub IsGrown : List Gap → List Gap → Type 0
IsGrown old new = (new ≡ old) ⊎ ((g : Gap) × (new ≡ old ++ g ∷ []))
