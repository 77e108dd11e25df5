-- Laws of the linear program of a rank question: what it proves of ranking functions.
use Rattle.std.specs.Prelude.{◌≡◌, ℕ, suc, ◌≤◌, ◌<◌, ◌&&◌, nat_eq, if◌then◌else◌, List, [], ◌∷◌, length, slice_index_or}
use Rattle.std.specs.Prelude.{ℤ, pos, ◌+ℤ◌, nat_abs}
use Rattle.std.specs.List.{All}
use Rattle.linear_forms.specs.Forms.{Form}
use Rattle.linear_forms.specs.Certificates.{Implies}
use Rattle.linear_forms.specs.Combinations.{less}
use Rattle.linear_forms.specs.LinearProgram.{IsSolution, IsLeast, IsDual}
use Rattle.linear_forms.specs.Questions.{listed, double, program_of_question}
use Rattle.linear_forms.specs.QuestionLaws.{after, parameters_of, multipliers_by_group}
use Rattle.linear_forms.specs.RuleQuestions.{RuleForms, RankedSet, Coefficient, constant_form, symbols_of_set}
use Rattle.linear_forms.specs.RuleQuestions.{coefficients, rank_question}
use Rattle.linear_forms.specs.Losses.{loss}
use Rattle.rule_forms.specs.Laws.{HasPoint}
use Rattle.rule_forms.specs.Ranking.{Function, Ranks, Fits, NoRank, IsLeastRank}

-- a rule leads between symbols of the program, has a left variable for each place of its source and a new value for
-- each place of its target, and its forms have no coefficient past its unknowns
pub record IsRuleOf (b : RankedSet) (r : RuleForms) : Type 0 where
  pub source : r.source < b.symbols
  pub target : r.target < b.symbols
  pub left : r.left ≡ b.arity r.source
  pub unknowns : r.left ≤ r.unknowns
  pub values : length r.new_values ≡ b.arity r.target
  pub rows_fit : All (λ f. length f.coefs ≤ r.unknowns) r.rows
  pub new_values_fit : All (λ f. length f.coefs ≤ r.unknowns) r.new_values

-- all rules of the set are such rules, and the rule that has to decrease is one of them
pub record IsSetOf (b : RankedSet) : Type 0 where
  pub rules : All (λ t. IsRuleOf b (b.rule t)) b.set
  pub inside : ℕ
  pub at_inside : inside < length b.set
  pub strict : slice_index_or b.set inside 0 ≡ b.strict

-- each rule of the set has a rational point
pub record HavePointsOf (b : RankedSet) : Type 0 where
  pub each : All (λ t. HasPoint (b.rule t).rows) b.set

-- the sum of the parameters for the coefficient of a symbol and a place; the constant is at place 0
abbrev pub coefficient : List Coefficient → (ℕ → ℤ) → ℕ → ℕ → ℤ
coefficient [] v s i = pos 0
coefficient (c ∷ cs) v s i =
    (if nat_eq c.symbol s && nat_eq c.place i then v 0 else pos 0) +ℤ coefficient cs (λ p. v (suc p)) s i

-- the function that parameters represent
abbrev pub function_of : RankedSet → (ℕ → ℤ) → Function
function_of b v s =
    record {
      coefs = listed (b.arity s) (λ j. coefficient (coefficients b (symbols_of_set b)) v s (suc j));
      constant = coefficient (coefficients b (symbols_of_set b)) v s 0;
    }

-- the loss of a function by a rule, less k
abbrev pub lost_by : Function → RuleForms → ℤ → Form
lost_by f r k = loss (f r.source) (f r.target) r.new_values k

-- for each rule of the list, multipliers show that the function's loss by it is at least 0, or at least d for the rule
-- that has to decrease; and the last multipliers show that the function is at least d before that rule
abbrev pub AreImplied : RankedSet → Function → ℤ → List ℕ → List (List ℕ) → Type 0
AreImplied b f d [] [] = ⊥
AreImplied b f d [] (m ∷ []) = Implies (b.rule b.strict).rows m (less (f (b.rule b.strict).source) (constant_form d))
AreImplied b f d [] (m ∷ n ∷ ms) = ⊥
AreImplied b f d (t ∷ ts) [] = ⊥
AreImplied b f d (t ∷ ts) (m ∷ ms) =
    Implies (b.rule t).rows m (lost_by f (b.rule t) (if nat_eq t b.strict then d else pos 0)) × AreImplied b f d ts ms

-- the multipliers that a solution x of the rank question's program gives, for each rule of the set and for the floor
abbrev pub rank_multipliers : RankedSet → (ℕ → ℤ) → List (List ℕ)
rank_multipliers b x =
    multipliers_by_group (after (double (rank_question b).parameters) x) (rank_question b).groups

-- a solution of the rank question's linear program gives a function with coefficient 0 at every shut place, with
-- multipliers of the rules' rows that certify that it ranks the rule; and what they certify holds
pub record SolutionsRank : Type 0 where
  pub shown : (b : RankedSet) (x : ℕ → ℤ) (d : ℤ) → IsSetOf b → IsSolution (program_of_question (rank_question b)) x d
      → AreImplied b (function_of b (parameters_of x)) d b.set (rank_multipliers b x)
  pub fits : (b : RankedSet) (v : ℕ → ℤ) → Fits b (function_of b v)
  pub ranks : (b : RankedSet) (f : Function) (q : ℕ) (ms : List (List ℕ)) → IsSetOf b → 1 ≤ q
      → AreImplied b f (pos q) b.set ms → Ranks b f q

-- if each rule of the set has a point, a dual of the program shows that no function ranks the rule
pub record DualsExcludeRanks : Type 0 where
  pub each : (b : RankedSet) (y : ℕ → ℤ) → IsSetOf b → HavePointsOf b
      → IsDual (program_of_question (rank_question b)) y → NoRank b

-- if each rule of the set has a point, a solution of least cost gives a function of least weight
pub record LeastRanksWeighLeast : Type 0 where
  pub each : (b : RankedSet) (x : ℕ → ℤ) (d : ℤ) → IsSetOf b → HavePointsOf b
      → IsSolution (program_of_question (rank_question b)) x d → IsLeast (program_of_question (rank_question b)) x d
      → IsLeastRank b (function_of b (parameters_of x)) (nat_abs d)
