-- The questions about rules are well formed: their forms have no coefficient past their unknowns, and there is a goal,
-- a size and a height for each parameter.
use Rattle.std.specs.Prelude.{◌≡◌, ℕ, ◌≤◌, List, length}
use Rattle.std.specs.List.{All}
use Rattle.linear_forms.specs.Forms.{Form}
use Rattle.linear_forms.specs.Questions.{IsShaped}
use Rattle.linear_forms.specs.RuleQuestions.{RuleForms, RankedSet, empty_question, rank_question, local_question}

-- the rows and new values of a rule have no coefficient past its unknowns, and its left variables are among these
pub record IsRuleShaped (r : RuleForms) : Type 0 where
  pub left_fits : r.left ≤ r.unknowns
  pub rows_fit : All (λ f. length f.coefs ≤ r.unknowns) r.rows
  pub new_values_fit : All (λ f. length f.coefs ≤ r.unknowns) r.new_values

-- each rule is shaped, and has a left variable for each place of its source
pub record AreRulesShaped (b : RankedSet) : Type 0 where
  pub each : (t : ℕ) → IsRuleShaped (b.rule t)
  pub left : (t : ℕ) → (b.rule t).left ≡ b.arity (b.rule t).source

-- the questions are shaped
pub record RuleQuestionsAreShaped : Type 0 where
  pub empty : (r : RuleForms) → IsRuleShaped r → IsShaped (empty_question r)
  pub rank : (b : RankedSet) → AreRulesShaped b → IsShaped (rank_question b)
  pub local : (r : RuleForms) (w fixed : Form) (places : List ℕ) → IsRuleShaped r → length w.coefs ≤ r.unknowns
      → length fixed.coefs ≤ r.unknowns
      → All (λ i. i ≤ r.left) places → IsShaped (local_question r w places fixed)
