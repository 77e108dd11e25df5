-- The status of rules: whether they are known never to run.
use Rattle.std.specs.Prelude.{◌≡◌, ◌↔◌, ℕ, zero, suc, Bool, true, false, cond, List, [], ◌∷◌, length, filter}
use Rattle.std.specs.Prelude.{Option, Some, None, slice_index_or}
use Rattle.std.specs.List.{range_with_len}
use Rattle.model.specs.Programs.{Program}
use Rattle.its_model.specs.declared.program.Rule.{Rule}
use Rattle.cert_types.specs.cert_rules.AcceptsPlain.{IsRule}
use Rattle.cert_types.specs.declared.answer.GuardFeasibility.{GuardFeasibility}
use Rattle.cert_types.specs.declared.answer.GuardFeasibility.TheVariants as answers
use Rattle.rank_search.specs.rule_questions.RuleAnswers.{answer_for}
use Rattle.bound_fixpoint.specs.Searches.{Searches}
use Rattle.bound_fixpoint.specs.Components.{IsEmpty, IsDead}
use Rattle.time_bounds.specs.declared.rule_statuses.RuleStatus.{RuleStatus}
use Rattle.time_bounds.specs.declared.rule_statuses.RuleStatus.TheVariants.{Empty, Unreached, Live}

-- whether an answer is that the rows have no point
abbrev pub says_empty : GuardFeasibility → Bool
says_empty (answers.Empty n) = true
says_empty (answers.Point z) = false
says_empty (answers.OutOfLimits t) = false

abbrev pub is_said_empty : Option GuardFeasibility → Bool
is_said_empty None = false
is_said_empty (Some a) = says_empty a

-- the rules whose answer is that their rows have no point, in order
abbrev pub said_empty : List GuardFeasibility → List ℕ
said_empty empties = filter (λ t. is_said_empty (answer_for empties t)) (range_with_len 1 (length empties))

-- the status of a rule by its answer, and by whether its source is reached
abbrev pub rule_status_of : GuardFeasibility → Bool → RuleStatus
rule_status_of a reached = cond (says_empty a) Empty (cond reached Live Unreached)

-- the statuses of rules, in order
abbrev pub rule_statuses_by : List Bool → List GuardFeasibility → List Rule → List RuleStatus
rule_statuses_by reached [] rules = []
rule_statuses_by reached (a ∷ empties) [] = []
rule_statuses_by reached (a ∷ empties) (r ∷ rules) =
    rule_status_of a (slice_index_or reached r.source false) ∷ rule_statuses_by reached empties rules

-- the status of rule t; rules count from 1
abbrev pub rule_status_at : List RuleStatus → ℕ → RuleStatus
rule_status_at rule_statuses zero = Live
rule_status_at [] (suc t) = Live
rule_status_at (f ∷ rule_statuses) (suc zero) = f
rule_status_at (f ∷ rule_statuses) (suc (suc t)) = rule_status_at rule_statuses (suc t)

abbrev pub is_empty_rule_status : RuleStatus → Bool
is_empty_rule_status Empty = true
is_empty_rule_status Unreached = false
is_empty_rule_status Live = false

abbrev pub is_dead_rule_status : RuleStatus → Bool
is_dead_rule_status Empty = true
is_dead_rule_status Unreached = true
is_dead_rule_status Live = false

-- each rule has its status: infeasible, or else unreached, or live
pub record AreRuleStatuses (q : Searches) (p : Program) (rule_statuses : List RuleStatus) : Type 0 where
  pub one_each : length rule_statuses ≡ length p.rules
  pub empty : (t : ℕ) → IsRule p t → (is_empty_rule_status (rule_status_at rule_statuses t) ≡ true) ↔ IsEmpty q t
  pub dead : (t : ℕ) → IsRule p t
      → (is_dead_rule_status (rule_status_at rule_statuses t) ≡ true) ↔ IsDead p (λ e. is_empty_rule_status (rule_status_at rule_statuses e)) t
