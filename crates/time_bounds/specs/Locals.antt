-- The answers for the places of rules, as lists store them.
use Rattle.std.specs.Prelude.{◌≡◌, ℕ, zero, suc, Bool, true, false, List, [], ◌∷◌, length, Option, Some, None, ⊤}
use Rattle.std.specs.Prelude.{slice_get}
use Rattle.std.specs.List.{All}
use Rattle.model.specs.Programs.{Program, Rule, rule_at, arity_of}
use Rattle.guard_prep.specs.Prepared.{Prepared}
use Rattle.cert_types.specs.cert_rules.Nodes.{ResultVariable}
use Rattle.cert_types.specs.declared.answer.GuardFeasibility.{GuardFeasibility}
use Rattle.local_size.specs.LocalAnswers.{IsLocal, local_answer_of}
use Rattle.local_size.specs.declared.answer.LocalAnswer.{LocalAnswer}
use Rattle.rvg_components.specs.Listing.{answers_for}
use Rattle.time_bounds.specs.declared.rule_statuses.RuleStatus.{RuleStatus}
use Rattle.time_bounds.specs.declared.rule_statuses.RuleStatus.TheVariants.{Empty, Unreached, Live}
use Rattle.time_bounds.specs.ProgramSizes.{IsLocalOf}
use Rattle.bound_fixpoint.specs.Keys.{key}

-- whether a rule of this status is live
abbrev pub is_live_rule_status : RuleStatus → Bool
is_live_rule_status Empty = false
is_live_rule_status Unreached = false
is_live_rule_status Live = true

-- these are the answers for the places of a rule from place i on
abbrev pub AreAnswersAt : Prepared → ℕ → ℕ → GuardFeasibility → ℕ → List LocalAnswer → Type 0
AreAnswersAt m t pivots empty i [] = ⊤
AreAnswersAt m t pivots empty i (a ∷ answers) =
    IsLocal m (key t i) pivots empty (local_answer_of a) × AreAnswersAt m t pivots empty (suc i) answers

-- these are the answers for rule t of a program, where it is live: one for each place of its target
pub record AreAnswersAfter (p : Program) (pivots t : ℕ) (f : RuleStatus) (answers : List LocalAnswer) : Type 0 where
  pub long : (r : Rule) → rule_at p t ≡ Some r → f ≡ Live → length answers ≡ arity_of p r.target
  pub each : (i : ℕ) (a : LocalAnswer) → f ≡ Live → slice_get answers i ≡ Some a
      → IsLocalOf p pivots t (suc i) (local_answer_of a)

-- the same for each rule from rule k on, in order
abbrev pub AreAllAnswers : Program → ℕ → ℕ → List RuleStatus → List (List LocalAnswer) → Type 0
AreAllAnswers p pivots k [] [] = ⊤
AreAllAnswers p pivots k [] (answers ∷ lists) = ⊥
AreAllAnswers p pivots k (f ∷ rule_statuses) [] = ⊥
AreAllAnswers p pivots k (f ∷ rule_statuses) (answers ∷ lists) =
    AreAnswersAfter p pivots k f answers × AreAllAnswers p pivots (suc k) rule_statuses lists

-- the answer for a place after a rule
abbrev pub answer_in : List (List LocalAnswer) → ℕ → ℕ → Option LocalAnswer
answer_in locals t zero = None
answer_in locals t (suc i) = slice_get (answers_for locals t) i

-- each of these places has an answer
abbrev pub AreAnswered : List (List LocalAnswer) → List ResultVariable → Type 0
AreAnswered locals result_variables = All (λ m. (a : LocalAnswer) × (answer_in locals m.rule m.place ≡ Some a)) result_variables
