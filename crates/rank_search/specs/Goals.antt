-- The groups of a rank question, and the goals of each.
use Rattle.std.specs.Prelude.{◌≡◌, ℕ, ◌≤◌, Bool, true, false, List, length, map, take}
use Rattle.std.specs.List.{All}
use Rattle.simplex_core.specs.linear_forms.Forms.{Form}
use Rattle.simplex_core.specs.linear_forms.Certificates.{minus_one}
use Rattle.simplex_core.specs.linear_forms.Combinations.{form_sum, zero_form}
use Rattle.simplex_core.specs.linear_forms.Questions.{Group}
use Rattle.simplex_core.specs.linear_forms.RuleQuestions.{RuleForms, Coefficient, opposite, at_source, at_target}
use Rattle.lp_builder.specs.declared.description.Goal.{Goal}
use Rattle.lp_builder.specs.Descriptions.{goal_forms, IsWritable}
use Rattle.poly_terms.specs.Views.{form_of}
use Rattle.rule_questions.specs.AscendingGoals.{Ascend}
use Rattle.rank_search.specs.declared.coefficients.Coefficient.{Coefficient as Sought}
use Rattle.rank_search.specs.declared.goals.Part.{Part}
use Rattle.rank_search.specs.declared.goals.Part.TheVariants.{Move, Fall, Floor}
use Rattle.rank_search.specs.Coefficients.{coefficient_of}

-- the factor of a coefficient in what a group has to show: in the decrease by the rule, or in the function before it
abbrev pub goal_form : Part → RuleForms → Coefficient → Form
goal_form Move r c = form_sum (at_source r c) (opposite (at_target r c))
goal_form Fall r c = form_sum (at_source r c) (opposite (at_target r c))
goal_form Floor r c = at_source r c

-- the least amount that a group has to show, negated
abbrev pub fixed_form : Part → Form
fixed_form Move = zero_form
fixed_form Fall = minus_one
fixed_form Floor = minus_one

-- the group of a rule
abbrev pub part_group : Part → RuleForms → List Coefficient → Group
part_group part r cs = record {
  unknowns = r.unknowns;
  rows = r.rows;
  goals = map (goal_form part r) cs;
  fixed = fixed_form part;
}

-- what the group of a rule of the set has to show, depending on whether the rule has to decrease
abbrev pub part_for : Bool → Part
part_for true = Fall
part_for false = Move

-- the goals of a rule have no coefficient past its unknowns
pub record Fits (part : Part) (r : RuleForms) (cs : List Coefficient) : Type 0 where
  pub each : All (λ c. length (goal_form part r c).coefs ≤ r.unknowns) cs

-- the goals of a rule for the first n coefficients, which can be written over its unknowns
pub record AreGoalsUpTo (part : Part) (r : RuleForms) (cs : List Sought) (n : ℕ) (gs : List Goal) : Type 0 where
  pub forms : goal_forms 0 n gs ≡ map (λ c. goal_form part r (coefficient_of c)) (take n cs)
  pub listed : Ascend 0 n gs
  pub writable : All (λ g. IsWritable r.unknowns (form_of g.form)) gs
