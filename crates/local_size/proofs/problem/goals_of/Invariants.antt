use Rattle.std.proofs.Common.{◌≡◌, map, take}
use Rattle.simplex_core.specs.linear_forms.RuleQuestions.{before_rule}
use Rattle.lp_builder.specs.Descriptions.{goal_forms}
use Rattle.rule_questions.proofs.GoalForms.{Ascend}
use Rattle.local_size.specs.Asking.{AreWritableWithin}
use Rattle.local_size.proofs.problem.goals_of.Given as goal

-- the goals are those of the places so far
abbrev pub invariant-loop-parameter : goal.invariant-loop-parameter
invariant-loop-parameter l = record {
  goals : goal_forms 0 l.parameter l.goals.items ≡ map before_rule (take l.parameter l.places);
  listed : Ascend 0 l.parameter l.goals.items;
  writable : AreWritableWithin l.places l.goals.items;
}
