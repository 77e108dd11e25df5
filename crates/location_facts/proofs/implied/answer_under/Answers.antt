use Rattle.std.proofs.Common.{arith, ap, ◌∙◌, List, map, subst, sym}
use Rattle.std.specs.List.{All}
use Rattle.poly_terms.specs.declared.poly.Row.{Row}
use Rattle.poly_terms.specs.Views.{form_of}
use Rattle.rule_questions.specs.SmallForms.{IsSmall}
use Rattle.rule_questions.proofs.EmptyProblems.{few-unknowns}
use Rattle.rule_questions.proofs.NewValues.{new_values-small}
use Rattle.location_facts.specs.Rows.{row_after}
use Rattle.location_facts.proofs.Writable.{goal-writable-after}
use Rattle.location_facts.proofs.implied.answer_under.Goals as goal

pub row_after-requires : goal.row_after-requires
row_after-requires c =
    subst (All (λ (r : Row). IsSmall (form_of r))) (sym c.deref.ensures.value)
    (new_values-small c.args.prepared_rule.now c.requires.prepared)

pub goal_answer-requires-clause-few_unknowns : goal.goal_answer-requires-clause-few_unknowns
goal_answer-requires-clause-few_unknowns c = omega (arith, few-unknowns c.args.prepared_rule.now c.requires.prepared)

pub goal_answer-requires-clause-goal : goal.goal_answer-requires-clause-goal
goal_answer-requires-clause-goal c =
    goal-writable-after c.args.prepared_rule.now c.requires.prepared c.args.fact (form_of c.in_ok-goal-in-None.goal)
    (c.in_ok-goal-in-None.ensures.same
    ∙ ap (λ (rs : List Row). row_after (map form_of rs) c.args.fact) c.deref.ensures.value)
    c.in_ok-goal-in-None.ensures.small
