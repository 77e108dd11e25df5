use Rattle.std.proofs.Common.{◌∙◌, ◌∷◌, List, sym, ap, map, subst}
use Rattle.std.proofs.lemmas.Result.{IfOk-weaker}
use Rattle.bound_expr.specs.Views.{bound_of}
use Rattle.bound_table.specs.RewriteResult.{answer_of}
use Rattle.cert_types.specs.Views.{result_variable_of, side_bound_of}
use Rattle.cert_types.specs.cert_rules.Nodes.{Proofs, ResultVariable, SideBoundCost}
use Rattle.bound_fixpoint.specs.Keys.{time_key}
use Rattle.bound_fixpoint.specs.Needs.{uses_for}
use Rattle.size_bounds.specs.Tables.{table_of, number_at}
use Rattle.cost_bounds.specs.CostAnswers.{IsFound}
use Rattle.cost_bounds.proofs.FoundCosts.{large-answers, small-answers}
use Rattle.cost_bounds.proofs.bounding.composed.Goals as goal

pub returns-in-Large : goal.returns-in-Large
returns-in-Large c p given =
    large-answers p (table_of c.args.t.now) (number_at c.args.t.now) c.args.cost.now.rule
    (side_bound_of c.args.side_bound)
    c.in-Large.nodes (sym (ap answer_of c.in-Large.is) ∙ c.in_ok-composition.ensures p given)

pub returns-in_ok-uses-in-Rewritten : goal.returns-in_ok-uses-in-Rewritten
returns-in_ok-uses-in-Rewritten c =
    let number = number_at c.args.t.now in
    let t = c.args.cost.now.rule in
    let side_bound = side_bound_of c.args.side_bound in
    IfOk-weaker c.found.result _ _
    (λ a h p given. small-answers p (table_of c.args.t.now) number t side_bound (bound_of c.in-Rewritten.bound)
    (sym (ap answer_of c.in-Rewritten.is) ∙ c.in_ok-composition.ensures p given)
    (map result_variable_of c.in_ok-premises-in-Rewritten.premises.items)
    (c.in_ok-premises-in-Rewritten.ensures ∙ ap (λ (ms : List ResultVariable). time_key t ∷ ms)
    (c.requires.needed p given)) a
    (subst (λ (u : Proofs). IsFound t (SideBoundCost side_bound) u (bound_of c.in-Rewritten.bound) a)
    (c.in_ok-uses-in-Rewritten.ensures ∙ ap (λ (ms : List _). uses_for number (map result_variable_of ms))
    c.deref.ensures.value) h))
    c.found.ensures
