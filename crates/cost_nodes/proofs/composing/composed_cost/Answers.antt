use Rattle.std.proofs.Common.{◌∙◌, ap}
use Rattle.std.proofs.lemmas.Result.{IfOk-weaker}
use Rattle.bound_table.specs.RewriteResult.{rewritten_within}
use Rattle.model.specs.Bounds.{ProductOf}
use Rattle.cert_types.specs.Views.{side_bound_of}
use Rattle.cert_types.specs.cert_rules.Composed.{both_parts}
use Rattle.cert_types.specs.cert_rules.Known.{known}
use Rattle.cost_nodes.specs.ComposedCosts.{step_over}
use Rattle.cost_nodes.proofs.CostRules.{cost-few, cost-linked, cost-poly}
use Rattle.cost_nodes.proofs.composing.composed_cost.Goals as goal

pub pre-before-requires-clause-graph : goal.pre-before-requires-clause-graph
pre-before-requires-clause-graph g c = (c.requires.cost.0, c.requires.cost.1.graph)

pub pre-before-requires-clause-number : goal.pre-before-requires-clause-number
pre-before-requires-clause-number g c =
    let k = c.args.cost.now in
    let h = c.requires.cost in
    cost-linked h.0 k.rule h.1.rows.costs k.graph.now h.1.graph

pub step_bound-requires-clause-few : goal.step_bound-requires-clause-few
step_bound-requires-clause-few g c =
    let k = c.args.cost.now in
    let h = c.requires.cost in
    cost-few h.0 k.rule k.rows.now h.1.rows h.1.valid c.nonlinear_update-poly.result c.nonlinear_update-poly.ensures

pub returns : goal.returns
returns g c =
    let k = c.args.cost.now in
    let table = g.K.Known.table c.args.known.now in
    IfOk-weaker c.rewrite_within.result _ _
    (λ w h p given. h ∙ ap rewritten_within (c.in_ok-product.ensures
    ∙ (λ i. ProductOf (both_parts ((c.in_ok-time.ensures ∙ ap known c.time.ensures) i)
    ((c.in_ok-step.ensures ∙ (λ j. step_over ((c.nonlinear_update-poly.ensures ∙ cost-poly p k.rule k.rows.now given.rows) j)
    (side_bound_of c.args.side_bound.now) table.size (c.pre-before.ensures p given.graph j))) i)))))
    c.rewrite_within.ensures.outcome
