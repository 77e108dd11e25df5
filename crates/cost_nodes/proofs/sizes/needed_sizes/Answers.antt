use Rattle.std.proofs.Common.{◌<◌, ◌^◌, ◌∙◌, All, List, ℕ, ap, subst, sym}
use Rattle.std.proofs.lemmas.Result.{IfOk-weaker}
use Rattle.cert_types.specs.Composing.{optional_poly}
use Rattle.cert_types.specs.Reading.{places_read}
use Rattle.cert_types.specs.Views.{side_bound_of}
use Rattle.cert_types.specs.cert_program.Setting.{setting_of}
use Rattle.size_nodes.proofs.NeededResultVariables.{few_read}
use Rattle.cost_nodes.specs.ComposedCosts.{result_variables_after_each}
use Rattle.cost_nodes.proofs.ComposedCosts.{needed-each}
use Rattle.cost_nodes.proofs.CostRules.{cost-left, cost-lefts, cost-linked, cost-poly}
use Rattle.cost_nodes.proofs.sizes.needed_sizes.Goals as goal

pub pre-before-requires-clause-graph : goal.pre-before-requires-clause-graph
pre-before-requires-clause-graph c = (c.requires.0, c.requires.1.graph)

pub pre-before-requires-clause-number : goal.pre-before-requires-clause-number
pre-before-requires-clause-number c =
    let k = c.args.cost.now in
    cost-linked c.requires.0 k.rule c.requires.1.rows.costs k.graph.now c.requires.1.graph

pub after_each-requires : goal.after_each-requires
after_each-requires c =
    let k = c.args.cost.now in
    subst (All (λ j. j < 2 ^ 31)) (sym (c.deref.ensures.value ∙ c.in_ok-places.ensures))
    (few_read (optional_poly c.nonlinear_update-poly.result) (side_bound_of c.args.side_bound.now) k.rows.now.left
    (cost-left c.requires.0 k.rule k.rows.now c.requires.1.rows c.requires.1.valid))

pub returns : goal.returns
returns c =
    let k = c.args.cost.now in
    let side_bound = side_bound_of c.args.side_bound.now in
    IfOk-weaker c.after_each.result _ _
    (λ result_variables h p given. h
    ∙ (ap (λ (es : List ℕ). result_variables_after_each c.deref.result.now es) (c.pre-before.ensures p given.graph)
    ∙ needed-each (setting_of p) k.rule side_bound c.deref.result.now _
    (c.deref.ensures.value
    ∙ (c.in_ok-places.ensures
    ∙ (λ i. places_read ((c.nonlinear_update-poly.ensures ∙ cost-poly p k.rule k.rows.now given.rows) i) side_bound
    (cost-lefts p k.rule k.rows.now given.rows i))))))
    c.after_each.ensures
