use Rattle.std.proofs.Common.{◌≡◌, ℕ, ◌<◌, ◌^◌, List, length, map, sym, ap, ◌∙◌, subst, arith}
use Rattle.std.specs.List.{sum}
use Rattle.cert_types.specs.Views.{result_variable_of}
use Rattle.rvg_components.specs.Listing.{answer_lists}
use Rattle.rvg_components.specs.Numbering.{widths, firsts_from, result_variables_by_width}
use Rattle.rvg_components.specs.Edges.{edges_below}
use Rattle.rvg_components.specs.Fitting.{flow_inputs_of, IsFitting}
use Rattle.rvg_components.proofs.Numbers.{widths-length}
use Rattle.rvg_components.proofs.ProgramAnswers.{lists-long, live-few, widths-few, fitting}
use Rattle.rvg_components.proofs.FlowLaws.{flow-graph}
use Rattle.rvg_components.proofs.graph.flow_graph.Goals as goal

-- there are few places
pub first_places-requires : goal.first_places-requires
first_places-requires c =
    let p = c.requires.0 in
    let few = widths-few p c.args.g.now c.args.prepared_rules.now c.args.locals.now c.args.live.now c.requires.1 in
    subst (λ (ws : List ℕ). sum ws < 2 ^ 31) (sym (c.deref.ensures.value ∙ c.in_ok-widths.ensures)) (omega (arith, few))

-- there are few rules
pub numbered_places-requires-clause-few : goal.numbered_places-requires-clause-few
numbered_places-requires-clause-few c =
    let p = c.requires.0 in
    let few = live-few p c.args.g.now c.args.prepared_rules.now c.args.locals.now c.args.live.now c.requires.1 in
    let long = widths-length (answer_lists c.args.locals.now) c.args.live.now (lists-long p c.args.g.now c.args.prepared_rules.now c.args.locals.now c.args.live.now c.requires.1) in
    subst (λ (ws : List ℕ). length ws < 2 ^ 31) (sym (c.deref-2.ensures.value ∙ c.in_ok-widths.ensures)) (omega (arith, few, long))

-- there are few places
pub numbered_places-requires-clause-sum : goal.numbered_places-requires-clause-sum
numbered_places-requires-clause-sum c =
    let p = c.requires.0 in
    let few = widths-few p c.args.g.now c.args.prepared_rules.now c.args.locals.now c.args.live.now c.requires.1 in
    subst (λ (ws : List ℕ). sum ws < 2 ^ 31) (sym (c.deref-2.ensures.value ∙ c.in_ok-widths.ensures)) (omega (arith, few))

-- there is one item of each kind for each rule
pub edges_of-requires-clause-fitting : goal.edges_of-requires-clause-fitting
edges_of-requires-clause-fitting c =
    let p = c.requires.0 in
    let firsts : c.deref-3.result.now ≡ firsts_from 0 (widths (answer_lists c.args.locals.now) c.args.live.now) =
    c.deref-3.ensures.value ∙ (c.in_ok-firsts.ensures ∙ ap (firsts_from 0) (c.deref.ensures.value ∙ c.in_ok-widths.ensures)) in
    subst (λ (fs : List ℕ). IsFitting (flow_inputs_of c.args.prepared_rules.now c.args.locals.now c.args.live.now fs) (length c.args.g.now.links.items)) (sym firsts)
    (fitting p c.args.g.now c.args.prepared_rules.now c.args.locals.now c.args.live.now c.requires.1)

-- the places and the edges make up the graph
pub returns : goal.returns
returns c = λ p given.
    let ws = widths (answer_lists c.args.locals.now) c.args.live.now in
    let firsts : c.deref-3.result.now ≡ firsts_from 0 ws =
    c.deref-3.ensures.value ∙ (c.in_ok-firsts.ensures ∙ ap (firsts_from 0) (c.deref.ensures.value ∙ c.in_ok-widths.ensures)) in
    flow-graph p c.args.g.now c.args.prepared_rules.now c.args.locals.now c.args.live.now given (map result_variable_of c.in_ok-result_variables.result_variables.items) c.in_ok-edges.edges.items
    (c.in_ok-result_variables.ensures ∙ ap (result_variables_by_width 1) (c.deref-2.ensures.value ∙ c.in_ok-widths.ensures))
    (c.in_ok-edges.ensures p given.graph ∙ ap (λ (fs : List ℕ). edges_below p (flow_inputs_of c.args.prepared_rules.now c.args.locals.now c.args.live.now fs) (length c.args.live.now)) firsts)
