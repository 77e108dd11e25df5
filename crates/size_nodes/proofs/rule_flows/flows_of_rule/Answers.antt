use Rattle.std.proofs.Common.{◌∙◌, ap, sym, subst, List, map, arith}
use Rattle.std.specs.List.Sorted.{IsNonDecreasingBy}
use Rattle.std.proofs.lemmas.List.Sorted.{IsNonDecreasingBy-drop}
use Rattle.size_nodes.specs.declared.flow.Flow.{Flow}
use Rattle.size_nodes.specs.Flows.{flow_of}
use Rattle.size_nodes.specs.Growths.{growth_by_flows}
use Rattle.size_nodes.proofs.RuleFlows.{growth-drop, growth-take}
use Rattle.size_nodes.proofs.rule_flows.flows_of_rule.Goals as goal

pub count_below-requires-2 : goal.count_below-requires-2
count_below-requires-2 c =
    subst (IsNonDecreasingBy (λ (f : Flow). f.rule)) (sym c.split_at.ensures.back)
    (IsNonDecreasingBy-drop (λ (f : Flow). f.rule) c.count_below.result c.args.flows.now c.requires)

pub returns : goal.returns
returns c =
    let does = λ (fs : List Flow). growth_by_flows (map flow_of fs) c.args.rule in
    ap does c.split_at-2.ensures.front
    ∙ (growth-take c.args.rule c.split_at.result.1.now c.count_below-2.result
    (λ k d l h e. omega (arith, c.count_below-2.ensures.behind k d l h, c.from-2.ensures, e))
    ∙ (ap does c.split_at.ensures.back
    ∙ growth-drop c.args.rule c.args.flows.now c.count_below.result
    (λ k d l h e. omega (arith, c.count_below.ensures.below k d l h, c.from.ensures, e))))
