use Rattle.cert_types.specs.Views.{cost_by_of}
use Rattle.cert_context.specs.CheckContexts.{program, setting}
use Rattle.bound_expr.specs.Views.{bound_of}
use Rattle.check_sizes.specs.Costs.{cost_node}
use Rattle.check_sizes.proofs.CostAnswers.{cost-behind, cost-refused, cost-shape}
use Rattle.check_sizes.proofs.CostRows.{by-numbers, numbers-by}
use Rattle.check_sizes.proofs.costing.cost_facts.Goals as goal

pub returns-in_default : goal.returns-in_default
returns-in_default g c =
    cost-shape (setting c.args.context.now) (g.K.Known.table c.args.known.now) (cost_node c.args.node.now)
    (λ h. c.in_default.ensures h.cost)

pub returns-then-not-has_cost_numbers : goal.returns-then-not-has_cost_numbers
returns-then-not-has_cost_numbers g c =
    cost-shape (setting c.args.context.now) (g.K.Known.table c.args.known.now) (cost_node c.args.node.now)
    (λ h. let f = c.if-not-has_cost_numbers.ensures.1
    (numbers-by (program c.args.context.now) c.args.node.now.rule c.in-Some.prepared.now c.in-Some.ensures
    (cost_by_of c.args.node.now.by) h.numbers) in let no : ⊥ = cc in no)

pub cost_by-requires-clause-rule : goal.cost_by-requires-clause-rule
cost_by-requires-clause-rule g c = record { context = c.requires; rows = c.in-Some.ensures }

pub cost_by-requires-clause-numbers : goal.cost_by-requires-clause-numbers
cost_by-requires-clause-numbers g c = c.has_cost_numbers.ensures.0 c.if-not-has_cost_numbers.false

pub returns-in_ok-one-in-Ok : goal.returns-in_ok-one-in-Ok
returns-in_ok-one-in-Ok g c =
    cost-behind (setting c.args.context.now) (g.K.Known.table c.args.known.now) (cost_node c.args.node.now)
    (record {
      cost = c.in-Some.ensures.costs;
      numbers = by-numbers (program c.args.context.now) c.args.node.now.rule c.in-Some.prepared.now c.in-Some.ensures
          (cost_by_of c.args.node.now.by) (c.has_cost_numbers.ensures.0 c.if-not-has_cost_numbers.false);
    }) c.in_ok-one-in-Ok.field-0 (bound_of c.in-Ok.bound) c.in-Ok.ensures c.in_ok-one-in-Ok.ensures

pub returns-in-Err : goal.returns-in-Err
returns-in-Err g c =
    cost-refused (setting c.args.context.now) (g.K.Known.table c.args.known.now) (cost_node c.args.node.now)
    (record {
      cost = c.in-Some.ensures.costs;
      numbers = by-numbers (program c.args.context.now) c.args.node.now.rule c.in-Some.prepared.now c.in-Some.ensures
          (cost_by_of c.args.node.now.by) (c.has_cost_numbers.ensures.0 c.if-not-has_cost_numbers.false);
    }) c.in-Err.fault c.in-Err.ensures
