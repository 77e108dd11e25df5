use Rattle.std.proofs.Common.{◌∙◌, List, map, ap, subst, sym}
use Rattle.std.specs.List.{AllByRecursion}
use Rattle.bound_expr.specs.Views.{bound_of}
use Rattle.bound_table.specs.RewriteResult.{answer_of}
use Rattle.gap_checks.specs.GapTests.{IsFirstFailing}
use Rattle.cert_types.specs.Views.{side_bound_of, result_variable_of}
use Rattle.cert_types.specs.cert_rules.Nodes.{ResultVariable}
use Rattle.cert_context.specs.CheckContexts.{program}
use Rattle.cert_context.specs.Needed.{HasSize}
use Rattle.check_sizes.proofs.CostAnswers.{side_bound-large, side_bound-missing, side_bound-small}
use Rattle.check_sizes.proofs.CostRows.{cost-readable}
use Rattle.check_sizes.proofs.side_bound_costs.sized_cost.Goals as goal

-- the cost is one of the context's program
pub needed_sizes-requires : goal.needed_sizes-requires
needed_sizes-requires g c = (
  program c.args.costing.now.context.now,
  record {
    valid = c.requires.rule.context.valid;
    graph = c.requires.rule.context.graph;
    rows = c.requires.rule.rows;
  },
)

pub composed_cost-requires-clause-cost : goal.composed_cost-requires-clause-cost
composed_cost-requires-clause-cost g c = (
  program c.args.costing.now.context.now,
  record {
    valid = c.requires.rule.context.valid;
    graph = c.requires.rule.context.graph;
    rows = c.requires.rule.rows;
  },
)

pub composed_cost-requires-clause-readable : goal.composed_cost-requires-clause-readable
composed_cost-requires-clause-readable g c =
    let k = c.args.costing.now in
    cost-readable (program k.context.now) k.rule k.prepared.now c.requires.rule.rows c.requires.rule.context.valid
    c.args.side_bound.now c.requires.numbers

pub returns-in-Some : goal.returns-in-Some
returns-in-Some g c =
    let k = c.args.costing.now in
    let p = program k.context.now in
    let table = g.K.Known.table c.args.known.now in
    let side_bound = side_bound_of c.args.side_bound.now in
    side_bound-missing p table k.rule side_bound c.requires.up c.requires.time (result_variable_of c.in-Some.result_variable)
    (subst (λ (result_variables : List ResultVariable). IsFirstFailing (HasSize table) result_variables (result_variable_of c.in-Some.result_variable))
    (ap (map result_variable_of) c.deref.ensures.value ∙ c.in_ok-needed.ensures p (record {
      valid = c.requires.rule.context.valid;
      graph = c.requires.rule.context.graph;
      rows = c.requires.rule.rows;
    }))
    c.in-Some.ensures)

pub returns-in-Rewritten : goal.returns-in-Rewritten
returns-in-Rewritten g c =
    let k = c.args.costing.now in
    let p = program k.context.now in
    let table = g.K.Known.table c.args.known.now in
    let side_bound = side_bound_of c.args.side_bound.now in
    side_bound-small p table k.rule side_bound c.requires.up c.requires.time
    (subst (AllByRecursion (HasSize table)) (ap (map result_variable_of) c.deref.ensures.value ∙ c.in_ok-needed.ensures p (record {
      valid = c.requires.rule.context.valid;
      graph = c.requires.rule.context.graph;
      rows = c.requires.rule.rows;
    })) c.in_default.ensures)
    (bound_of c.in-Rewritten.bound)
    (ap answer_of (sym c.in-Rewritten.is) ∙ c.in_ok-composed.ensures p (record {
      valid = c.requires.rule.context.valid;
      graph = c.requires.rule.context.graph;
      rows = c.requires.rule.rows;
    }))

pub returns : goal.returns
returns g c =
    let k = c.args.costing.now in
    let p = program k.context.now in
    let table = g.K.Known.table c.args.known.now in
    let side_bound = side_bound_of c.args.side_bound.now in
    side_bound-large p table k.rule side_bound c.requires.up c.requires.time
    (subst (AllByRecursion (HasSize table)) (ap (map result_variable_of) c.deref.ensures.value ∙ c.in_ok-needed.ensures p (record {
      valid = c.requires.rule.context.valid;
      graph = c.requires.rule.context.graph;
      rows = c.requires.rule.rows;
    })) c.in_default.ensures)
    c.in-Large.nodes
    (ap answer_of (sym c.in-Large.is) ∙ c.in_ok-composed.ensures p (record {
      valid = c.requires.rule.context.valid;
      graph = c.requires.rule.context.graph;
      rows = c.requires.rule.rows;
    }))
