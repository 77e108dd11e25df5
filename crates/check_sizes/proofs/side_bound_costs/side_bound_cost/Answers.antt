use Rattle.std.proofs.Common.{arith}
use Rattle.cert_types.specs.Views.{side_bound_of}
use Rattle.cert_types.specs.cert_rules.AcceptsSizes.{Up}
use Rattle.cert_types.specs.cert_rules.Setting.{costs_of}
use Rattle.cert_context.specs.CheckContexts.{program}
use Rattle.check_sizes.specs.CostAnswers.{cost_setting}
use Rattle.check_sizes.proofs.SideBoundsOver.{accepted-over, over-accepted}
use Rattle.check_sizes.proofs.CostAnswers.{side_bound-untimed, no-side_bound}
use Rattle.cost_nodes.proofs.CostRules.{cost-single}
use Rattle.check_sizes.proofs.CostRows.{cost-side_bounds, cost-own}
use Rattle.check_sizes.proofs.side_bound_costs.side_bound_cost.Goals as goal

pub accepts_side_bound-requires-clause-suits : goal.accepts_side_bound-requires-clause-suits
accepts_side_bound-requires-clause-suits g c =
    let k = c.args.costing.now in
    cost-side_bounds (program k.context.now) k.rule k.prepared.now c.requires.rule.rows c.requires.rule.context.valid

pub accepts_side_bound-requires-clause-most : goal.accepts_side_bound-requires-clause-most
accepts_side_bound-requires-clause-most g c =
    let k = c.args.costing.now in
    omega (arith, cost-single (program k.context.now) k.rule k.prepared.now c.requires.rule.rows)

pub returns-then-not-accepted : goal.returns-then-not-accepted
returns-then-not-accepted g c =
    let k = c.args.costing.now in
    let p = program k.context.now in
    no-side_bound p (g.K.Known.table c.args.known.now) k.rule (side_bound_of c.args.side_bound.now)
    (λ h. let f = c.in_ok-accepted.ensures.1
    (accepted-over (costs_of (cost_setting k)) k.rule k.prepared.now (cost-own p k.rule k.prepared.now c.requires.rule.rows) 1 (omega arith) Up
    (side_bound_of c.args.side_bound.now) h) in let no : ⊥ = cc in no)

pub returns-then-not-has_time : goal.returns-then-not-has_time
returns-then-not-has_time g c =
    let k = c.args.costing.now in
    let p = program k.context.now in
    side_bound-untimed p (g.K.Known.table c.args.known.now) k.rule (side_bound_of c.args.side_bound.now)
    (over-accepted (costs_of (cost_setting k)) k.rule k.prepared.now (cost-own p k.rule k.prepared.now c.requires.rule.rows) 1 (omega arith) Up
    (side_bound_of c.args.side_bound.now) (c.in_ok-accepted.ensures.0 c.if-not-accepted.false))
    (λ h. let f = c.if-not-has_time.ensures.1 h in let no : ⊥ = cc in no)

pub sized_cost-requires-clause-up : goal.sized_cost-requires-clause-up
sized_cost-requires-clause-up g c =
    let k = c.args.costing.now in
    let p = program k.context.now in
    over-accepted (costs_of (cost_setting k)) k.rule k.prepared.now (cost-own p k.rule k.prepared.now c.requires.rule.rows) 1 (omega arith) Up
    (side_bound_of c.args.side_bound.now) (c.in_ok-accepted.ensures.0 c.if-not-accepted.false)

pub sized_cost-requires-clause-time : goal.sized_cost-requires-clause-time
sized_cost-requires-clause-time g c = c.has_time.ensures.0 c.if-not-has_time.false
