use Rattle.std.proofs.lemmas.Result.{IfOk-weaker}
use Rattle.location_facts.proofs.GoalProblems.{goal-writable, goal-built}
use Rattle.location_facts.proofs.asking.goal_problem.Goals as goal

pub add_group-requires-clause-writable : goal.add_group-requires-clause-writable
add_group-requires-clause-writable c =
    goal-writable _ c.args.unknowns c.args.rows.now c.args.goal.now c.requires.rows c.requires.goal

pub returns : goal.returns
returns c =
    IfOk-weaker c.finish.result _ _
    (λ p built. goal-built c.new-builder.result.parameters c.args.unknowns c.args.rows.now c.args.goal.now
    c.add_group.new.self p c.new-builder.ensures.parameters
    (c.in_ok-add_group.ensures.holds _ c.new-builder.ensures.holds) built) c.finish.ensures
