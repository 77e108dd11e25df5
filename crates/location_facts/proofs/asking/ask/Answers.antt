use Rattle.std.proofs.Common.{refl, subst, length}
use Rattle.lp_builder.specs.simplex_core.Problem.{program_of}
use Rattle.lp_builder.specs.simplex_core.HitsLimit.{IsWholeAnswer}
use Rattle.location_facts.proofs.GoalProblems.{goal-room, goal-follows, against-room, goal-fails, goal-hits_limit}
use Rattle.location_facts.proofs.asking.ask.Goals as goal

pub multipliers_from-requires : goal.multipliers_from-requires
multipliers_from-requires c =
    let p = c.in_ok-problem.problem in
    let h = subst (IsWholeAnswer (program_of p) c.args.pivots) c.in-Solution.is (c.in_ok-solution.ensures {u = tt}) in
    goal-room c.args.unknowns c.args.rows.now c.args.goal.now c.requires.rows c.requires.goal c.args.pivots p
    (c.in_ok-problem.ensures {u = tt}) c.in-Solution.solution c.deref.result.now (length c.args.rows.now) h
    c.deref.ensures.value refl

pub returns-in-Solution : goal.returns-in-Solution
returns-in-Solution c =
    let p = c.in_ok-problem.problem in
    let h = subst (IsWholeAnswer (program_of p) c.args.pivots) c.in-Solution.is (c.in_ok-solution.ensures {u = tt}) in
    goal-follows c.args.unknowns c.args.rows.now c.args.goal.now c.requires.rows c.requires.goal c.args.pivots p
    (c.in_ok-problem.ensures {u = tt}) c.in-Solution.solution c.deref.result.now (length c.args.rows.now) _ _ h
    c.deref.ensures.value refl (c.in_ok-multipliers-in-Solution.ensures {u = tt}) refl

pub element_from-requires : goal.element_from-requires
element_from-requires c =
    let p = c.in_ok-problem.problem in
    let h = subst (IsWholeAnswer (program_of p) c.args.pivots) c.in-Dual.is (c.in_ok-solution.ensures {u = tt}) in
    against-room c.args.unknowns c.args.rows.now c.args.goal.now c.requires.rows c.requires.goal c.args.pivots p
    (c.in_ok-problem.ensures {u = tt}) c.in-Dual.dual c.deref-in-Dual.result.now h c.deref-in-Dual.ensures.value

pub returns-in-Dual : goal.returns-in-Dual
returns-in-Dual c =
    let p = c.in_ok-problem.problem in
    let h = subst (IsWholeAnswer (program_of p) c.args.pivots) c.in-Dual.is (c.in_ok-solution.ensures {u = tt}) in
    goal-fails c.args.unknowns c.args.rows.now c.args.goal.now c.requires.rows c.requires.goal c.args.pivots p
    (c.in_ok-problem.ensures {u = tt}) c.in-Dual.dual c.deref-in-Dual.result.now c.in_ok-element-in-Dual.element h
    c.deref-in-Dual.ensures.value (c.in_ok-element-in-Dual.ensures.parts) (c.in_ok-element-in-Dual.ensures.den)

pub returns : goal.returns
returns c =
    let p = c.in_ok-problem.problem in
    let h = subst (IsWholeAnswer (program_of p) c.args.pivots) c.in-OutOfLimits.is
    (c.in_ok-solution.ensures {u = tt}) in
    goal-hits_limit c.args.unknowns c.args.rows.now c.args.goal.now c.requires.rows c.requires.goal c.args.pivots p
    (c.in_ok-problem.ensures {u = tt}) _ h
