use Rattle.std.proofs.Common.{map, subst}
use Rattle.poly_terms.specs.Views.{form_of}
use Rattle.location_facts.specs.Replies.{IsReply}
use Rattle.location_facts.proofs.ImpliedLaws.{goal-sound, goal-missed}
use Rattle.location_facts.proofs.implied.goal_answer.Goals as goal

pub returns-in-Follows-clause-verdict : goal.returns-in-Follows-clause-verdict
returns-in-Follows-clause-verdict c = λ verdict.
    let rows = map form_of c.args.rows.now in
    goal-sound c.args.pivots c.args.unknowns rows (form_of c.args.goal.now) c.in-Follows.multipliers c.in-Follows.times
    (subst (IsReply c.args.pivots c.args.unknowns rows (form_of c.args.goal.now)) c.in-Follows.is
    (c.in_ok-multipliers.ensures {u = tt}))

pub returns-in-Fails-clause-verdict : goal.returns-in-Fails-clause-verdict
returns-in-Fails-clause-verdict c = λ verdict.
    let rows = map form_of c.args.rows.now in
    goal-missed c.args.pivots c.args.unknowns rows (form_of c.args.goal.now) verdict
    (subst (IsReply c.args.pivots c.args.unknowns rows (form_of c.args.goal.now)) c.in-Fails.is
    (c.in_ok-multipliers.ensures {u = tt})).0

pub returns-in-OutOfLimits-clause-verdict : goal.returns-in-OutOfLimits-clause-verdict
returns-in-OutOfLimits-clause-verdict c = λ verdict.
    let rows = map form_of c.args.rows.now in
    goal-missed c.args.pivots c.args.unknowns rows (form_of c.args.goal.now) verdict
    (subst (IsReply c.args.pivots c.args.unknowns rows (form_of c.args.goal.now)) c.in-OutOfLimits.is
    (c.in_ok-multipliers.ensures {u = tt}))

pub returns-in-Fails-clause-stands : goal.returns-in-Fails-clause-stands
returns-in-Fails-clause-stands c =
    (subst (IsReply c.args.pivots c.args.unknowns (map form_of c.args.rows.now) (form_of c.args.goal.now)) c.in-Fails.is
    (c.in_ok-multipliers.ensures {u = tt})).1
