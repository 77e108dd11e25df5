use Rattle.std.proofs.Common.{map, subst}
use Rattle.poly_terms.specs.Views.{form_of}
use Rattle.location_facts.specs.Replies.{IsReply}
use Rattle.location_facts.proofs.ImpliedLaws.{minus-one-writable, empty-worked, nothing-sound}
use Rattle.location_facts.proofs.PointRules.{point-shown}
use Rattle.location_facts.proofs.implied.emptiness.Goals as goal

pub ask-requires-clause-goal : goal.ask-requires-clause-goal
ask-requires-clause-goal c =
    minus-one-writable c.args.unknowns (form_of c.constant_row-goal.result) c.constant_row-goal.ensures

pub returns-in-Follows-clause-empty : goal.returns-in-Follows-clause-empty
returns-in-Follows-clause-empty c =
    let rows = map form_of c.args.rows.now in
    let minus_one = form_of c.constant_row-goal.result in
    empty-worked c.args.pivots c.args.unknowns rows minus_one c.in-Follows.multipliers _ c.constant_row-goal.ensures
    (subst (IsReply c.args.pivots c.args.unknowns rows minus_one) c.in-Follows.is
    (c.in_ok-multipliers.ensures {u = tt}))

pub returns-in-Fails-clause-empty : goal.returns-in-Fails-clause-empty
returns-in-Fails-clause-empty c =
    let rows = map form_of c.args.rows.now in
    let minus_one = form_of c.constant_row-goal.result in
    nothing-sound c.args.pivots c.args.unknowns rows minus_one c.constant_row-goal.ensures
    (subst (IsReply c.args.pivots c.args.unknowns rows minus_one) c.in-Fails.is
    (c.in_ok-multipliers.ensures {u = tt})).0

pub returns-in-Fails-clause-point : goal.returns-in-Fails-clause-point
returns-in-Fails-clause-point c =
    let rows = map form_of c.args.rows.now in
    let minus_one = form_of c.constant_row-goal.result in
    λ _. point-shown c.args.unknowns rows minus_one c.in-Fails.field-0 c.constant_row-goal.ensures
    (subst (IsReply c.args.pivots c.args.unknowns rows minus_one) c.in-Fails.is
    (c.in_ok-multipliers.ensures {u = tt})).1

pub returns-clause-empty : goal.returns-clause-empty
returns-clause-empty c =
    let rows = map form_of c.args.rows.now in
    let minus_one = form_of c.constant_row-goal.result in
    nothing-sound c.args.pivots c.args.unknowns rows minus_one c.constant_row-goal.ensures
    (subst (IsReply c.args.pivots c.args.unknowns rows minus_one) c.in-OutOfLimits.is
    (c.in_ok-multipliers.ensures {u = tt}))
