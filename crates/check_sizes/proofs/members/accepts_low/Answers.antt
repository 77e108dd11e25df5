use Rattle.std.proofs.Common.{arith}
use Rattle.std.proofs.lemmas.Result.{IfOk-weaker}
use Rattle.cert_types.specs.Views.{side_bound_of, result_variable_of}
use Rattle.cert_types.specs.cert_rules.AcceptsSizes.{Low}
use Rattle.cert_context.specs.CheckContexts.{program, setting}
use Rattle.check_sizes.proofs.SideBoundsOver.{side_bound-test, shape-numbers}
use Rattle.check_sizes.proofs.MemberShapes.{result_variable-rule}
use Rattle.check_sizes.proofs.members.accepts_low.Goals as goal

pub prepared_rule-rows-requires-clause-rule : goal.prepared_rule-rows-requires-clause-rule
prepared_rule-rows-requires-clause-rule c =
    result_variable-rule (program c.args.context.now) (result_variable_of c.args.member.now.result_variable) c.requires.shape.at

pub accepts_side_bound-requires-clause-numbers : goal.accepts_side_bound-requires-clause-numbers
accepts_side_bound-requires-clause-numbers c =
    shape-numbers (setting c.args.context.now) c.args.member.now.result_variable.rule c.prepared_rule-rows.result.now c.prepared_rule-rows.ensures.own
    (side_bound_of c.args.member.now.local.low) c.requires.shape.low

pub accepts_side_bound-requires-clause-least : goal.accepts_side_bound-requires-clause-least
accepts_side_bound-requires-clause-least c = c.requires.shape.at.least

pub accepts_side_bound-requires-clause-most : goal.accepts_side_bound-requires-clause-most
accepts_side_bound-requires-clause-most c =
    let at = c.requires.shape.at in
    omega (arith, at.most, c.prepared_rule-rows.ensures.places.each at.rule at.numbered)

pub returns : goal.returns
returns c =
    IfOk-weaker c.accepts_side_bound.result _ _
    (λ b h. side_bound-test (setting c.args.context.now) c.args.member.now.result_variable.rule c.prepared_rule-rows.result.now c.prepared_rule-rows.ensures.own
    c.args.member.now.result_variable.place c.requires.shape.at.least Low (side_bound_of c.args.member.now.local.low) b h)
    c.accepts_side_bound.ensures
