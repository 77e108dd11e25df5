use Rattle.std.proofs.Common.{◌≤◌, List, length, map, sym, ap, ◌∙◌, arith}
use Rattle.std.proofs.lemmas.List.{drop_all}
use Rattle.cert_types.specs.cert_program.Setting.{setting_of}
use Rattle.cert_types.specs.declared.side_bound.Member.{Member}
use Rattle.cert_types.specs.Views.{member_of}
use Rattle.size_nodes.specs.NonlinearSideBounds.{first_nonlinear}
use Rattle.size_nodes.specs.Members.{IsMemberIn}
use Rattle.size_nodes.proofs.ProgramMembers.{given_at}
use Rattle.size_nodes.proofs.NonlinearMembers.{nonlinear-here, nonlinear-later}
use Rattle.size_nodes.proofs.nonlinear.first_nonlinear.Goals as goal

pub is_nonlinear_member-is_here-requires : goal.is_nonlinear_member-is_here-requires
is_nonlinear_member-is_here-requires c = (
  c.requires.0,
  given_at c.requires.0 c.args.transitions.now.graph.now c.args.transitions.now.rows.now c.args.cycle.now.members.now
      c.loop-member.member-index c.member-item.result c.requires.1 c.loop-member-test.true c.member-item.is,
)

pub returns-then-is_here : goal.returns-then-is_here
returns-then-is_here c = λ p h.
    let given : IsMemberIn p c.args.transitions.now (member_of c.member-item.result) =
    given_at p c.args.transitions.now.graph.now c.args.transitions.now.rows.now c.args.cycle.now.members.now c.loop-member.member-index c.member-item.result h
    c.loop-member-test.true c.member-item.is in
    nonlinear-here (setting_of p) (map member_of c.args.cycle.now.members.now) c.args.cycle.now.members.now c.loop-member.member-index
    c.member-item.result c.loop-member-test.true c.member-item.is
    (sym (c.is_nonlinear_member-is_here.ensures p given) ∙ c.if-is_here.true) (c.loop-member.invariant p h)

pub loop-member-preserved : goal.loop-member-preserved
loop-member-preserved c = λ p h.
    let given : IsMemberIn p c.args.transitions.now (member_of c.member-item.result) =
    given_at p c.args.transitions.now.graph.now c.args.transitions.now.rows.now c.args.cycle.now.members.now c.loop-member.member-index c.member-item.result h
    c.loop-member-test.true c.member-item.is in
    nonlinear-later (setting_of p) (map member_of c.args.cycle.now.members.now) c.args.cycle.now.members.now c.loop-member.member-index
    c.member-item.result c.loop-member-test.true c.member-item.is
    (sym (c.is_nonlinear_member-is_here.ensures p given) ∙ c.if-is_here.false) (c.loop-member.invariant p h)

pub returns : goal.returns
returns c = λ p h.
    let end : length c.args.cycle.now.members.now ≤ c.loop-member.member-index = omega (arith, c.loop-member-test.false) in
    sym (ap (λ (ms : List Member). first_nonlinear (setting_of p) (map member_of c.args.cycle.now.members.now) (map member_of ms))
    (drop_all c.loop-member.member-index c.args.cycle.now.members.now end)) ∙ c.loop-member.invariant p h
