use Rattle.std.proofs.Common.{List, map, refl}
use Rattle.model.specs.Paths.{pre}
use Rattle.cert_types.specs.cert_rules.Checks.{needed_from, needed_into}
use Rattle.cert_types.specs.cert_program.Setting.{setting_of}
use Rattle.cert_types.specs.declared.side_bound.Member.{Member}
use Rattle.cert_types.specs.Views.{result_variable_of, member_of}
use Rattle.size_nodes.proofs.ProgramMembers.{given_at}
use Rattle.size_nodes.proofs.ListSteps.{one_more}
use Rattle.size_nodes.proofs.premises.needed_result_variables.Goals as goal

pub push_needed-requires : goal.push_needed-requires
push_needed-requires c = (
  c.requires.0,
  given_at c.requires.0 c.args.transitions.now.graph.now c.args.transitions.now.rows.now c.args.cycle.now.members.now c.loop-m.m-index c.m-item.result c.requires.1
      c.loop-m-test.true c.m-item.is,
)

pub loop-m-preserved : goal.loop-m-preserved
loop-m-preserved c = λ p given.
    let members = map member_of c.args.cycle.now.members.now in
    one_more (λ (ms : List Member). needed_into (setting_of p) members (map member_of ms))
    (λ (m : Member). needed_from (setting_of p) members (member_of m) (pre p m.result_variable.rule)) (λ m ms. refl)
    c.args.cycle.now.members.now c.loop-m.m-index c.m-item.result (map result_variable_of c.loop-m.result_variables.items)
    (map result_variable_of c.push_needed.new.result_variables.items) (needed_into (setting_of p) members members) c.loop-m-test.true c.m-item.is
    (c.loop-m.invariant p given)
    (c.in_ok-push_needed.ensures p
    (given_at p c.args.transitions.now.graph.now c.args.transitions.now.rows.now c.args.cycle.now.members.now c.loop-m.m-index c.m-item.result given c.loop-m-test.true c.m-item.is))
