use Rattle.std.proofs.Common.{◌≤◌, List, length, map, sym, ap, ◌∙◌, ◌++◌, arith}
use Rattle.std.proofs.lemmas.List.{drop_all, append-nil}
use Rattle.cert_types.specs.declared.side_bound.Member.{Member}
use Rattle.cert_types.specs.Views.{member_of}
use Rattle.size_nodes.specs.Flows.{rules_after}
use Rattle.size_nodes.proofs.rules.rules_in.Goals as goal

pub returns : goal.returns
returns c =
    let end : length c.args.members.now ≤ c.loop-member.member-index = omega (arith, c.loop-member-test.false) in
    sym (append-nil c.loop-member.rules.items)
    ∙ (ap (λ (ms : List Member). c.loop-member.rules.items ++ rules_after c.loop-member.last (map member_of ms))
    (sym (drop_all c.loop-member.member-index c.args.members.now end)) ∙ c.loop-member.invariant)
