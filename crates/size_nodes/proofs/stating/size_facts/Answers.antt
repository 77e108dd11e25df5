use Rattle.std.proofs.Common.{◌≤◌, List, length, map, sym, ap, ◌∙◌, ◌++◌, arith}
use Rattle.std.proofs.lemmas.List.{drop_all, append-nil}
use Rattle.bound_expr.specs.Views.{bound_of}
use Rattle.cert_types.specs.cert_rules.AcceptsSizes.{cycle_facts}
use Rattle.cert_types.specs.declared.side_bound.Member.{Member}
use Rattle.cert_types.specs.Views.{member_of, facts_of}
use Rattle.size_nodes.proofs.stating.size_facts.Goals as goal

pub returns : goal.returns
returns c =
    let end : length c.args.members.now ≤ c.loop-member.member-index = omega (arith, c.loop-member-test.false) in
    sym (append-nil (facts_of c.loop-member.facts.items))
    ∙ (ap (λ (ms : List Member). facts_of c.loop-member.facts.items ++ cycle_facts (bound_of c.args.bound.now) (map member_of ms))
    (sym (drop_all c.loop-member.member-index c.args.members.now end)) ∙ c.loop-member.invariant)
