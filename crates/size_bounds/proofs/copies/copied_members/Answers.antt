use Rattle.std.proofs.Common.{◌≤◌, List, length, map, sym, ap, ◌∙◌, ◌++◌, arith}
use Rattle.std.proofs.lemmas.List.{drop_all, append-nil}
use Rattle.cert_types.specs.declared.side_bound.Member.{Member}
use Rattle.cert_types.specs.Views.{member_of}
use Rattle.size_bounds.proofs.copies.copied_members.Goals as goal

pub returns : goal.returns
returns c =
    let end : length c.args.members.now ≤ c.loop-member.member-index = omega (arith, c.loop-member-test.false) in
    sym (append-nil (map member_of c.loop-member.copies.items))
    ∙ (ap (λ (ms : List Member). map member_of c.loop-member.copies.items ++ map member_of ms)
    (sym (drop_all c.loop-member.member-index c.args.members.now end)) ∙ c.loop-member.invariant)
