use Rattle.std.proofs.Common.{◌∙◌, ap, sym, subst, List, map, arith}
use Rattle.std.specs.List.Sorted.{IsNonDecreasingBy}
use Rattle.std.proofs.lemmas.List.Sorted.{IsNonDecreasingBy-drop}
use Rattle.cert_types.specs.cert_rules.ComposedSizes.{is_member}
use Rattle.cert_types.specs.declared.side_bound.Member.{Member}
use Rattle.cert_types.specs.Views.{member_of}
use Rattle.size_nodes.proofs.MembersAfter.{behind-lesser, before-greater}
use Rattle.size_nodes.proofs.members.members_after.Goals as goal

pub count_below-requires : goal.count_below-requires
count_below-requires c = c.requires

pub count_below-requires-2 : goal.count_below-requires-2
count_below-requires-2 c =
    subst (IsNonDecreasingBy (λ (m : Member). m.result_variable.rule)) (sym c.split_at.ensures.back)
    (IsNonDecreasingBy-drop (λ (m : Member). m.result_variable.rule) c.count_below.result c.args.members.now c.requires)

pub returns : goal.returns
returns c =
    let inside = λ (ms : List Member). is_member (map member_of ms) c.args.rule in
    ap inside c.split_at-2.ensures.front
    ∙ (before-greater c.split_at.result.1.now c.args.rule c.count_below-2.result
    (λ k d l h. omega (arith, c.count_below-2.ensures.behind k d l h, c.from-2.ensures))
    ∙ (ap inside c.split_at.ensures.back
    ∙ behind-lesser c.args.members.now c.args.rule c.count_below.result
    (λ k d l h. omega (arith, c.count_below.ensures.below k d l h, c.from.ensures))))
