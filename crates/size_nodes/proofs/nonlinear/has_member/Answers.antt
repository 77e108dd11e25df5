use Rattle.std.proofs.Common.{◌≤◌, length, map, sym, ap, ◌∙◌, arith}
use Rattle.std.specs.List.{list_any}
use Rattle.std.proofs.lemmas.List.{drop_all}
use Rattle.cert_types.specs.cert_rules.ComposedSizes.{is_member}
use Rattle.cert_types.specs.Views.{member_of}
use Rattle.size_nodes.proofs.nonlinear.has_member.Goals as goal

pub returns : goal.returns
returns c =
    let end : length c.args.variables.now ≤ c.loop-variable.variable-index = omega (arith, c.loop-variable-test.false) in
    sym (ap (list_any (is_member (map member_of c.args.members.now) c.args.rule))
    (drop_all c.loop-variable.variable-index c.args.variables.now end))
    ∙ c.loop-variable.invariant
