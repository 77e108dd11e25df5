use Rattle.std.proofs.Common.{sym, ◌∙◌}
use Rattle.size_nodes.specs.Flows.{flow_of}
use Rattle.size_nodes.specs.Growths.{is_of}
use Rattle.size_nodes.proofs.JoinedParts.{pushed_where, kept_where}
use Rattle.size_nodes.proofs.growth.push_offset.Goals as goal

pub returns-then-not-is_in : goal.returns-then-not-is_in
returns-then-not-is_in c =
    kept_where (is_of c.args.kind (flow_of c.args.flow.now)) _ _ (sym c.is_of_kind-is_in.ensures ∙ c.if-not-is_in.true)

pub returns : goal.returns
returns c =
    pushed_where (is_of c.args.kind (flow_of c.args.flow.now)) c.args.parts.now.items c.push.new.self.items
    c.in_ok-offset.offset _ (sym c.is_of_kind-is_in.ensures ∙ c.if-not-is_in.false) c.in_ok-push.ensures.items
    c.in_ok-offset.ensures
