use Rattle.std.proofs.Common.{map, ◌∙◌}
use Rattle.cert_types.specs.Views.{member_of, local_of}
use Rattle.size_nodes.specs.NonlinearSideBounds.{is_nonlinear_over}
use Rattle.size_nodes.proofs.LoopMembers.{linked}
use Rattle.size_nodes.proofs.nonlinear.is_nonlinear_member.Goals as goal

pub poly_at-poly-requires : goal.poly_at-poly-requires
poly_at-poly-requires c = (c.requires.0, (c.requires.1.valid, (c.requires.1.rows, c.requires.1.shape.at)))

pub pre-requires : goal.pre-requires
pre-requires c = record {
  graph = (c.requires.0, c.requires.1.graph);
  number = linked c.requires.0 c.args.transitions.now.graph.now c.args.transitions.now.rows.now (member_of c.args.member.now) c.requires.1;
}

pub returns : goal.returns
returns c = λ p h.
    c.is_nonlinear_after.ensures
    ∙ (λ i. is_nonlinear_over (c.poly_at-poly.ensures.seen p h.rows h.shape.at i) (map member_of c.args.cycle.now.members.now)
    (local_of c.args.member.now.local) (c.pre.ensures p h.graph i))
