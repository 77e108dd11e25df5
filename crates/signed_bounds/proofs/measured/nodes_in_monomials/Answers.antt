use Rattle.std.proofs.Common.{◌-◌, ◌^◌}
use Rattle.signed_bounds.proofs.PartLoops.{polynomial_nodes-step}
use Rattle.signed_bounds.proofs.measured.nodes_in_monomials.Goals as goal

pub loop-monomial-preserved : goal.loop-monomial-preserved
loop-monomial-preserved c =
    polynomial_nodes-step c.args.monomials.now c.loop-monomial.monomial-index c.monomial-item.result
    c.loop-monomial.nodes c.nodes_in_monomial.result c.saturating_add-nodes.result
    (2 ^ 64 - 1) c.loop-monomial-test.true c.monomial-item.is c.loop-monomial.invariant c.nodes_in_monomial.ensures
    c.saturating_add-nodes.ensures
