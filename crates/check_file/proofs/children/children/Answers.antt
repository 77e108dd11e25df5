use Rattle.std.proofs.Common.{◌∙◌, map, ap, sym}
use Rattle.cert_types.specs.Views.{proof_of}
use Rattle.cert_types.specs.declared.proof.Proof as code
use Rattle.cert_types.specs.declared.proof.UnreachedNode.{UnreachedNode}
use Rattle.cert_types.specs.declared.proof.SpreadNode.{SpreadNode}
use Rattle.cert_types.specs.declared.proof.CycleNode.{CycleNode}
use Rattle.cert_types.specs.declared.proof.CostNode.{CostNode}
use Rattle.cert_types.specs.declared.rank.RankNode.{RankNode}
use Rattle.check_file.specs.Children.{children_of}
use Rattle.check_file.proofs.ProofViews.{children-Unreached, children-Rank, children-Spread, children-Cycle, children-Cost}
use Rattle.check_file.proofs.children.children.Goals as goal

pub returns-in-Unreached : goal.returns-in-Unreached
returns-in-Unreached c =
    ap (map proof_of) c.deref-in-Unreached.ensures.value
    ∙ (ap (λ (n : UnreachedNode). map proof_of n.uses.items) c.deref.ensures
    ∙ sym (ap (λ (p : code.Proof). children_of (proof_of p)) c.in-Unreached.is ∙ children-Unreached c.in-Unreached.node))

pub returns-in-Rank : goal.returns-in-Rank
returns-in-Rank c =
    ap (map proof_of) c.deref-in-Rank-2.ensures.value
    ∙ (ap (λ (n : RankNode). map proof_of n.uses.items) c.deref-in-Rank.ensures
    ∙ sym (ap (λ (p : code.Proof). children_of (proof_of p)) c.in-Rank.is ∙ children-Rank c.in-Rank.node))

pub returns-in-Spread : goal.returns-in-Spread
returns-in-Spread c =
    ap (map proof_of) c.deref-in-Spread-2.ensures.value
    ∙ (ap (λ (n : SpreadNode). map proof_of n.uses.items) c.deref-in-Spread.ensures
    ∙ sym (ap (λ (p : code.Proof). children_of (proof_of p)) c.in-Spread.is ∙ children-Spread c.in-Spread.node))

pub returns-in-Cycle : goal.returns-in-Cycle
returns-in-Cycle c =
    ap (map proof_of) c.deref-in-Cycle-2.ensures.value
    ∙ (ap (λ (n : CycleNode). map proof_of n.uses.items) c.deref-in-Cycle.ensures
    ∙ sym (ap (λ (p : code.Proof). children_of (proof_of p)) c.in-Cycle.is ∙ children-Cycle c.in-Cycle.node))

pub returns-in-Cost : goal.returns-in-Cost
returns-in-Cost c =
    ap (map proof_of) c.deref-in-Cost-2.ensures.value
    ∙ (ap (λ (n : CostNode). map proof_of n.uses.items) c.deref-in-Cost.ensures
    ∙ sym (ap (λ (p : code.Proof). children_of (proof_of p)) c.in-Cost.is ∙ children-Cost c.in-Cost.node))
