use Rattle.std.proofs.Common.{◌∙◌, map, sym, ap}
use Rattle.cert_types.specs.Views.{member_of, proof_of, rank_of, uses_of}
use Rattle.cert_types.specs.declared.rank.RankNode.{RankNode}
use Rattle.cert_types.specs.declared.proof.CostNode.{CostNode}
use Rattle.cert_types.specs.declared.proof.CycleNode.{CycleNode}
use Rattle.cert_types.specs.declared.proof.SpreadNode.{SpreadNode}
use Rattle.cert_types.specs.declared.proof.UnreachedNode.{UnreachedNode}
use Rattle.cert_types.specs.cert_rules.Nodes.{Unreached, Rank, Spread, Cycle, CostBound}
use Rattle.cert_context.specs.CheckContexts.{setting}
use Rattle.check_sizes.specs.Costs.{cost_node}
use Rattle.check_sizes.specs.SizeAnswers.{spread_member}
use Rattle.check_file.proofs.KeyedNodes.{rank-node, spread-node, cycle-node, charge-node}
use Rattle.check_file.proofs.PlainNodes.{unreached-node}
use Rattle.check_file.proofs.ProofViews.{proof-Unreached, proof-Rank, proof-Spread, proof-Cycle, proof-Cost}
use Rattle.check_file.proofs.judging.judge_node.Goals as goal

pub returns-in-Unreached : goal.returns-in-Unreached
returns-in-Unreached c =
    let us = uses_of (map proof_of c.in-Unreached.node.value.uses.items) in
    unreached-node (setting c.args.context.now) c.args.kept.now (proof_of c.args.proof.now) c.unreached_facts.result
    c.owned-in-Unreached.result c.owned-in-Unreached.ensures c.args.uses.now c.requires.uses
    c.deref-in-Unreached.result.now.rule us
    (ap proof_of c.in-Unreached.is ∙ (proof-Unreached c.in-Unreached.node
    ∙ sym (ap (λ (n : UnreachedNode). Unreached n.rule us) c.deref-in-Unreached.ensures))) c.unreached_facts.ensures

pub returns-in-Rank : goal.returns-in-Rank
returns-in-Rank c =
    let us = uses_of (map proof_of c.in-Rank.node.value.uses.items) in
    rank-node (setting c.args.context.now) c.args.kept.now (proof_of c.args.proof.now) c.ranked.result c.owned-in-Rank.result
    c.owned-in-Rank.ensures c.args.uses.now c.requires.uses (rank_of c.deref-in-Rank.result.now) us
    (ap proof_of c.in-Rank.is ∙ (proof-Rank c.in-Rank.node
    ∙ sym (ap (λ (n : RankNode). Rank (rank_of n) us) c.deref-in-Rank.ensures))) c.ranked.ensures

pub returns-in-Spread : goal.returns-in-Spread
returns-in-Spread c =
    let us = uses_of (map proof_of c.in-Spread.node.value.uses.items) in
    spread-node (setting c.args.context.now) c.args.kept.now (proof_of c.args.proof.now) c.spread.result
    c.owned-in-Spread.result c.owned-in-Spread.ensures c.args.uses.now c.requires.uses
    (spread_member c.deref-in-Spread.result.now) us
    (ap proof_of c.in-Spread.is ∙ (proof-Spread c.in-Spread.node
    ∙ sym (ap (λ (n : SpreadNode). Spread (spread_member n) us) c.deref-in-Spread.ensures))) c.spread.ensures

pub returns-in-Cycle : goal.returns-in-Cycle
returns-in-Cycle c =
    let us = uses_of (map proof_of c.in-Cycle.node.value.uses.items) in
    cycle-node (setting c.args.context.now) c.args.kept.now (proof_of c.args.proof.now) c.looped.result
    c.owned-in-Cycle.result c.owned-in-Cycle.ensures c.args.uses.now c.requires.uses
    (map member_of c.deref-in-Cycle.result.now.members.items) us
    (ap proof_of c.in-Cycle.is ∙ (proof-Cycle c.in-Cycle.node
    ∙ sym (ap (λ (n : CycleNode). Cycle (map member_of n.members.items) us) c.deref-in-Cycle.ensures))) c.looped.ensures

pub returns-in-Cost : goal.returns-in-Cost
returns-in-Cost c =
    let us = uses_of (map proof_of c.in-Cost.node.value.uses.items) in
    charge-node (setting c.args.context.now) c.args.kept.now (proof_of c.args.proof.now) c.charged.result
    c.owned-in-Cost.result c.owned-in-Cost.ensures c.args.uses.now c.requires.uses
    (cost_node c.deref-in-Cost.result.now) us
    (ap proof_of c.in-Cost.is ∙ (proof-Cost c.in-Cost.node
    ∙ sym (ap (λ (n : CostNode). CostBound (cost_node n) us) c.deref-in-Cost.ensures))) c.charged.ensures
