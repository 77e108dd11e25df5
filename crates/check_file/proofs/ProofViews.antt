-- The views of nodes that have premises, and of their premises.
use Rattle.std.proofs.Common.{◌≡◌, ◌∙◌, map, rules, ap}
use Rattle.std.specs.declared.boxed.Box.{Box}
use Rattle.std.specs.declared.alloc.Global.{Global}
use Rattle.cert_types.specs.Views.{proof_of, rank_of, result_variable_of, local_of, member_of, cost_by_of, uses_of}
use Rattle.cert_types.specs.declared.proof.Proof.{the_lemmas}
use Rattle.cert_types.specs.declared.proof.Proof.TheVariants as code
use Rattle.cert_types.specs.declared.proof.UnreachedNode.{UnreachedNode}
use Rattle.cert_types.specs.declared.proof.SpreadNode.{SpreadNode}
use Rattle.cert_types.specs.declared.proof.CycleNode.{CycleNode}
use Rattle.cert_types.specs.declared.proof.CostNode.{CostNode}
use Rattle.cert_types.specs.declared.rank.RankNode.{RankNode}
use Rattle.cert_types.specs.cert_rules.Nodes as nodes
use Rattle.check_file.specs.Children.{children_of}
use Rattle.check_file.proofs.ChildNodes.{list-uses}

-- the view of a node on a rule that isn't reached
pub proof-Unreached : (n : Box UnreachedNode Global)
    → proof_of (code.Unreached n) ≡ nodes.Unreached n.value.rule (uses_of (map proof_of n.value.uses.items))
proof-Unreached n = search (rules, the_lemmas)

pub children-Unreached : (n : Box UnreachedNode Global) → children_of (proof_of (code.Unreached n)) ≡ map proof_of n.value.uses.items
children-Unreached n = ap children_of (proof-Unreached n) ∙ list-uses (map proof_of n.value.uses.items)

-- the view of a ranking node
pub proof-Rank : (n : Box RankNode Global)
    → proof_of (code.Rank n) ≡ nodes.Rank (rank_of n.value) (uses_of (map proof_of n.value.uses.items))
proof-Rank n = search (rules, the_lemmas)

pub children-Rank : (n : Box RankNode Global) → children_of (proof_of (code.Rank n)) ≡ map proof_of n.value.uses.items
children-Rank n = ap children_of (proof-Rank n) ∙ list-uses (map proof_of n.value.uses.items)

-- the view of a node on the size of a place that doesn't loop
pub proof-Spread : (n : Box SpreadNode Global)
    → proof_of (code.Spread n) ≡ nodes.Spread (record { result_variable = result_variable_of n.value.result_variable; local = local_of n.value.local }) (uses_of (map proof_of n.value.uses.items))
proof-Spread n = search (rules, the_lemmas)

pub children-Spread : (n : Box SpreadNode Global) → children_of (proof_of (code.Spread n)) ≡ map proof_of n.value.uses.items
children-Spread n = ap children_of (proof-Spread n) ∙ list-uses (map proof_of n.value.uses.items)

-- the view of a node on a loop
pub proof-Cycle : (n : Box CycleNode Global)
    → proof_of (code.Cycle n) ≡ nodes.Cycle (map member_of n.value.members.items) (uses_of (map proof_of n.value.uses.items))
proof-Cycle n = search (rules, the_lemmas)

pub children-Cycle : (n : Box CycleNode Global) → children_of (proof_of (code.Cycle n)) ≡ map proof_of n.value.uses.items
children-Cycle n = ap children_of (proof-Cycle n) ∙ list-uses (map proof_of n.value.uses.items)

-- the view of a node on a cost
pub proof-Cost : (n : Box CostNode Global)
    → proof_of (code.Cost n) ≡ nodes.CostBound (record { rule = n.value.rule; by = cost_by_of n.value.by }) (uses_of (map proof_of n.value.uses.items))
proof-Cost n = search (rules, the_lemmas)

pub children-Cost : (n : Box CostNode Global) → children_of (proof_of (code.Cost n)) ≡ map proof_of n.value.uses.items
children-Cost n = ap children_of (proof-Cost n) ∙ list-uses (map proof_of n.value.uses.items)
