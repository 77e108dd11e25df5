use Rattle.std.proofs.Common.{◌≡◌, map, drop}
use Rattle.cert_types.specs.Views.{proof_of, uses_of}
use Rattle.cert_text.specs.Texts.{have_cost}
use Rattle.cert_text.proofs.trees.+search_costs.Given as goal

-- there is a node on costs exactly if there is one among the remaining nodes
abbrev pub invariant-some_has_cost-loop-proof : goal.invariant-some_has_cost-loop-proof
invariant-some_has_cost-loop-proof l =
    have_cost (uses_of (map proof_of (drop l.proof-index l.proofs))) ≡ have_cost (uses_of (map proof_of l.proofs))
