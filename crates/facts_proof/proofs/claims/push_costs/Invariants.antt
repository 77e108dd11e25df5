use Rattle.std.proofs.Common.{◌≡◌, ◌+◌, ◌++◌, drop}
use Rattle.facts_proof.specs.Statements.{each_numbered}
use Rattle.facts_proof.specs.Entries.{claimed, cost_entry}
use Rattle.facts_proof.proofs.claims.push_costs.Given as goal

-- what is claimed so far and the entries left are all
abbrev pub invariant-loop-i : goal.invariant-loop-i
invariant-loop-i l =
    claimed l.claims.items ++ each_numbered cost_entry (l.i + 1) (drop l.i l.costs)
    ≡ claimed l.fn.claims.items ++ each_numbered cost_entry 1 l.costs
