use Rattle.std.proofs.Common.{◌≡◌, ◌+◌, ◌++◌, drop}
use Rattle.facts_proof.specs.Statements.{each_numbered}
use Rattle.facts_proof.specs.Entries.{claimed, place_entries}
use Rattle.facts_proof.proofs.claims.push_sizes.Given as goal

-- what is claimed so far and the entries left are all
abbrev pub invariant-loop-i : goal.invariant-loop-i
invariant-loop-i l =
    claimed l.claims.items ++ each_numbered place_entries (l.i + 1) (drop l.i l.sizes)
    ≡ claimed l.fn.claims.items ++ each_numbered place_entries 1 l.sizes
