use Rattle.std.proofs.Common.{◌+◌, ◌*◌, length, map, take}
use Rattle.cert_types.specs.Views.{proof_of}
use Rattle.cert_types.specs.cert_rules.Numbering.{nodes_of}
use Rattle.check_file.specs.Children.{nodes_in}
use Rattle.check_file.specs.Counts.{IsCount}
use Rattle.check_file.proofs.numbering.+counting.Given as goal

abbrev pub decreases-counted : goal.decreases-counted
decreases-counted l = 2 * length (nodes_of (proof_of l.proof.now))

abbrev pub decreases-all_counted : goal.decreases-all_counted
decreases-all_counted l = 2 * length (nodes_in (map proof_of l.proofs.now)) + 1

-- the nodes of the derivations before this one are counted
abbrev pub invariant-all_counted-loop-proof : goal.invariant-all_counted-loop-proof
invariant-all_counted-loop-proof l =
    IsCount (l.before + length (nodes_in (map proof_of (take l.proof-index l.proofs)))) l.count
