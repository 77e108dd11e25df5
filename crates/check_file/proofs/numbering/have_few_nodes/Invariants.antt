use Rattle.std.proofs.Common.{map, take}
use Rattle.std.specs.List.{All}
use Rattle.cert_types.specs.Views.{proof_of}
use Rattle.check_file.specs.Files.{HasFewNodes}
use Rattle.check_file.proofs.numbering.have_few_nodes.Given as goal

-- the derivations before this one have few nodes
abbrev pub invariant-loop-proof : goal.invariant-loop-proof
invariant-loop-proof l = All HasFewNodes (map proof_of (take l.proof-index l.proofs))
