use Rattle.std.proofs.Common.{take}
use Rattle.std.specs.List.{All}
use Rattle.location_facts.specs.Certificates.{IsWithinLimit}
use Rattle.location_facts.proofs.checks.are_within_limit.Given as goal

abbrev pub invariant-loop-proof : goal.invariant-loop-proof
invariant-loop-proof l = All IsWithinLimit (take l.proof-index l.proofs)
