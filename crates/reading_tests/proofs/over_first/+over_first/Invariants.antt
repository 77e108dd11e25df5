use Rattle.std.proofs.Common.{ℕ, map, drop}
use Rattle.cert_types.specs.Views.{proof_of, uses_of}
use Rattle.cert_text.specs.OverFirst.{AreOverFirst}
use Rattle.reading_tests.proofs.over_first.+over_first.Given as goal

-- if the remaining uses are over the first n, all are
abbrev pub invariant-uses_are_over_first-loop-proof : goal.invariant-uses_are_over_first-loop-proof
invariant-uses_are_over_first-loop-proof l =
    AreOverFirst l.n (uses_of (map proof_of (drop l.proof-index l.uses))) → AreOverFirst l.n (uses_of (map proof_of l.uses))
