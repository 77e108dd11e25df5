use Rattle.std.proofs.Common.{◌≡◌, drop, map}
use Rattle.refined_programs.specs.Views.{copy_of}
use Rattle.program_claims.specs.SymbolFacts.{has_copy}
use Rattle.claims_check.proofs.symbols.has_copy.Given as goal

-- what is left decides
abbrev pub invariant-loop-copy : goal.invariant-loop-copy
invariant-loop-copy l = has_copy l.symbol (map copy_of (drop l.copy-index l.copies))
    ≡ has_copy l.symbol (map copy_of l.copies)
