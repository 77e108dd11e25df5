use Rattle.std.proofs.Common.{◌≡◌, drop, map}
use Rattle.poly_terms.specs.Views.{term_of}
use Rattle.refined_programs.specs.Views.{copy_of}
use Rattle.program_claims.specs.SymbolFacts.{have_facts_below}
use Rattle.claims_check.proofs.symbols.have_facts_below.Given as goal

-- what is left decides
abbrev pub invariant-loop-copy : goal.invariant-loop-copy
invariant-loop-copy l =
    have_facts_below l.symbol (term_of l.f) (map copy_of (drop l.copy-index l.copies))
    ≡ have_facts_below l.symbol (term_of l.f) (map copy_of l.copies)
