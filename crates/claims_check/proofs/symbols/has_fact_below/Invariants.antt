use Rattle.std.proofs.Common.{◌≡◌, drop, map}
use Rattle.poly_terms.specs.Views.{term_of}
use Rattle.refined_programs.specs.Affine.{affine_of}
use Rattle.program_claims.specs.SymbolFacts.{has_fact_below}
use Rattle.claims_check.proofs.symbols.has_fact_below.Given as goal

-- what is left decides
abbrev pub invariant-loop-fact : goal.invariant-loop-fact
invariant-loop-fact l =
    has_fact_below (term_of l.f) (map affine_of (drop l.fact-index l.facts))
    ≡ has_fact_below (term_of l.f) (map affine_of l.facts)
