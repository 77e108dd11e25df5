-- What one copy of a symbol is to have.
use Rattle.std.specs.Prelude.{ℕ, Bool, ◌||◌, not}
use Rattle.model.specs.Terms.{Term}
use Rattle.refinement.specs.Sections.{Copy}
use Rattle.program_claims.specs.SymbolFacts.{is_copy_of, has_fact_below}

-- a copy is of another symbol, or has a fact that is at most the expression
abbrev pub is_met : ℕ → Term → Copy → Bool
is_met symbol f c = not (is_copy_of symbol c) || has_fact_below f c.facts
