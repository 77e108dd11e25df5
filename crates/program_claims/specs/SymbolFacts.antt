-- The facts of the copies of a symbol.
use Rattle.std.specs.Prelude.{ℕ, Bool, true, ◌&&◌, ◌||◌, ◌==◌, not, List, [], ◌∷◌}
use Rattle.std.specs.List.{list_any}
use Rattle.model.specs.Terms.{Term, Subtraction}
use Rattle.refinement.specs.Sections.{Copy}
use Rattle.signed_bounds.specs.Safe.{expands_to_squares}

-- whether a fact is at most an expression everywhere, and whether some fact of a list is
abbrev pub is_fact_below : Term → Term → Bool
is_fact_below f fact = expands_to_squares (Subtraction f fact)

abbrev pub has_fact_below : Term → List Term → Bool
has_fact_below f facts = list_any (is_fact_below f) facts

-- whether a copy is of a symbol, and whether some copy of a list is
abbrev pub is_copy_of : ℕ → Copy → Bool
is_copy_of symbol c = c.over == symbol

abbrev pub has_copy : ℕ → List Copy → Bool
has_copy symbol copies = list_any (is_copy_of symbol) copies

-- whether each copy of a symbol has a fact that is at most the expression
abbrev pub have_facts_below : ℕ → Term → List Copy → Bool
have_facts_below symbol f [] = true
have_facts_below symbol f (c ∷ copies) =
    (not (is_copy_of symbol c) || has_fact_below f c.facts) && have_facts_below symbol f copies
