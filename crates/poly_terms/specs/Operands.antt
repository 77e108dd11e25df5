-- The contracts of the results of expanding two operands.
use Rattle.std.specs.Prelude.{◌≡◌, None, Result, MatchResult}
use Rattle.model.specs.Terms.{Term}
use Rattle.poly_terms.specs.declared.expanding.Pair.{Pair}
use Rattle.poly_terms.specs.declared.poly_error.PolyError.{PolyError}
use Rattle.poly_terms.specs.Expanding.{expanded}
use Rattle.poly_terms.specs.Faults.{first_fault, or_else}
use Rattle.poly_terms.specs.Views.{poly_of}
use Rattle.poly_terms.specs.Answers.{Says}

-- both have their polynomial and no fault
pub record HasBoth (d e : Term) (p : Pair) : Type 0 where
  pub left : poly_of p.left ≡ expanded d
  pub left_whole : first_fault d ≡ None
  pub right : poly_of p.right ≡ expanded e
  pub right_whole : first_fault e ≡ None

-- both polynomials if there is no fault, else the first fault among the operands
abbrev pub GivesBoth : Result Pair PolyError → Term → Term → Type 0
GivesBoth result d e = MatchResult result (HasBoth d e) (λ error. Says error (or_else (first_fault d) (first_fault e)))
