-- The contracts of the results of an expansion.
use Rattle.std.specs.Prelude.{◌≡◌, ⊤, Option, Some, None, Result, MatchResult, true, false}
use Rattle.model.specs.Polynomials.{Polynomial}
use Rattle.poly_terms.specs.declared.poly.Poly.{Poly}
use Rattle.poly_terms.specs.declared.poly_error.PolyError.{PolyError}
use Rattle.poly_terms.specs.declared.poly_error.PolyError.TheVariants.{CoefTooLarge, TooManyTerms, DegreeTooHigh}
use Rattle.poly_terms.specs.declared.poly_error.PolyError.TheVariants.{Memory}
use Rattle.poly_terms.specs.Faults.{Fault, LargeCoefficient, ManyTerms, HighDegree, has_large}
use Rattle.poly_terms.specs.Views.{poly_of}

-- the error is the fault; running out of memory is always permitted
abbrev pub Says : PolyError → Option Fault → Type 0
Says CoefTooLarge fault = fault ≡ Some LargeCoefficient
Says TooManyTerms fault = fault ≡ Some ManyTerms
Says DegreeTooHigh fault = fault ≡ Some HighDegree
Says Memory fault = ⊤

-- the result is the polynomial if there is no fault, else the fault
abbrev pub Answers : Result Poly PolyError → Option Fault → Polynomial → Type 0
Answers result fault p = MatchResult result (λ q. (poly_of q ≡ p) × (fault ≡ None)) (λ e. Says e fault)

-- the error is that a coefficient of the polynomial is over 2^63 - 1, or memory ran out
abbrev pub IsLargeOrMemory : PolyError → Polynomial → Type 0
IsLargeOrMemory CoefTooLarge p = has_large p ≡ true
IsLargeOrMemory TooManyTerms p = ⊥
IsLargeOrMemory DegreeTooHigh p = ⊥
IsLargeOrMemory Memory p = ⊤

-- the result is the polynomial if no coefficient is over 2^63 - 1, else that fault
abbrev pub GivesNarrow : Result Poly PolyError → Polynomial → Type 0
GivesNarrow result p = MatchResult result (λ q. (poly_of q ≡ p) × (has_large p ≡ false)) (λ e. IsLargeOrMemory e p)
