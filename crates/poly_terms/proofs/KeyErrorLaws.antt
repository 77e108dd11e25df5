-- A property of a polynomial that is computed with packed exponents holds of the one that is returned.
use Rattle.std.proofs.Common.{◌≡◌, Option, Some, None, subst}
use Rattle.std.specs.Prelude.{Result, Ok, Err, IfOk, IfSome}
use Rattle.std.specs.declared.alloc.AllocError.{AllocError}
use Rattle.poly_terms.specs.declared.key_error.KeyError.{KeyError}
use Rattle.poly_terms.specs.declared.poly.Poly.{Poly}

-- if a polynomial is returned, it is the one that was computed
pub given-on : (P : Poly → Type 0) (whole : Result Poly KeyError) (r : Result (Option Poly) AllocError)
    → IfOk r (λ found. IfSome found (λ p. whole ≡ Ok p)) → IfOk whole P → IfOk r (λ found. IfSome found P)
given-on P whole (Ok (Some p)) h k = subst (λ (w : Result Poly KeyError). IfOk w P) h k
given-on P whole (Ok None) h k = tt
given-on P whole (Err e) h k = tt
