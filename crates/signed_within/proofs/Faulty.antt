-- A weighted difference with a weight past the limit isn't expanded.
use Rattle.std.proofs.Common.{◌≡◌, ℕ, zero, suc, ◌<◌, Bool, true, false, ◌||◌, Option, Some, None, refl, ap, ◌∙◌, arith}
use Rattle.std.specs.Prelude.{pos, nat_lt, if◌then◌else◌}
use Rattle.std.proofs.lemmas.Bool.{lt-ltb}
use Rattle.poly_terms.specs.model.Terms.{Term, Literal, Subtraction, Multiplication}
use Rattle.poly_terms.specs.model.Limits.{coefficient_limit, monomial_limit, degree_limit}
use Rattle.poly_terms.specs.model.Polynomials.{Polynomial}
use Rattle.poly_terms.specs.Expanding.{expanded}
use Rattle.poly_terms.specs.Faults.{Fault, LargeCoefficient, ManyTerms, HighDegree, fault_of, or_else, first_fault}
use Rattle.poly_terms.proofs.FaultLaws.{first-two}
use Rattle.signed_bounds.specs.Limits.{constant_limit}
use Rattle.signed_bounds.specs.Safe.{is_expanded_safe, expands_to_squares}
use Rattle.signed_bounds.specs.Fits.{polynomial_term, weighted_difference}

-- a literal past the limit has a fault
literal_faulty : (n : ℕ) → constant_limit < n → first_fault (Literal (pos n)) ≡ Some LargeCoefficient
literal_faulty zero h = absurd (omega arith)
literal_faulty (suc n) h =
    ap (λ (t : Bool). or_else
    (if t || false then Some LargeCoefficient
    else (if nat_lt monomial_limit 1 then Some ManyTerms
    else (if nat_lt degree_limit 1 || nat_lt degree_limit 0 then Some HighDegree else None))) None)
    (lt-ltb coefficient_limit (suc n) (omega arith))

-- a polynomial times a literal past the limit has a fault
weighted_faulty : (n : ℕ) (p : Polynomial) → constant_limit < n
    → first_fault (Multiplication (Literal (pos n)) (polynomial_term p)) ≡ Some LargeCoefficient
weighted_faulty n p h =
    first-two (Literal (pos n)) (polynomial_term p) (Multiplication (Literal (pos n)) (polynomial_term p))
    ∙ ap (λ (o : Option Fault). or_else o (or_else (first_fault (polynomial_term p))
    (fault_of (Multiplication (Literal (pos n)) (polynomial_term p))))) (literal_faulty n h)

-- a fault of the second of three parts makes the test fail
unsafe_second : (o g : Option Fault) (f : Fault) (p : Polynomial) → is_expanded_safe (or_else o (or_else (Some f) g)) p ≡ false
unsafe_second None g f p = refl
unsafe_second (Some e) g f p = refl

-- a difference whose upper weight is past the limit isn't expanded
pub upper_too_large : (n : ℕ) (f : Polynomial) (m : ℕ) (h : Polynomial) → constant_limit < m
    → expands_to_squares (weighted_difference n f m h) ≡ false
upper_too_large n f m h k =
    let upper = Multiplication (Literal (pos m)) (polynomial_term h) in
    let lower = Multiplication (Literal (pos n)) (polynomial_term f) in
    ap (λ (o : Option Fault). is_expanded_safe o (expanded (Subtraction upper lower)))
    (first-two upper lower (Subtraction upper lower)
    ∙ ap (λ (o : Option Fault). or_else o (or_else (first_fault lower) (fault_of (Subtraction upper lower))))
    (weighted_faulty m h k))

-- a difference whose lower weight is past the limit isn't expanded
pub lower_too_large : (n : ℕ) (f : Polynomial) (m : ℕ) (h : Polynomial) → constant_limit < n
    → expands_to_squares (weighted_difference n f m h) ≡ false
lower_too_large n f m h k =
    let upper = Multiplication (Literal (pos m)) (polynomial_term h) in
    let lower = Multiplication (Literal (pos n)) (polynomial_term f) in
    ap (λ (o : Option Fault). is_expanded_safe o (expanded (Subtraction upper lower)))
    (first-two upper lower (Subtraction upper lower)
    ∙ ap (λ (o : Option Fault). or_else (first_fault upper) (or_else o (fault_of (Subtraction upper lower))))
    (weighted_faulty n f k))
    ∙ unsafe_second (first_fault upper) (fault_of (Subtraction upper lower)) LargeCoefficient
    (expanded (Subtraction upper lower))
