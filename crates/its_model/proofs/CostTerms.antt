-- The atom that a cost is at least 0 can be expanded if the cost can.
use Rattle.std.proofs.Common.{◌≡◌, ℕ, ◌||◌, [], ◌∷◌, length, Bool, true, false, refl, ap, ◌∙◌, arith}
use Rattle.std.proofs.Common.{nat_lt, if◌then◌else◌}
use Rattle.std.specs.Prelude.{Option, Some, None, nat_abs, pos}
use Rattle.std.proofs.lemmas.Bool.Decides.{nat_tests}
use Rattle.poly_terms.specs.model.Limits.{coefficient_limit, monomial_limit, degree_limit}
use Rattle.poly_terms.specs.model.Terms.{Term, Literal, Subtraction}
use Rattle.poly_terms.specs.model.Polynomials.{Polynomial, degree_of}
use Rattle.poly_terms.specs.linear_forms.int_laws.NormalForm.{is_zero}
use Rattle.poly_terms.specs.Expanding.{expanded, without_zeros}
use Rattle.poly_terms.specs.Faults.{Fault, LargeCoefficient, ManyTerms, HighDegree, has_large, fault_in, fault_of}
use Rattle.poly_terms.specs.Faults.{or_else, first_fault}
use Rattle.poly_terms.specs.Ordered.{HasNoZero, IsBounded, IsSmall}
use Rattle.poly_terms.proofs.Values.{zero_is}
use Rattle.poly_terms.proofs.OrderLaws.{expanded-ordered}
use Rattle.poly_terms.proofs.AnswerLaws.{expanded-small}
use Rattle.poly_terms.proofs.FaultLaws.{first-two}
use Rattle.its_model.specs.Valid.{IsValidTerm, IsValidComparison}
use Rattle.poly_terms.specs.model.Programs.{AtLeast}

-- No coefficient of a bounded polynomial is large.
none-large : (p : Polynomial) → IsBounded coefficient_limit p → has_large p ≡ false
none-large [] h = refl
none-large (m ∷ p) h = ap (λ (b : Bool). b || has_large p) small ∙ none-large p h.1
  where
    small : nat_lt coefficient_limit (nat_abs m.coef) ≡ false
    small = let l = h.0 in grind (arith, nat_tests)

-- A small polynomial has no fault.
small-none : (p : Polynomial) → IsSmall p → fault_in p 1 ≡ None
small-none p h = go (has_large p) (nat_lt monomial_limit (length p)) (nat_lt degree_limit (degree_of p)) (none-large p h.coefficients) few low
  where
    few : nat_lt monomial_limit (length p) ≡ false
    few = let l = h.terms in grind (arith, nat_tests)

    low : nat_lt degree_limit (degree_of p) ≡ false
    low = let l = h.degree in grind (arith, nat_tests)

    go : (a b c : Bool) → a ≡ false → b ≡ false → c ≡ false
        → (if a then Some LargeCoefficient else (if b then Some ManyTerms else (if c then Some HighDegree else None))) ≡ None
    go false false false e f g = refl
    go true b c e f g = cc
    go false true c e f g = cc
    go false false true e f g = cc

-- A polynomial without zero coefficients keeps all its terms.
none-left_out : (p : Polynomial) → HasNoZero p → without_zeros p ≡ p
none-left_out [] h = refl
none-left_out (m ∷ p) h = go (is_zero m.coef) refl (none-left_out p h.1)
  where
    go : (b : Bool) → is_zero m.coef ≡ b → without_zeros p ≡ p → (if b then without_zeros p else m ∷ without_zeros p) ≡ m ∷ p
    go true e ih = absurd (h.0 (zero_is m.coef e))
    go false e ih = ap (λ (q : Polynomial). m ∷ q) ih

-- An expression without a fault has none after 0 is subtracted.
less-zero : (t : Term) → first_fault t ≡ None → first_fault (Subtraction t (Literal (pos 0))) ≡ None
less-zero t h =
    first-two t (Literal (pos 0)) (Subtraction t (Literal (pos 0)))
    ∙ (ap (λ (f : Option Fault). or_else f (fault_of (Subtraction t (Literal (pos 0))))) h
    ∙ (ap (λ (p : Polynomial). fault_in p 1) (none-left_out (expanded t) (expanded-ordered t).nonzero) ∙ small-none (expanded t) (expanded-small t h)))

-- The atom that an expression is at least 0 is valid.
pub at-least-zero : (n : ℕ) (t : Term) → IsValidTerm n t → IsValidComparison n t AtLeast (Literal (pos 0))
at-least-zero n t h = record { left = h.variables; right = tt; expands = less-zero t h.expands }
