-- From the results for the operands to the result for the whole expression.
use Rattle.std.proofs.Common.{◌≡◌, ℕ, ◌∷◌, [], ◌++◌, map, refl, ap, sym, ◌∙◌, subst, arith, max, length}
use Rattle.std.specs.Prelude.{Option, Some, None, Result}
use Rattle.model.specs.Terms.{Term, Literal, Variable, Negation, Addition, Subtraction, Multiplication, Exponentiation}
use Rattle.model.specs.Polynomials.{Polynomial, degree_of}
use Rattle.poly_terms.specs.declared.poly.Poly.{Poly}
use Rattle.poly_terms.specs.declared.poly_error.PolyError.{PolyError}
use Rattle.poly_terms.specs.Expanding.{opposite, expanded, power_of}
use Rattle.model.specs.Limits.{coefficient_limit}
use Rattle.poly_terms.specs.Faults.{Fault, fault_in, exponent_of, fault_of, subexpressions, or_else, first_among}
use Rattle.poly_terms.specs.Faults.{first_fault}
use Rattle.poly_terms.specs.Powers.{faults_of_powers, IsPowerWithout}
use Rattle.poly_terms.specs.Ordered.{IsBounded, IsSmall}
use Rattle.poly_terms.specs.Answers.{Says, Answers}
use Rattle.poly_terms.proofs.FaultLaws.{first-one, first-two, first-power, says-first, small-from_none, last-none}
use Rattle.poly_terms.proofs.WideLaws.{nat_abs-neg}
use Rattle.std.proofs.lemmas.List.{length-map}

-- if neither of two parts has a fault, the second has none
or_else-second : (f g : Option Fault) → or_else f g ≡ None → g ≡ None
or_else-second None g h = h
or_else-second (Some f) g h = cc

-- if the first fault of an expression is none, the expression itself has none
last-fault : (t : Term) → first_fault t ≡ None → fault_of t ≡ None
last-fault (Literal z) h = sym (alone (fault_of (Literal z))) ∙ h
  where
    alone : (f : Option Fault) → or_else f None ≡ f
    alone None = refl
    alone (Some f) = refl
last-fault (Variable i) h = sym (alone (fault_of (Variable i))) ∙ h
  where
    alone : (f : Option Fault) → or_else f None ≡ f
    alone None = refl
    alone (Some f) = refl
last-fault (Negation e) h = or_else-second (first_fault e) (fault_of (Negation e)) (sym (first-one e (Negation e)) ∙ h)
last-fault (Addition d e) h =
    or_else-second (first_fault e) (fault_of (Addition d e))
    (or_else-second (first_fault d) (or_else (first_fault e) (fault_of (Addition d e))) (sym (first-two d e (Addition d e)) ∙ h))
last-fault (Subtraction d e) h =
    or_else-second (first_fault e) (fault_of (Subtraction d e))
    (or_else-second (first_fault d) (or_else (first_fault e) (fault_of (Subtraction d e))) (sym (first-two d e (Subtraction d e)) ∙ h))
last-fault (Multiplication d e) h =
    or_else-second (first_fault e) (fault_of (Multiplication d e))
    (or_else-second (first_fault d) (or_else (first_fault e) (fault_of (Multiplication d e))) (sym (first-two d e (Multiplication d e)) ∙ h))
last-fault (Exponentiation e n) h =
    last-none (expanded e) n (or_else-second (first_fault e) (faults_of_powers (expanded e) n) (sym (first-power e n) ∙ h))

-- the expanded form of an expression without a fault is small
pub expanded-small : (t : Term) → first_fault t ≡ None → IsSmall (expanded t)
expanded-small t h = small-from_none (expanded t) (exponent_of t) (last-fault t h)

-- the negation of a small polynomial is small
pub opposite-small : (p : Polynomial) → IsSmall p → IsSmall (map opposite p)
opposite-small p h = record {
  coefficients = bounded p h.coefficients;
  terms = omega (arith, length-map p opposite, h.terms);
  degree = omega (arith, same_degree p, h.degree);
}
  where
    bounded : (p : Polynomial) → IsBounded coefficient_limit p → IsBounded coefficient_limit (map opposite p)
    bounded [] b = tt
    bounded (m ∷ p) b = (omega (arith, b.0, nat_abs-neg m.coef), bounded p b.1)

    same_degree : (p : Polynomial) → degree_of (map opposite p) ≡ degree_of p
    same_degree [] = refl
    same_degree (m ∷ p) = ap (max (length m.vars)) (same_degree p)

-- an expression with one operand has the operand's fault, if there is one
pub one-fails : (error : PolyError) (e t : Term) → Says error (first_fault e) → Says error (first_among (subexpressions e ++ t ∷ []))
one-fails error e t h = subst (Says error) (sym (first-one e t)) (says-first error (first_fault e) (fault_of t) h)

-- if its operand has no fault, the expression has its own, or none
pub one-answers : (r : Result Poly PolyError) (p : Polynomial) (e t : Term) → first_fault e ≡ None → Answers r (fault_of t) p
    → Answers r (first_among (subexpressions e ++ t ∷ [])) p
one-answers r p e t h a =
    subst (λ (f : Option Fault). Answers r f p) (sym (first-one e t ∙ ap (λ (f : Option Fault). or_else f (fault_of t)) h)) a

-- an expression with two operands has the operands' first fault, if there is one
pub two-fail : (error : PolyError) (d e t : Term) → Says error (or_else (first_fault d) (first_fault e))
    → Says error (first_among (subexpressions d ++ (subexpressions e ++ t ∷ [])))
two-fail error d e t h =
    subst (Says error) (sym (first-two d e t ∙ regroup (first_fault d) (first_fault e) (fault_of t)))
    (says-first error (or_else (first_fault d) (first_fault e)) (fault_of t) h)
  where
    regroup : (f g k : Option Fault) → or_else f (or_else g k) ≡ or_else (or_else f g) k
    regroup None g k = refl
    regroup (Some f) g k = refl

-- if its operands have no fault, the expression has its own, or none
pub two-answer : (r : Result Poly PolyError) (p : Polynomial) (d e t : Term) → first_fault d ≡ None → first_fault e ≡ None → Answers r (fault_of t) p
    → Answers r (first_among (subexpressions d ++ (subexpressions e ++ t ∷ []))) p
two-answer r p d e t h k a =
    subst (λ (f : Option Fault). Answers r f p)
    (sym (first-two d e t ∙ (ap (λ (f : Option Fault). or_else f (or_else (first_fault e) (fault_of t))) h ∙ ap (λ (f : Option Fault). or_else f (fault_of t)) k))) a

-- a power has its base's fault, if there is one
pub power-fails : (error : PolyError) (e : Term) (n : ℕ) → Says error (first_fault e) → Says error (first_fault (Exponentiation e n))
power-fails error e n h = subst (Says error) (sym (first-power e n)) (says-first error (first_fault e) (faults_of_powers (expanded e) n) h)

-- if its base has no fault, the power has the first fault of the powers, or none
pub power-answers : (r : Result Poly PolyError) (e : Term) (n : ℕ) → first_fault e ≡ None → Answers r (faults_of_powers (expanded e) n) (power_of (expanded e) n)
    → Answers r (first_fault (Exponentiation e n)) (power_of (expanded e) n)
power-answers r e n h a =
    subst (λ (f : Option Fault). Answers r f (power_of (expanded e) n)) (sym (first-power e n ∙ ap (λ (f : Option Fault). or_else f (faults_of_powers (expanded e) n)) h)) a

-- if no lower power has a fault, the result for a power is that for it and the lower powers
pub last-answers : (r : Result Poly PolyError) (p q : Polynomial) (n : ℕ) → IsPowerWithout p n q → Answers r (fault_in q n) q
    → Answers r (faults_of_powers p n) (power_of p n)
last-answers r p q n h a =
    subst (λ (f : Option Fault). Answers r f (power_of p n)) (sym h.faults) (subst (λ (s : Polynomial). Answers r (fault_in q n) s) h.power a)
