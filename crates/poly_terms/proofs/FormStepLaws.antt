-- From the forms of operands to that of the whole, if it is computed with polynomials and packed again.
use Rattle.std.proofs.Common.{◌≡◌, ℕ, List, map, ap, sym, ◌∙◌, subst, arith}
use Rattle.std.specs.Prelude.{None, Result}
use Rattle.model.specs.Polynomials.{Polynomial, degree_of}
use Rattle.model.specs.Terms.{Term, Negation, Addition, Subtraction, Multiplication, Exponentiation}
use Rattle.poly_terms.specs.declared.form_error.FormError.{FormError}
use Rattle.poly_terms.specs.declared.form_error.FormError.TheVariants.{Unfit, Faulty}
use Rattle.poly_terms.specs.declared.key_form.KeyForm.{KeyForm}
use Rattle.poly_terms.specs.declared.keyed.Keyed.{Keyed}
use Rattle.poly_terms.specs.declared.poly.Poly.{Poly}
use Rattle.poly_terms.specs.declared.poly_error.PolyError.{PolyError}
use Rattle.poly_terms.specs.Answers.{Answers}
use Rattle.poly_terms.specs.Expanding.{opposite, sum_of, product_of, power_of, expanded}
use Rattle.poly_terms.specs.Faults.{fault_in, first_fault, or_else}
use Rattle.poly_terms.specs.KeyForms.{IsExpansion, IsExpansionOf, IsFaultOf, IsPackedFrom, RepresentsTerm, RepresentsSomeTerm}
use Rattle.poly_terms.specs.Keys.{monomials_at, IsMergedFrom}
use Rattle.poly_terms.specs.Ordered.{IsOrdered, IsSmall}
use Rattle.poly_terms.specs.Powers.{faults_of_powers}
use Rattle.poly_terms.specs.Totals.{IsSamePolynomial}
use Rattle.poly_terms.proofs.AnswerLaws.{expanded-small, two-answer, one-fails, two-fail, power-answers, power-fails}
use Rattle.poly_terms.proofs.KeyLaws.{degree-merged, same-at}
use Rattle.poly_terms.proofs.OrderLaws.{expanded-ordered}

-- the polynomial of a form that represents some expression is small and ordered
pub expansion-of : (table : List ℕ) (f : KeyForm) (p : Polynomial) → RepresentsSomeTerm table f
    → ((t : Term) → RepresentsTerm table t f → IsExpansion t p) → IsExpansionOf table f p
expansion-of table f p s h =
    let e = h s.term s.stands in record {
      small = subst IsSmall (sym e.form) (expanded-small s.term e.none);
      ordered = subst IsOrdered (sym e.form) (expanded-ordered s.term);
      whole = h;
    }

-- the packed polynomial of an expression without a fault represents the expression
pub packed-stands : (table : List ℕ) (t : Term) (p : Polynomial) (f : KeyForm) → IsPackedFrom table p f → p ≡ expanded t
    → first_fault t ≡ None → RepresentsTerm table t f
packed-stands table t p f h e n =
    let small = expanded-small t n in
    record {
      whole = subst (IsSamePolynomial (monomials_at table f.terms.items)) e h.terms;
      none = n;
      factors = h.factors;
      low = omega (arith, h.degree, ap degree_of e, small.degree);
    }

-- packed monomials in another order denote the same polynomial, with the same bound on its degree
pub packed-in_order : (table : List ℕ) (es : List Keyed) (p : Polynomial) (f : KeyForm) → monomials_at table es ≡ p
    → IsMergedFrom f.terms.items es → f.degree ≡ degree_of p → IsPackedFrom table p f
packed-in_order table es p f e m d = record {
  terms = subst (IsSamePolynomial (monomials_at table f.terms.items)) e (same-at table f.terms.items es m);
  factors = omega (arith, degree-merged table f.terms.items es m, ap degree_of e, d);
  degree = d;
}

-- the result of adding the operands' polynomials is right for their sum
pub sum-answers : (r : Result Poly PolyError) (p q : Polynomial) (d e : Term) → IsExpansion d p → IsExpansion e q
    → Answers r (fault_in (sum_of p q) 1) (sum_of p q) → Answers r (first_fault (Addition d e)) (expanded (Addition d e))
sum-answers r p q d e h k a =
    two-answer r (expanded (Addition d e)) d e (Addition d e) h.none k.none
    (subst (λ (s : Polynomial). Answers r (fault_in s 1) s) (λ i. sum_of (h.form i) (k.form i)) a)

-- the result of adding the negation is right for their difference
pub difference-answers : (r : Result Poly PolyError) (p q s : Polynomial) (d e : Term) → IsExpansion d p → IsExpansion e q
    → s ≡ map opposite q → Answers r (fault_in (sum_of p s) 1) (sum_of p s)
    → Answers r (first_fault (Subtraction d e)) (expanded (Subtraction d e))
difference-answers r p q s d e h k is a =
    let right = is ∙ ap (map opposite) k.form in
    two-answer r (expanded (Subtraction d e)) d e (Subtraction d e) h.none k.none
    (subst (λ (u : Polynomial). Answers r (fault_in u 1) u) (λ i. sum_of (h.form i) (right i)) a)

-- the result of multiplying the operands' polynomials is right for their product
pub product-answers : (r : Result Poly PolyError) (p q : Polynomial) (d e : Term) → IsExpansion d p → IsExpansion e q
    → Answers r (fault_in (product_of p q) 1) (product_of p q)
    → Answers r (first_fault (Multiplication d e)) (expanded (Multiplication d e))
product-answers r p q d e h k a =
    two-answer r (expanded (Multiplication d e)) d e (Multiplication d e) h.none k.none
    (subst (λ (s : Polynomial). Answers r (fault_in s 1) s) (λ i. product_of (h.form i) (k.form i)) a)

-- the result of a power of the operand's polynomial is right for the power
pub exponent-answers : (r : Result Poly PolyError) (p : Polynomial) (e : Term) (n : ℕ) → IsExpansion e p
    → Answers r (faults_of_powers p n) (power_of p n) → Answers r (first_fault (Exponentiation e n)) (expanded (Exponentiation e n))
exponent-answers r p e n h a =
    power-answers r e n h.none (subst (λ (s : Polynomial). Answers r (faults_of_powers s n) (power_of s n)) h.form a)

-- a negation has the fault of its operand, if there is one
pub negation-faulty : (error : FormError) (e : Term) → IsFaultOf error (first_fault e) → IsFaultOf error (first_fault (Negation e))
negation-faulty Unfit e h = tt
negation-faulty (Faulty error) e h = one-fails error e (Negation e) h

-- a sum, a difference and a product have the first fault of their operands, if there is one
pub sum-faulty : (error : FormError) (d e : Term) → IsFaultOf error (or_else (first_fault d) (first_fault e))
    → IsFaultOf error (first_fault (Addition d e))
sum-faulty Unfit d e h = tt
sum-faulty (Faulty error) d e h = two-fail error d e (Addition d e) h

pub difference-faulty : (error : FormError) (d e : Term) → IsFaultOf error (or_else (first_fault d) (first_fault e))
    → IsFaultOf error (first_fault (Subtraction d e))
difference-faulty Unfit d e h = tt
difference-faulty (Faulty error) d e h = two-fail error d e (Subtraction d e) h

pub product-faulty : (error : FormError) (d e : Term) → IsFaultOf error (or_else (first_fault d) (first_fault e))
    → IsFaultOf error (first_fault (Multiplication d e))
product-faulty Unfit d e h = tt
product-faulty (Faulty error) d e h = two-fail error d e (Multiplication d e) h

-- a power has the fault of its base, if there is one
pub power-faulty : (error : FormError) (e : Term) (n : ℕ) → IsFaultOf error (first_fault e)
    → IsFaultOf error (first_fault (Exponentiation e n))
power-faulty Unfit e n h = tt
power-faulty (Faulty error) e n h = power-fails error e n h
