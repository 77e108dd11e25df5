-- Packed monomials that represent an expression.
use Rattle.std.specs.Prelude.{◌≡◌, ℕ, ◌≤◌, ⊤, Option, None, List, Result, MatchResult, IfSome}
use Rattle.model.specs.Limits.{degree_limit}
use Rattle.model.specs.Polynomials.{Polynomial, degree_of}
use Rattle.model.specs.Terms.{Term}
use Rattle.poly_terms.specs.declared.form_error.FormError.{FormError}
use Rattle.poly_terms.specs.declared.form_error.FormError.TheVariants.{Unfit, Faulty}
use Rattle.poly_terms.specs.declared.forming.FormPair.{FormPair}
use Rattle.poly_terms.specs.declared.key_form.KeyForm.{KeyForm}
use Rattle.poly_terms.specs.declared.keyed.Keyed.{Keyed}
use Rattle.poly_terms.specs.declared.poly.Poly.{Poly}
use Rattle.poly_terms.specs.declared.poly_error.PolyError.{PolyError}
use Rattle.poly_terms.specs.Answers.{Says}
use Rattle.poly_terms.specs.Expanding.{expanded}
use Rattle.poly_terms.specs.Faults.{Fault, first_fault, or_else}
use Rattle.poly_terms.specs.Keys.{monomials_at, IsModest}
use Rattle.poly_terms.specs.Ordered.{IsOrdered, IsSmall}
use Rattle.poly_terms.specs.Totals.{IsSamePolynomial}
use Rattle.poly_terms.specs.Views.{poly_of}

-- a form has these monomials and this degree, which are within the limits
pub record IsWithinLimits (table : List ℕ) (es : List Keyed) (n : ℕ) (f : KeyForm) : Type 0 where
  pub terms : f.terms.items ≡ es
  pub modest : IsModest table es
  pub degree : f.degree ≡ n
  pub low : n ≤ degree_limit

-- a form represents an expression: its monomials add up to the expanded form, no subexpression has a fault, and no
-- monomial has more factors than the form's degree, which is at most 8
pub record RepresentsTerm (table : List ℕ) (t : Term) (f : KeyForm) : Type 0 where
  pub whole : IsSamePolynomial (monomials_at table f.terms.items) (expanded t)
  pub none : first_fault t ≡ None
  pub factors : degree_of (monomials_at table f.terms.items) ≤ f.degree
  pub low : f.degree ≤ degree_limit

-- no monomial of a form has more factors than its degree
pub record HasDegree (table : List ℕ) (f : KeyForm) : Type 0 where
  pub factors : degree_of (monomials_at table f.terms.items) ≤ f.degree

-- a form represents some expression
pub record RepresentsSomeTerm (table : List ℕ) (f : KeyForm) : Type 0 where
  pub term : Term
  pub stands : RepresentsTerm table term f

-- a polynomial is the expanded form of an expression without a fault
pub record IsExpansion (t : Term) (p : Polynomial) : Type 0 where
  pub form : p ≡ expanded t
  pub none : first_fault t ≡ None

-- a polynomial is small and ordered, and is the expanded form of each expression that a form represents
pub record IsExpansionOf (table : List ℕ) (f : KeyForm) (p : Polynomial) : Type 0 where
  pub small : IsSmall p
  pub ordered : IsOrdered p
  pub whole : (t : Term) → RepresentsTerm table t f → IsExpansion t p

-- a form's monomials are those of a polynomial, in any order; none has more factors than the form's degree, which is
-- the polynomial's
pub record IsPackedFrom (table : List ℕ) (p : Polynomial) (f : KeyForm) : Type 0 where
  pub terms : IsSamePolynomial (monomials_at table f.terms.items) p
  pub factors : degree_of (monomials_at table f.terms.items) ≤ f.degree
  pub degree : f.degree ≡ degree_of p

-- the error is the fault; that something doesn't fit, or that memory ran out, is always permitted
abbrev pub IsFaultOf : FormError → Option Fault → Type 0
IsFaultOf Unfit fault = ⊤
IsFaultOf (Faulty error) fault = Says error fault

-- the result is a form that represents the expression, else its first fault
abbrev pub GivesForm : List ℕ → Result KeyForm FormError → Term → Type 0
GivesForm table result t = MatchResult result (RepresentsTerm table t) (λ e. IsFaultOf e (first_fault t))

-- the forms of two operands represent them
pub record RepresentOperands (table : List ℕ) (d e : Term) (p : FormPair) : Type 0 where
  pub left : RepresentsTerm table d p.left
  pub right : RepresentsTerm table e p.right

-- the result represents two operands, else it is the first fault among them
abbrev pub GivesBothForms : List ℕ → Result FormPair FormError → Term → Term → Type 0
GivesBothForms table result d e =
    MatchResult result (RepresentOperands table d e) (λ error. IsFaultOf error (or_else (first_fault d) (first_fault e)))

-- the result is the expanded form of an expression, else its first fault
abbrev pub GivesExpansion : Result Poly FormError → Term → Type 0
GivesExpansion result t = MatchResult result (λ p. IsExpansion t (poly_of p)) (λ e. IsFaultOf e (first_fault t))

-- a polynomial in the result is the expanded form of the expression, and an error is its first fault
abbrev pub MayGiveExpansion : Result (Option Poly) PolyError → Term → Type 0
MayGiveExpansion result t =
    MatchResult result (λ found. IfSome found (λ p. IsExpansion t (poly_of p))) (λ e. Says e (first_fault t))
