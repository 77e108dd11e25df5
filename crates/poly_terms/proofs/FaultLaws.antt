-- The first fault among subexpressions, and what follows if a polynomial has none.
use Rattle.std.proofs.Common.{◌≡◌, ℕ, zero, suc, ◌+◌, ◌≤◌, ◌||◌, List, [], ◌∷◌, ◌++◌, length, Bool, true, false, refl}
use Rattle.std.proofs.Common.{ap, ◌∙◌, subst, arith, nat_lt, if◌then◌else◌}
use Rattle.std.specs.Prelude.{Option, Some, None, nat_abs}
use Rattle.std.proofs.lemmas.Bool.Decides.{nat_tests}
use Rattle.model.specs.Terms.{Term, Exponentiation}
use Rattle.model.specs.Polynomials.{Polynomial, degree_of}
use Rattle.poly_terms.specs.declared.poly_error.PolyError.{PolyError}
use Rattle.poly_terms.specs.declared.poly_error.PolyError.TheVariants.{CoefTooLarge, TooManyTerms, DegreeTooHigh}
use Rattle.poly_terms.specs.declared.poly_error.PolyError.TheVariants.{Memory}
use Rattle.poly_terms.specs.Expanding.{expanded, power_of}
use Rattle.model.specs.Limits.{coefficient_limit, monomial_limit, degree_limit}
use Rattle.poly_terms.specs.Faults.{Fault, LargeCoefficient, ManyTerms, HighDegree, has_large, fault_in, fault_of}
use Rattle.poly_terms.specs.Faults.{powers, subexpressions, or_else, first_among, first_fault}
use Rattle.poly_terms.specs.Powers.{faults_of_powers}
use Rattle.poly_terms.specs.Ordered.{IsBounded, IsSmall}
use Rattle.poly_terms.specs.Answers.{Says}

-- the first fault of appended lists is that of the first, else that of the second
pub first-append : (xs ys : List Term) → first_among (xs ++ ys) ≡ or_else (first_among xs) (first_among ys)
first-append [] ys = refl
first-append (x ∷ xs) ys = ap (or_else (fault_of x)) (first-append xs ys) ∙ regroup (fault_of x)
  where
    regroup : (f : Option Fault) → or_else f (or_else (first_among xs) (first_among ys)) ≡ or_else (or_else f (first_among xs)) (first_among ys)
    regroup None = refl
    regroup (Some f) = refl

-- a fault before none is the first fault
pub or_else-none : (f : Option Fault) → or_else f None ≡ f
or_else-none None = refl
or_else-none (Some f) = refl

-- the first fault of a list with one more expression
pub first-snoc : (xs : List Term) (t : Term) → first_among (xs ++ t ∷ []) ≡ or_else (first_among xs) (fault_of t)
first-snoc xs t = first-append xs (t ∷ []) ∙ ap (or_else (first_among xs)) (or_else-none (fault_of t))

-- the first fault of an expression with one child
pub first-one : (e t : Term) → first_among (subexpressions e ++ t ∷ []) ≡ or_else (first_fault e) (fault_of t)
first-one e t = first-snoc (subexpressions e) t

-- the first fault of an expression with two children
pub first-two : (d e t : Term) → first_among (subexpressions d ++ (subexpressions e ++ t ∷ [])) ≡ or_else (first_fault d) (or_else (first_fault e) (fault_of t))
first-two d e t = first-append (subexpressions d) (subexpressions e ++ t ∷ []) ∙ ap (or_else (first_fault d)) (first-snoc (subexpressions e) t)

-- the first fault of the powers of an expression
first-powers : (e : Term) (n : ℕ) → first_among (powers e n) ≡ faults_of_powers (expanded e) n
first-powers e zero = or_else-none (fault_in (power_of (expanded e) 0) 0)
first-powers e (suc n) =
    first-snoc (powers e n) (Exponentiation e (suc n))
    ∙ ap (λ (f : Option Fault). or_else f (fault_in (power_of (expanded e) (suc n)) (suc n))) (first-powers e n)

-- the first fault of a power
pub first-power : (e : Term) (n : ℕ) → first_fault (Exponentiation e n) ≡ or_else (first_fault e) (faults_of_powers (expanded e) n)
first-power e n = first-append (subexpressions e) (powers e n) ∙ ap (or_else (first_fault e)) (first-powers e n)

-- an error that is the first of two faults is their first fault
pub says-first : (e : PolyError) (f g : Option Fault) → Says e f → Says e (or_else f g)
says-first CoefTooLarge f g h = ap (λ (k : Option Fault). or_else k g) h
says-first TooManyTerms f g h = ap (λ (k : Option Fault). or_else k g) h
says-first DegreeTooHigh f g h = ap (λ (k : Option Fault). or_else k g) h
says-first Memory f g h = tt

-- a fault among the lower powers is one among the powers
pub says-powers : (e : PolyError) (p : Polynomial) (k n : ℕ) → k ≤ n → Says e (faults_of_powers p k) → Says e (faults_of_powers p n)
says-powers e p k zero l h = subst (λ (j : ℕ). Says e (faults_of_powers p j)) (let z : k ≡ 0 = omega arith in z) h
says-powers e p k (suc n) l h = go (nat_lt n k) refl (λ m. says-powers e p k n m h)
  where
    same : nat_lt n k ≡ true → k ≡ suc n
    same g = grind (arith, nat_tests)

    less : nat_lt n k ≡ false → k ≤ n
    less g = grind (arith, nat_tests)

    go : (b : Bool) → nat_lt n k ≡ b → (k ≤ n → Says e (faults_of_powers p n)) → Says e (faults_of_powers p (suc n))
    go true g ih = subst (λ (j : ℕ). Says e (faults_of_powers p j)) (same g) h
    go false g ih = says-first e (faults_of_powers p n) (fault_in (power_of p (suc n)) (suc n)) (ih (less g))

-- if the powers up to n have no fault, the first among those up to n + 1 is that of the last
pub powers-next : (p : Polynomial) (n : ℕ) → faults_of_powers p n ≡ None → faults_of_powers p (n + 1) ≡ fault_in (power_of p (n + 1)) (n + 1)
powers-next p n h = subst (λ (k : ℕ). faults_of_powers p k ≡ fault_in (power_of p k) k) (let e : suc n ≡ n + 1 = omega arith in e)
    (ap (λ (f : Option Fault). or_else f (fault_in (power_of p (suc n)) (suc n))) h)

-- a polynomial without a large coefficient has bounded coefficients
no-large : (p : Polynomial) → has_large p ≡ false → IsBounded coefficient_limit p
no-large [] h = tt
no-large (m ∷ p) h = go (nat_lt coefficient_limit (nat_abs m.coef)) refl h (no-large p)
  where
    small : nat_lt coefficient_limit (nat_abs m.coef) ≡ false → nat_abs m.coef ≤ coefficient_limit
    small g = grind (arith, nat_tests)

    go : (b : Bool) → nat_lt coefficient_limit (nat_abs m.coef) ≡ b → (b || has_large p) ≡ false
        → (has_large p ≡ false → IsBounded coefficient_limit p) → IsBounded coefficient_limit (m ∷ p)
    go true g k ih = cc
    go false g k ih = (small g, ih k)

-- a polynomial without a fault is small
pub small-from_none : (p : Polynomial) (n : ℕ) → fault_in p n ≡ None → IsSmall p
small-from_none p n h = go (has_large p) (nat_lt monomial_limit (length p)) (nat_lt degree_limit n) (nat_lt degree_limit (degree_of p)) refl refl refl h
  where
    few : nat_lt monomial_limit (length p) ≡ false → length p ≤ monomial_limit
    few g = grind (arith, nat_tests)

    low : nat_lt degree_limit (degree_of p) ≡ false → degree_of p ≤ degree_limit
    low g = grind (arith, nat_tests)

    go : (a b c d : Bool) → has_large p ≡ a → nat_lt monomial_limit (length p) ≡ b → nat_lt degree_limit (degree_of p) ≡ d
        → (if a then Some LargeCoefficient else (if b then Some ManyTerms else (if c || d then Some HighDegree else None))) ≡ None → IsSmall p
    go true b c d e f g k = cc
    go false true c d e f g k = cc
    go false false true d e f g k = cc
    go false false false true e f g k = cc
    go false false false false e f g k = record { coefficients = no-large p e; terms = few f; degree = low g }

-- if no power up to an exponent has a fault, the last has none
pub last-none : (p : Polynomial) (n : ℕ) → faults_of_powers p n ≡ None → fault_in (power_of p n) n ≡ None
last-none p zero h = h
last-none p (suc n) h = go (faults_of_powers p n) h
  where
    go : (f : Option Fault) → or_else f (fault_in (power_of p (suc n)) (suc n)) ≡ None → fault_in (power_of p (suc n)) (suc n) ≡ None
    go None g = g
    go (Some f) g = cc
