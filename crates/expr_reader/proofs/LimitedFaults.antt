-- An exponent over the limit may be replaced by the limit plus one: the first fault is unchanged.
use Rattle.std.proofs.Common.{◌≡◌, ℕ, zero, suc, ◌+◌, ◌≤◌, ◌<◌, min, Bool, true, false, ◌||◌, List, [], ◌∷◌, ◌++◌, refl}
use Rattle.std.proofs.Common.{ap, sym, subst, ◌∙◌, arith, Option, Some, None, nat_lt, if◌then◌else◌, length, pos}
use Rattle.std.proofs.lemmas.Bool.{ltb-false}
use borrow.Author.Tests.{ltb-true}
use Rattle.model.specs.Programs.{Relation, AtLeast, MoreThan, AtMost, LessThan, EqualTo}
use Rattle.model.specs.Terms.{Term, Literal, Variable, Negation, Addition, Subtraction, Multiplication, Exponentiation}
use Rattle.model.specs.Limits.{degree_limit, monomial_limit}
use Rattle.model.specs.Polynomials.{Polynomial, degree_of}
use Rattle.poly_terms.specs.Expanding.{expanded}
use Rattle.poly_terms.specs.Faults.{Fault, LargeCoefficient, ManyTerms, HighDegree, has_large, fault_in, fault_of}
use Rattle.poly_terms.specs.Faults.{powers, subexpressions, or_else, first_among, first_fault}
use Rattle.expr_text.specs.TermGrammarStates.{limited}
use Rattle.expr_text.specs.Differences.{differences, first_of_all}

-- the first fault of three parts doesn't depend on their grouping
or_else-assoc : (a b c : Option Fault) → or_else (or_else a b) c ≡ or_else a (or_else b c)
or_else-assoc None b c = refl
or_else-assoc (Some f) b c = refl

first-append : (a b : List Term) → first_among (a ++ b) ≡ or_else (first_among a) (first_among b)
first-append [] b = refl
first-append (t ∷ a) b = ap (or_else (fault_of t)) (first-append a b) ∙ sym (or_else-assoc (fault_of t) (first_among a) (first_among b))

-- if two parts together have no fault, neither has one
or_else-none : (a b : Option Fault) → or_else a b ≡ None → (a ≡ None) × (b ≡ None)
or_else-none None b h = (refl, h)
or_else-none (Some f) b h = absurd cc

-- the first fault of two parts is unchanged if the first part's is, and the second's is where the first has none
or_else-same : (a b c d : Option Fault) → a ≡ b → (b ≡ None → c ≡ d) → or_else a c ≡ or_else b d
or_else-same a None c d e h = ap (λ a. or_else a c) e ∙ h refl
or_else-same a (Some f) c d e h = ap (λ a. or_else a c) e

-- a power whose exponent is over the limit has a fault
power_faults : (p : Polynomial) (n : ℕ) → nat_lt degree_limit n ≡ true → fault_in p n ≡ None → ⊥
power_faults p n over h = go (has_large p) (nat_lt monomial_limit (length p)) (nat_lt degree_limit n) over h
  where
    go : (a b c : Bool) → c ≡ true
        → (if a then Some LargeCoefficient else (if b then Some ManyTerms else (if c || nat_lt degree_limit (degree_of p) then Some HighDegree else None))) ≡ None → ⊥
    go true b c over h = cc
    go false true c over h = cc
    go false false true over h = cc
    go false false false over h = cc

small_exponent : (e : Term) (n : ℕ) → fault_of (Exponentiation e n) ≡ None → n ≤ degree_limit
small_exponent e n h = go (nat_lt degree_limit n) refl
  where
    go : (v : Bool) → nat_lt degree_limit n ≡ v → n ≤ degree_limit
    go true is = absurd (power_faults (expanded (Exponentiation e n)) n is h)
    go false is = ltb-false degree_limit n is

-- if no power up to an exponent has a fault, the last one has none
last_power : (e : Term) (n : ℕ) → first_among (powers e n) ≡ None → fault_of (Exponentiation e n) ≡ None
last_power e zero h = (or_else-none (fault_of (Exponentiation e 0)) None h).0
last_power e (suc n) h =
    let parts = or_else-none (first_among (powers e n)) (first_among (Exponentiation e (suc n) ∷ [])) (sym (first-append (powers e n) (Exponentiation e (suc n) ∷ [])) ∙ h) in
    (or_else-none (fault_of (Exponentiation e (suc n))) None parts.1).0

-- the first fault of the powers up to an exponent is that of the powers up to any greater one
more_powers : (e : Term) (m n : ℕ) (f : Fault) → m ≤ n → first_among (powers e m) ≡ Some f → first_among (powers e n) ≡ Some f
more_powers e m zero f le h = let same : m ≡ 0 = omega (arith, le) in subst (λ k. first_among (powers e k) ≡ Some f) same h
more_powers e m (suc n) f le h = go (nat_lt n m) refl (λ l. more_powers e m n f l h)
  where
    go : (v : Bool) → nat_lt n m ≡ v → (m ≤ n → first_among (powers e n) ≡ Some f) → first_among (powers e (suc n)) ≡ Some f
    go true is ih = let lt : n < m = ltb-true n m is in let same : m ≡ suc n = omega (arith, lt, le) in subst (λ k. first_among (powers e k) ≡ Some f) same h
    go false is ih = first-append (powers e n) (Exponentiation e (suc n) ∷ []) ∙ ap (λ a. or_else a (first_among (Exponentiation e (suc n) ∷ []))) (ih (ltb-false n m is))

-- the powers up to an exponent over the limit have a fault
some_fault : (e : Term) (m : ℕ) → degree_limit < m → (f : Fault) × (first_among (powers e m) ≡ Some f)
some_fault e m over = go (first_among (powers e m)) refl
  where
    go : (o : Option Fault) → first_among (powers e m) ≡ o → (f : Fault) × (o ≡ Some f)
    go None is = let small = small_exponent e m (last_power e m is) in absurd (omega (arith, over, small))
    go (Some f) is = (f, refl)

capped : (e : Term) (n : ℕ) → first_among (powers e (min n (degree_limit + 1))) ≡ first_among (powers e n)
capped e n = go (nat_lt degree_limit n) refl
  where
    go : (v : Bool) → nat_lt degree_limit n ≡ v → first_among (powers e (min n (degree_limit + 1))) ≡ first_among (powers e n)
    go true is =
        let over : degree_limit < n = ltb-true degree_limit n is in
        let least : min n (degree_limit + 1) ≡ degree_limit + 1 = omega (arith, over) in
        let found = some_fault e (degree_limit + 1) (omega arith) in
        ap (λ k. first_among (powers e k)) least ∙ (found.1 ∙ sym (more_powers e (degree_limit + 1) n found.0 (omega (arith, over)) found.1))
    go false is =
        let small : n ≤ degree_limit = ltb-false degree_limit n is in
        let least : min n (degree_limit + 1) ≡ n = omega (arith, small) in
        ap (λ k. first_among (powers e k)) least

-- the first fault of an operation is that of its operands, or else its own
of_two : (d e t : Term) → first_among (subexpressions d ++ (subexpressions e ++ t ∷ [])) ≡ or_else (first_fault d) (or_else (first_fault e) (first_among (t ∷ [])))
of_two d e t = first-append (subexpressions d) (subexpressions e ++ t ∷ []) ∙ ap (or_else (first_fault d)) (first-append (subexpressions e) (t ∷ []))

none_of_two : (d e t : Term) → first_among (subexpressions d ++ (subexpressions e ++ t ∷ [])) ≡ None → (first_fault d ≡ None) × (first_fault e ≡ None)
none_of_two d e t h =
    let parts = or_else-none (first_fault d) (or_else (first_fault e) (first_among (t ∷ []))) (sym (of_two d e t) ∙ h) in
    (parts.0, (or_else-none (first_fault e) (first_among (t ∷ [])) parts.1).0)

-- an expression without a fault has no exponent over the limit
pub limited_same : (t : Term) → first_fault t ≡ None → limited t ≡ t
limited_same (Literal z) h = refl
limited_same (Variable i) h = refl
limited_same (Negation e) h = ap Negation (limited_same e (or_else-none (first_fault e) (first_among (Negation e ∷ [])) (sym (first-append (subexpressions e) (Negation e ∷ [])) ∙ h)).0)
limited_same (Addition d e) h = let parts = none_of_two d e (Addition d e) h in rw (limited_same d parts.0, limited_same e parts.1) refl
limited_same (Subtraction d e) h = let parts = none_of_two d e (Subtraction d e) h in rw (limited_same d parts.0, limited_same e parts.1) refl
limited_same (Multiplication d e) h = let parts = none_of_two d e (Multiplication d e) h in rw (limited_same d parts.0, limited_same e parts.1) refl
limited_same (Exponentiation e n) h =
    let parts = or_else-none (first_fault e) (first_among (powers e n)) (sym (first-append (subexpressions e) (powers e n)) ∙ h) in
    let small = small_exponent e n (last_power e n parts.1) in
    let least : min n (degree_limit + 1) ≡ n = omega (arith, small) in
    ap (λ d. Exponentiation d (min n (degree_limit + 1))) (limited_same e parts.0) ∙ ap (Exponentiation e) least

two_limited : (make : Term → Term → Term) (d e : Term) → first_fault (limited d) ≡ first_fault d → first_fault (limited e) ≡ first_fault e
    → first_among (subexpressions (limited d) ++ (subexpressions (limited e) ++ make (limited d) (limited e) ∷ [])) ≡ first_among (subexpressions d ++ (subexpressions e ++ make d e ∷ []))
two_limited make d e left right =
    of_two (limited d) (limited e) (make (limited d) (limited e))
    ∙ (or_else-same (first_fault (limited d)) (first_fault d) _ _ left (λ none. or_else-same (first_fault (limited e)) (first_fault e) _ _ right
    (λ other. ap (λ x. first_among (make x (limited e) ∷ [])) (limited_same d none) ∙ ap (λ x. first_among (make d x ∷ [])) (limited_same e other)))
    ∙ sym (of_two d e (make d e)))

-- limiting the exponents of an expression doesn't change its first fault
pub limited_fault : (t : Term) → first_fault (limited t) ≡ first_fault t
limited_fault (Literal z) = refl
limited_fault (Variable i) = refl
limited_fault (Negation e) =
    first-append (subexpressions (limited e)) (Negation (limited e) ∷ [])
    ∙ (or_else-same (first_fault (limited e)) (first_fault e) _ _ (limited_fault e) (λ none. ap (λ x. first_among (Negation x ∷ [])) (limited_same e none))
    ∙ sym (first-append (subexpressions e) (Negation e ∷ [])))
limited_fault (Addition d e) = two_limited Addition d e (limited_fault d) (limited_fault e)
limited_fault (Subtraction d e) = two_limited Subtraction d e (limited_fault d) (limited_fault e)
limited_fault (Multiplication d e) = two_limited Multiplication d e (limited_fault d) (limited_fault e)
limited_fault (Exponentiation e n) =
    first-append (subexpressions (limited e)) (powers (limited e) (min n (degree_limit + 1)))
    ∙ (or_else-same (first_fault (limited e)) (first_fault e) _ _ (limited_fault e) (λ none. ap (λ x. first_among (powers x (min n (degree_limit + 1)))) (limited_same e none) ∙ capped e n)
    ∙ sym (first-append (subexpressions e) (powers e n)))

-- limiting exponents doesn't change the first fault of an atom's differences
pub limited_differences : (l : Term) (relation : Relation) (r : Term) → first_of_all (differences (limited l) relation (limited r)) ≡ first_of_all (differences l relation r)
limited_differences l AtLeast r = ap (λ f. or_else f None) (limited_fault (Subtraction l r))
limited_differences l MoreThan r = ap (λ f. or_else f None) (limited_fault (Subtraction (Subtraction l r) (Literal (pos 1))))
limited_differences l AtMost r = ap (λ f. or_else f None) (limited_fault (Subtraction r l))
limited_differences l LessThan r = ap (λ f. or_else f None) (limited_fault (Subtraction (Subtraction r l) (Literal (pos 1))))
limited_differences l EqualTo r =
    ap (λ f. or_else f (or_else (first_fault (limited (Subtraction r l))) None)) (limited_fault (Subtraction l r))
    ∙ ap (λ f. or_else (first_fault (Subtraction l r)) (or_else f None)) (limited_fault (Subtraction r l))
