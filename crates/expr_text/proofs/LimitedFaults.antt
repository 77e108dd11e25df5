-- An exponent over the limit on degrees may be replaced by the limit plus one. No refusal changes, as a power with
-- either exponent is refused with the same fault; and no expression that can be expanded changes.
use Rattle.std.proofs.Common.{◌≡◌, ℕ, zero, suc, ◌≤◌, min, Bool, true, false, if◌then◌else◌, ◌||◌, nat_lt, List, []}
use Rattle.std.proofs.Common.{◌∷◌, ◌++◌, length, Option, Some, None, refl, ap, sym, subst, ◌∙◌, inl, inr, arith}
use Rattle.std.specs.Prelude.{◌⊎◌}
use Rattle.its_model.specs.model.Terms.{Term, Literal, Variable, Negation, Addition, Subtraction, Multiplication}
use Rattle.its_model.specs.model.Terms.{Exponentiation}
use Rattle.its_model.specs.model.Polynomials.{Polynomial, degree_of}
use Rattle.its_model.specs.poly_terms.Expanding.{expanded}
use Rattle.its_model.specs.poly_terms.Faults.{Fault, LargeCoefficient, ManyTerms, HighDegree, has_large, fault_in}
use Rattle.its_model.specs.poly_terms.Faults.{fault_of}
use Rattle.its_model.specs.poly_terms.Faults.{powers, subexpressions, or_else, first_among, first_fault}
use Rattle.expr_text.specs.TermGrammarStates.{limited}
use Rattle.expr_text.specs.Limited.{LimitedAlike}
use Rattle.its_model.proofs.poly_terms.FaultLaws.{first-append as among_append, first-snoc as one_part}

two_parts : (xs ys : List Term) (t : Term) → first_among (xs ++ (ys ++ t ∷ [])) ≡ or_else (first_among xs) (or_else (first_among ys) (fault_of t))
two_parts xs ys t = among_append xs (ys ++ t ∷ []) ∙ ap (or_else (first_among xs)) (one_part ys t)

-- if the expression has a fault, the limited one has the same fault; if not, the limited one is the expression itself
abbrev Holds : Term → Option Fault → Type 0
Holds t None = limited t ≡ t
Holds t (Some x) = first_fault (limited t) ≡ Some x

-- an expression that limiting doesn't change has the same fault when limited
itself : (t : Term) (o : Option Fault) → limited t ≡ t → first_fault t ≡ o → Holds t o
itself t None same is = same
itself t (Some x) same is = ap first_fault same ∙ is

-- an operation with two operands has the same fault when limited, if the operands have
binary : (C : Term → Term → Term) → ((d e : Term) → first_fault (C d e) ≡ or_else (first_fault d) (or_else (first_fault e) (fault_of (C d e))))
    → ((d e : Term) → limited (C d e) ≡ C (limited d) (limited e)) → (d e : Term) → Holds d (first_fault d) → Holds e (first_fault e) → Holds (C d e) (first_fault (C d e))
binary C parts lim d e hd he = subst (Holds (C d e)) (sym (parts d e)) (go (first_fault d) (first_fault e) refl refl hd he)
  where
    go : (a b : Option Fault) → first_fault d ≡ a → first_fault e ≡ b → Holds d a → Holds e b → Holds (C d e) (or_else a (or_else b (fault_of (C d e))))
    go None None p q hd he =
        itself (C d e) (fault_of (C d e)) (lim d e ∙ (ap (λ x. C x (limited e)) hd ∙ ap (C d) he))
        (parts d e ∙ (ap (λ a. or_else a (or_else (first_fault e) (fault_of (C d e)))) p ∙ ap (λ b. or_else b (fault_of (C d e))) q))
    go (Some x) b p q hd he =
        ap first_fault (lim d e) ∙ (parts (limited d) (limited e) ∙ ap (λ a. or_else a (or_else (first_fault (limited e)) (fault_of (C (limited d) (limited e))))) hd)
    go None (Some y) p q hd he =
        ap first_fault (lim d e)
        ∙ (parts (limited d) (limited e)
        ∙ (ap (λ a. or_else a (or_else (first_fault (limited e)) (fault_of (C (limited d) (limited e))))) (ap first_fault hd ∙ p)
        ∙ ap (λ b. or_else b (fault_of (C (limited d) (limited e)))) he))

-- a power with the limit plus one as exponent has a fault
nine_in : (p : Polynomial) → (y : Fault) × (fault_in p 9 ≡ Some y)
nine_in p = go (has_large p) (nat_lt 64 (length p))
  where
    go : (a b : Bool) → (y : Fault) × ((if a then Some LargeCoefficient else (if b then Some ManyTerms else (if nat_lt 8 9 || nat_lt 8 (degree_of p) then Some HighDegree else None))) ≡ Some y)
    go true b = (LargeCoefficient, refl)
    go false true = (ManyTerms, refl)
    go false false = (HighDegree, refl)

-- the powers up to that exponent have a first fault
nine_fails : (e : Term) → (y : Fault) × (first_among (powers e 9) ≡ Some y)
nine_fails e = go (first_among (powers e 8)) (nine_in (expanded (Exponentiation e 9))) (one_part (powers e 8) (Exponentiation e 9))
  where
    go : (o : Option Fault) → (y : Fault) × (fault_of (Exponentiation e 9) ≡ Some y) → first_among (powers e 9) ≡ or_else o (fault_of (Exponentiation e 9)) → (y : Fault) × (first_among (powers e 9) ≡ Some y)
    go None nine is = (nine.0, is ∙ nine.1)
    go (Some x) nine is = (x, is)

-- that fault is also the first of the powers up to any greater exponent
powers_fail : (e : Term) (y : Fault) → first_among (powers e 9) ≡ Some y → (n : ℕ) → 9 ≤ n → first_among (powers e n) ≡ Some y
powers_fail e y is zero h = absurd (omega (arith, h))
powers_fail e y is (suc n) h = go (split n h) (λ more. powers_fail e y is n more)
  where
    split : (n : ℕ) → 9 ≤ suc n → (suc n ≡ 9) ⊎ (9 ≤ n)
    split n h = grind (arith, h)

    go : (suc n ≡ 9) ⊎ (9 ≤ n) → (9 ≤ n → first_among (powers e n) ≡ Some y) → first_among (powers e (suc n)) ≡ Some y
    go (inl same) ih = ap (λ k. first_among (powers e k)) same ∙ is
    go (inr more) ih = one_part (powers e n) (Exponentiation e (suc n)) ∙ ap (λ o. or_else o (fault_of (Exponentiation e (suc n)))) (ih more)

-- a power has the same fault when limited, if its base has
power_parts : (e : Term) (n : ℕ) → first_fault (Exponentiation e n) ≡ or_else (first_fault e) (first_among (powers e n))
power_parts e n = among_append (subexpressions e) (powers e n)

power : (e : Term) (n : ℕ) → Holds e (first_fault e) → Holds (Exponentiation e n) (first_fault (Exponentiation e n))
power e n he = subst (Holds (Exponentiation e n)) (sym (power_parts e n)) (go (first_fault e) refl he)
  where
    small : first_fault e ≡ None → limited e ≡ e → (n ≤ 9) ⊎ (9 ≤ n) → Holds (Exponentiation e n) (first_among (powers e n))
    small p he (inl few) =
        let same : min n 9 ≡ n = omega (arith, few) in
        itself (Exponentiation e n) (first_among (powers e n)) (ap (λ d. Exponentiation d (min n 9)) he ∙ ap (Exponentiation e) same)
        (power_parts e n ∙ ap (λ o. or_else o (first_among (powers e n))) p)
    small p he (inr many) =
        let same : min n 9 ≡ 9 = omega (arith, many) in
        let nine = nine_fails e in
        subst (Holds (Exponentiation e n)) (sym (powers_fail e nine.0 nine.1 n many))
        (ap (λ d. first_fault (Exponentiation d (min n 9))) he
        ∙ (ap (λ k. first_fault (Exponentiation e k)) same ∙ (power_parts e 9 ∙ (ap (λ o. or_else o (first_among (powers e 9))) p ∙ nine.1))))

    go : (o : Option Fault) → first_fault e ≡ o → Holds e o → Holds (Exponentiation e n) (or_else o (first_among (powers e n)))
    go None p he = small p he (either n)
      where
        either : (n : ℕ) → (n ≤ 9) ⊎ (9 ≤ n)
        either n = grind arith
    go (Some x) p he = power_parts (limited e) (min n 9) ∙ ap (λ o. or_else o (first_among (powers (limited e) (min n 9)))) he

-- a negation has the same fault when limited, if its operand has
negation : (e : Term) → Holds e (first_fault e) → Holds (Negation e) (first_fault (Negation e))
negation e he = subst (Holds (Negation e)) (sym (one_part (subexpressions e) (Negation e))) (go (first_fault e) refl he)
  where
    go : (o : Option Fault) → first_fault e ≡ o → Holds e o → Holds (Negation e) (or_else o (fault_of (Negation e)))
    go None p he = itself (Negation e) (fault_of (Negation e)) (ap Negation he) (one_part (subexpressions e) (Negation e) ∙ ap (λ o. or_else o (fault_of (Negation e))) p)
    go (Some x) p he = one_part (subexpressions (limited e)) (Negation (limited e)) ∙ ap (λ o. or_else o (fault_of (Negation (limited e)))) he

-- each expression has the same fault when limited
holds : (t : Term) → Holds t (first_fault t)
holds (Literal z) = itself (Literal z) (first_fault (Literal z)) refl refl
holds (Variable i) = itself (Variable i) (first_fault (Variable i)) refl refl
holds (Negation e) = negation e (holds e)
holds (Addition d e) = binary Addition (λ x y. two_parts (subexpressions x) (subexpressions y) (Addition x y)) (λ x y. refl) d e (holds d) (holds e)
holds (Subtraction d e) = binary Subtraction (λ x y. two_parts (subexpressions x) (subexpressions y) (Subtraction x y)) (λ x y. refl) d e (holds d) (holds e)
holds (Multiplication d e) = binary Multiplication (λ x y. two_parts (subexpressions x) (subexpressions y) (Multiplication x y)) (λ x y. refl) d e (holds d) (holds e)
holds (Exponentiation e n) = power e n (holds e)

-- limiting the exponents of an expression doesn't change its first fault
pub limited_fault : (t : Term) → first_fault (limited t) ≡ first_fault t
limited_fault t = go (first_fault t) refl (holds t)
  where
    go : (o : Option Fault) → first_fault t ≡ o → Holds t o → first_fault (limited t) ≡ first_fault t
    go None is same = ap first_fault same
    go (Some x) is same = same ∙ sym is

-- limiting the exponents of an expression that can be expanded doesn't change the expression
pub limited_itself : (t : Term) → first_fault t ≡ None → limited t ≡ t
limited_itself t is = subst (Holds t) is (holds t)

-- limiting the exponents of an expression changes neither its refusal nor an expression that isn't refused
pub limited_alike : LimitedAlike
limited_alike = record { refused = limited_fault; itself = limited_itself }
