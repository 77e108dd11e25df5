-- The terms built from the parts of a state are the terms of the written parts.
use Rattle.std.proofs.Common.{◌≡◌, ℕ, zero, suc, List, [], ◌∷◌, ◌++◌, refl, ap, sym, ◌∙◌, reverse}
use Rattle.std.proofs.lemmas.List.{reverse-append, reverse-reverse}
use Rattle.model.specs.Programs.{Name}
use Rattle.model.specs.Terms.{Addition, Subtraction, Multiplication}
use Rattle.expr_text.specs.Trees.{Factor, Negated}
use Rattle.expr_text.specs.Terms.{sum_term, product_term, factor_term}
use Rattle.expr_text.specs.GrammarStates as written
use Rattle.expr_text.specs.GrammarStates.{NoSum, PlusAfter, MinusAfter, NoProduct, TimesAfter, Level}
use Rattle.expr_text.specs.TermGrammarStates as terms
use Rattle.expr_text.specs.TermGrammarStates.{limited, factored_terms, summed_terms}

-- the term of a factor after this many `-` signs
negated_term : (names : List Name) (n : ℕ) (f : Factor) → limited (factor_term names (written.negated n f)) ≡ terms.negated n (limited (factor_term names f))
negated_term names zero f = refl
negated_term names (suc n) f = negated_term names n (Negated f)

-- the term of the product that is complete with its last factor
pub product_of : (names : List Name) (p : written.Factored) (n : ℕ) (f : Factor)
    → limited (product_term names (written.product_with p (written.negated n f))) ≡ terms.product_with (factored_terms names p) (terms.negated n (limited (factor_term names f)))
product_of names NoProduct n f = negated_term names n f
product_of names (TimesAfter p) n f = ap (λ t. Multiplication (limited (product_term names p)) t) (negated_term names n f)

-- the term of the sum that is complete with its last factor
pub sum_of : (names : List Name) (l : Level) (f : Factor)
    → limited (sum_term names (written.sum_made l f)) ≡ terms.sum_with (summed_terms names l.sum) (terms.product_with (factored_terms names l.product) (terms.negated l.minuses (limited (factor_term names f))))
sum_of names l f = go l.sum
  where
    go : (s : written.Summed) → limited (sum_term names (written.sum_with s (written.product_made l f)))
        ≡ terms.sum_with (summed_terms names s) (terms.product_with (factored_terms names l.product) (terms.negated l.minuses (limited (factor_term names f))))
    go NoSum = product_of names l.product l.minuses f
    go (PlusAfter s) = ap (λ t. Addition (limited (sum_term names s)) t) (product_of names l.product l.minuses f)
    go (MinusAfter s) = ap (λ t. Subtraction (limited (sum_term names s)) t) (product_of names l.product l.minuses f)

-- the last element of a list, and the elements before it
pub last_is : {X : Type 0} (xs ys : List X) (x y : X) → xs ++ x ∷ [] ≡ ys ++ y ∷ [] → (x ≡ y) × (xs ≡ ys)
last_is xs ys x y e = (firsts.0, sym (reverse-reverse xs) ∙ (ap reverse firsts.1 ∙ reverse-reverse ys))
  where
    turned : x ∷ reverse xs ≡ y ∷ reverse ys
    turned = sym (reverse-append xs (x ∷ [])) ∙ (ap reverse e ∙ reverse-append ys (y ∷ []))

    firsts : (x ≡ y) × (reverse xs ≡ reverse ys)
    firsts = (cc turned, cc turned)

-- the innermost level comes last in the reversed list
pub reverse_cons : {X : Type 0} (x : X) (xs : List X) → reverse (x ∷ xs) ≡ reverse xs ++ x ∷ []
reverse_cons x xs = reverse-append (x ∷ []) xs
