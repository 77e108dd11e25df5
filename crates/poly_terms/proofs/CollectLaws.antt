-- Collecting the monomials that aren't 0, one by one.
use Rattle.std.proofs.Common.{◌≡◌, ◌<◌, ◌≤◌, ◌||◌, List, [], ◌∷◌, ◌++◌, Bool, true, false, not, cond, refl, ap, ◌∙◌}
use Rattle.std.proofs.Common.{arith, nat_lt, if◌then◌else◌}
use Rattle.std.specs.Prelude.{nat_abs, pos, filter}
use Rattle.poly_terms.specs.declared.poly.Monomial as code
use Rattle.poly_terms.specs.Views.{monomial_of, monomials_of}
use Rattle.std.proofs.lemmas.Bool.Decides.{nat_tests}
use Rattle.std.proofs.lemmas.Int.{ints}
use Rattle.std.proofs.lemmas.List.{append_assoc}
use Rattle.linear_forms.specs.int_laws.NormalForm.{is_zero}
use Rattle.model.specs.Polynomials.{Monomial, Polynomial}
use Rattle.poly_terms.specs.Expanding.{all_added, added, without_zeros}
use Rattle.model.specs.Limits.{coefficient_limit}
use Rattle.poly_terms.specs.Faults.{has_large}
use Rattle.poly_terms.proofs.Values.{zero_is}

-- the nonzero monomials of a list are those of its first and those of its rest
without_zeros-cons : (m : Monomial) (ms : Polynomial) → without_zeros (m ∷ []) ++ without_zeros ms ≡ without_zeros (m ∷ ms)
without_zeros-cons m ms = go (is_zero m.coef)
  where
    go : (b : Bool) → (if b then [] else m ∷ []) ++ without_zeros ms ≡ (if b then without_zeros ms else m ∷ without_zeros ms)
    go true = refl
    go false = refl

-- after one more monomial is collected
pub taken-more : (ts : Polynomial) (m : Monomial) (ms : Polynomial) → (ts ++ without_zeros (m ∷ [])) ++ without_zeros ms ≡ ts ++ without_zeros (m ∷ ms)
taken-more ts m ms = append_assoc ts (without_zeros (m ∷ [])) (without_zeros ms) ∙ ap (λ (us : Polynomial). ts ++ us) (without_zeros-cons m ms)

-- if the first coefficient is too large, it isn't 0, so the collected list has a large coefficient
large-first : (m : Monomial) (ms : Polynomial) → coefficient_limit < nat_abs m.coef → has_large (without_zeros (m ∷ ms)) ≡ true
large-first m ms h = go (is_zero m.coef) refl
  where
    zero_size : m.coef ≡ pos 0 → ⊥
    zero_size e = omega (arith, ints, h, ap nat_abs e)

    over : nat_lt coefficient_limit (nat_abs m.coef) ≡ true
    over = grind (arith, nat_tests)

    go : (b : Bool) → is_zero m.coef ≡ b → has_large (if b then without_zeros ms else m ∷ without_zeros ms) ≡ true
    go true e = absurd (zero_size (zero_is m.coef e))
    go false e = ap (λ (t : Bool). t || has_large (without_zeros ms)) over

-- if a coefficient is too large, so is one of the whole
pub large-among : (ts : Polynomial) (m : Monomial) (ms : Polynomial) → coefficient_limit < nat_abs m.coef → has_large (ts ++ without_zeros (m ∷ ms)) ≡ true
large-among [] m ms h = large-first m ms h
large-among (t ∷ ts) m ms h = ap (λ (b : Bool). nat_lt coefficient_limit (nat_abs t.coef) || b) (large-among ts m ms h) ∙ or_true (nat_lt coefficient_limit (nat_abs t.coef))
  where
    or_true : (b : Bool) → (b || true) ≡ true
    or_true true = refl
    or_true false = refl

-- if a coefficient isn't too large, the others decide
pub small-more : (ts : Polynomial) (m : Monomial) → nat_abs m.coef ≤ coefficient_limit → has_large (ts ++ without_zeros (m ∷ [])) ≡ has_large ts
small-more [] m h = go (is_zero m.coef)
  where
    under : nat_lt coefficient_limit (nat_abs m.coef) ≡ false
    under = grind (arith, nat_tests)

    go : (b : Bool) → has_large (if b then [] else m ∷ []) ≡ false
    go true = refl
    go false = ap (λ (t : Bool). t || false) under
small-more (t ∷ ts) m h = ap (λ (b : Bool). nat_lt coefficient_limit (nat_abs t.coef) || b) (small-more ts m h)

-- adding the monomials of an appended list is adding those of each part
pub all_added-append : (ts ms ns : Polynomial) → all_added ts (ms ++ ns) ≡ all_added (all_added ts ms) ns
all_added-append ts [] ns = refl
all_added-append ts (m ∷ ms) ns = all_added-append (added m ts) ms ns

-- the code's filter keeps exactly the nonzero monomials
pub filtered-nonzero : (ms : List code.Monomial) → monomials_of (filter (λ m. not (is_zero m.coef)) ms) ≡ without_zeros (monomials_of ms)
filtered-nonzero [] = refl
filtered-nonzero (m ∷ ms) = go (is_zero m.coef) (filtered-nonzero ms)
  where
    go : (b : Bool) → monomials_of (filter (λ n. not (is_zero n.coef)) ms) ≡ without_zeros (monomials_of ms)
        → monomials_of (cond (not b) (m ∷ filter (λ n. not (is_zero n.coef)) ms) (filter (λ n. not (is_zero n.coef)) ms))
        ≡ (if b then without_zeros (monomials_of ms) else monomial_of m ∷ without_zeros (monomials_of ms))
    go true ih = ih
    go false ih = ap (λ (p : Polynomial). monomial_of m ∷ p) ih
