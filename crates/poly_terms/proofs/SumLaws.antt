-- Sums of polynomials and products with a constant, step by step, and the sizes of their coefficients.
use Rattle.std.proofs.Common.{◌≡◌, ℕ, zero, suc, ◌+◌, ◌<◌, ◌≤◌, List, [], ◌∷◌, length, get_or, set, map, refl, ap, sym}
use Rattle.std.proofs.Common.{◌∙◌, subst, arith}
use Rattle.std.specs.Prelude.{ℤ, ◌+ℤ◌, ◌*ℤ◌, nat_abs}
use Rattle.std.specs.declared.cmp.Ordering.{Ordering}
use Rattle.std.specs.declared.cmp.Ordering.TheVariants.{Less, Equal, Greater}
use Rattle.std.specs.Ordering.{match_ordering}
use Rattle.std.proofs.lemmas.Int.{ints}
use Rattle.std.proofs.lemmas.List.{length-map, get_or-map}
use Rattle.model.specs.Polynomials.{Monomial, Polynomial}
use Rattle.poly_terms.specs.Expanding.{order, added}
use Rattle.poly_terms.specs.Ordered.{IsBounded}
use Rattle.poly_terms.specs.Scaling.{times}
use Rattle.poly_terms.specs.declared.poly.Monomial as code
use Rattle.poly_terms.specs.Views.{monomial_of, monomials_of}

-- the polynomial with its first n monomials multiplied by z
abbrev pub times_front : ℤ → ℕ → Polynomial → Polynomial
times_front z zero p = p
times_front z (suc n) [] = []
times_front z (suc n) (m ∷ p) = times z m ∷ times_front z n p

-- the monomials from the n-th on are unchanged
pub front-behind : (z : ℤ) (p : Polynomial) (i : ℕ) (d : Monomial) → get_or (times_front z i p) i d ≡ get_or p i d
front-behind z p zero d = refl
front-behind z [] (suc i) d = refl
front-behind z (m ∷ p) (suc i) d = front-behind z p i d

-- after one more monomial is multiplied
pub front-more : (z : ℤ) (p : Polynomial) (i : ℕ) (d : Monomial) → i < length p → set (times_front z i p) i (times z (get_or p i d)) ≡ times_front z (i + 1) p
front-more z p i d l = next p i l ∙ ap (λ (k : ℕ). times_front z k p) (let e : suc i ≡ i + 1 = omega arith in e)
  where
    next : (p : Polynomial) (i : ℕ) → i < length p → set (times_front z i p) i (times z (get_or p i d)) ≡ times_front z (suc i) p
    next [] i l = absurd (omega arith)
    next (m ∷ p) zero l = refl
    next (m ∷ p) (suc i) l = ap (λ (q : Polynomial). times z m ∷ q) (next p i (omega arith))

-- the number of monomials is unchanged
pub front-length : (z : ℤ) (p : Polynomial) (i : ℕ) → length (times_front z i p) ≡ length p
front-length z p zero = refl
front-length z [] (suc i) = refl
front-length z (m ∷ p) (suc i) = ap suc (front-length z p i)

-- in the end all monomials are multiplied
pub front-all : (z : ℤ) (p : Polynomial) (i : ℕ) → length p ≤ i → times_front z i p ≡ map (times z) p
front-all z [] zero l = refl
front-all z [] (suc i) l = refl
front-all z (m ∷ p) zero l = absurd (omega arith)
front-all z (m ∷ p) (suc i) l = ap (λ (q : Polynomial). times z m ∷ q) (front-all z p i (omega arith))

-- each coefficient of a bounded polynomial is bounded
pub bounded-at : (n : ℕ) (p : Polynomial) (i : ℕ) (d : Monomial) → IsBounded n p → i < length p → nat_abs (get_or p i d).coef ≤ n
bounded-at n [] i d h l = absurd (omega arith)
bounded-at n (m ∷ p) zero d h l = h.0
bounded-at n (m ∷ p) (suc i) d h l = bounded-at n p i d h.1 (omega arith)

-- a greater bound is a bound
pub bounded-more : (n k : ℕ) (p : Polynomial) → n ≤ k → IsBounded n p → IsBounded k p
bounded-more n k [] l h = h
bounded-more n k (m ∷ p) l h = (omega (arith, h.0), bounded-more n k p l h.1)

-- the absolute value of a sum is at most the sum of bounds of its parts
pub sum-size : (x y : ℤ) (n k : ℕ) → nat_abs x ≤ n → nat_abs y ≤ k → nat_abs (x +ℤ y) ≤ n + k
sum-size x y n k e f = omega (arith, ints)

-- a coefficient of the code's list is bounded
pub bounded-here : (n : ℕ) (ms : List code.Monomial) (i : ℕ) (m : code.Monomial) → IsBounded n (monomials_of ms) → i < length ms → m ≡ get_or ms i m
    → nat_abs m.coef ≤ n
bounded-here n ms i m h l e =
    subst (λ (k : Monomial). nat_abs k.coef ≤ n) (get_or-map monomial_of ms i m (monomial_of m) l ∙ ap monomial_of (sym e))
    (bounded-at n (monomials_of ms) i (monomial_of m) h (omega (arith, l, length-map ms monomial_of)))

-- adding a monomial increases the bound by that of its coefficient
pub bounded-added : (n k : ℕ) (m : Monomial) (ts : Polynomial) → nat_abs m.coef ≤ k → IsBounded n ts → IsBounded (n + k) (added m ts)
bounded-added n k m [] l h = (omega arith, h)
bounded-added n k m (t ∷ ts) l h = go (order m.vars t.vars) (bounded-added n k m ts l h.1)
  where
    go : (o : Ordering) → IsBounded (n + k) (added m ts)
        → IsBounded (n + k) (match_ordering o (m ∷ t ∷ ts) (record { coef = t.coef +ℤ m.coef; vars = t.vars } ∷ ts) (t ∷ added m ts))
    go Less ih = (omega arith, (omega (arith, h.0), bounded-more n (n + k) ts (omega arith) h.1))
    go Equal ih = (sum-size t.coef m.coef n k h.0 l, bounded-more n (n + k) ts (omega arith) h.1)
    go Greater ih = (omega (arith, h.0), ih)

-- multiplying one more monomial of the list
pub times-step : (f : ℤ) (p q : Polynomial) (i : ℕ) (d : Monomial) (z : ℤ) → q ≡ times_front f i p → i < length p → z ≡ (get_or p i d).coef *ℤ f
    → set q i (record { coef = z; vars = (get_or q i d).vars }) ≡ times_front f (i + 1) p
times-step f p q i d z e l g =
    ap (λ (r : Polynomial). set r i (record { coef = z; vars = (get_or r i d).vars })) e
    ∙ ((λ j. set (times_front f i p) i (record { coef = g j; vars = (front-behind f p i d j).vars })) ∙ front-more f p i d l)

-- the monomial at i is still the original one
pub left-behind : (f : ℤ) (p : Polynomial) (ms : List code.Monomial) (i : ℕ) (m : code.Monomial) → monomials_of ms ≡ times_front f i p → i < length p
    → m ≡ get_or ms i m → get_or p i (monomial_of m) ≡ monomial_of m
left-behind f p ms i m e l g =
    sym (front-behind f p i (monomial_of m))
    ∙ (ap (λ (r : Polynomial). get_or r i (monomial_of m)) (sym e)
    ∙ (get_or-map monomial_of ms i m (monomial_of m) (omega (arith, l, ap length e, front-length f p i, length-map ms monomial_of)) ∙ ap monomial_of (sym g)))
