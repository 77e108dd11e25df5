-- Which variables an expanded form has; values depend only on these.
use Rattle.std.proofs.Common.{◌≡◌, ℕ, zero, suc, ◌<◌, ◌≤◌, List, [], ◌∷◌, ◌++◌, map, length, Bool, true, false, refl}
use Rattle.std.proofs.Common.{ap, ◌∙◌, arith, nat_lt, if◌then◌else◌}
use Rattle.std.specs.Prelude.{ℤ, pos, ◌+ℤ◌, ◌-ℤ◌, ◌*ℤ◌, neg_ℤ, nat_abs}
use Rattle.std.specs.Int.{int_pow}
use Rattle.std.specs.declared.cmp.Ordering.{Ordering}
use Rattle.std.specs.declared.cmp.Ordering.TheVariants.{Less, Equal, Greater}
use Rattle.std.specs.Ordering.{match_ordering, is_eq}
use Rattle.std.proofs.lemmas.Int.{ints}
use Rattle.std.proofs.lemmas.Map.Lookups.{exact_bytes}
use Rattle.std.proofs.lemmas.List.{get_or_append_left}
use Rattle.linear_forms.specs.int_laws.NormalForm.{is_zero}
use Rattle.model.specs.Terms.{Term, Literal, Variable, Negation, Addition, Subtraction, Multiplication, Exponentiation}
use Rattle.model.specs.Terms.{value}
use Rattle.model.specs.Polynomials.{Monomial, Polynomial}
use Rattle.poly_terms.specs.Checked.{ReadsBelow}
use Rattle.poly_terms.specs.Expanding.{order, added, all_added, without_zeros, opposite, inserted, all_inserted}
use Rattle.poly_terms.specs.Expanding.{multiplied, products, power_of, expanded}
use Rattle.poly_terms.specs.Ordered.{IsBefore, IsAscending, IsBounded}
use Rattle.poly_terms.specs.AffineForms.{coefficient, AreVariablesBelow, HasVariablesBelow}

-- inserting a variable below n preserves the bound n
below-inserted : (n v : ℕ) (vs : List ℕ) → v < n → AreVariablesBelow n vs → AreVariablesBelow n (inserted v vs)
below-inserted n v [] l h = (l, tt)
below-inserted n v (w ∷ ws) l h = go (nat_lt w v) (below-inserted n v ws l h.1)
  where
    go : (b : Bool) → AreVariablesBelow n (inserted v ws) → AreVariablesBelow n (if b then w ∷ inserted v ws else v ∷ w ∷ ws)
    go true ih = (h.0, ih)
    go false ih = (l, (h.0, h.1))

below-all_inserted : (n : ℕ) (vs ws : List ℕ) → AreVariablesBelow n vs → AreVariablesBelow n ws → AreVariablesBelow n (all_inserted vs ws)
below-all_inserted n vs [] h k = h
below-all_inserted n vs (w ∷ ws) h k = below-all_inserted n (inserted w vs) ws (below-inserted n w vs k.0 h) k.1

-- adding a monomial with variables below n preserves the bound n
below-added : (n : ℕ) (m : Monomial) (ts : Polynomial) → AreVariablesBelow n m.vars → HasVariablesBelow n ts → HasVariablesBelow n (added m ts)
below-added n m [] a h = (a, h)
below-added n m (t ∷ ts) a h = go (order m.vars t.vars) (below-added n m ts a h.1)
  where
    go : (o : Ordering) → HasVariablesBelow n (added m ts)
        → HasVariablesBelow n (match_ordering o (m ∷ t ∷ ts) (record { coef = t.coef +ℤ m.coef; vars = t.vars } ∷ ts) (t ∷ added m ts))
    go Less ih = (a, (h.0, h.1))
    go Equal ih = (h.0, h.1)
    go Greater ih = (h.0, ih)

below-all_added : (n : ℕ) (ts : Polynomial) (ms : List Monomial) → HasVariablesBelow n ts → HasVariablesBelow n ms → HasVariablesBelow n (all_added ts ms)
below-all_added n ts [] h k = h
below-all_added n ts (m ∷ ms) h k = below-all_added n (added m ts) ms (below-added n m ts k.0 h) k.1

below-without_zeros : (n : ℕ) (ms : Polynomial) → HasVariablesBelow n ms → HasVariablesBelow n (without_zeros ms)
below-without_zeros n [] h = h
below-without_zeros n (m ∷ ms) h = go (is_zero m.coef) (below-without_zeros n ms h.1)
  where
    go : (b : Bool) → HasVariablesBelow n (without_zeros ms) → HasVariablesBelow n (if b then without_zeros ms else m ∷ without_zeros ms)
    go true ih = ih
    go false ih = (h.0, ih)

below-sum : (n : ℕ) (p : Polynomial) (ms : List Monomial) → HasVariablesBelow n p → HasVariablesBelow n ms → HasVariablesBelow n (without_zeros (all_added p ms))
below-sum n p ms h k = below-without_zeros n (all_added p ms) (below-all_added n p ms h k)

below-opposite : (n : ℕ) (p : Polynomial) → HasVariablesBelow n p → HasVariablesBelow n (map opposite p)
below-opposite n [] h = h
below-opposite n (m ∷ p) h = (h.0, below-opposite n p h.1)

below-row : (n : ℕ) (m : Monomial) (q : Polynomial) → AreVariablesBelow n m.vars → HasVariablesBelow n q → HasVariablesBelow n (map (multiplied m) q)
below-row n m [] a h = tt
below-row n m (k ∷ q) a h = (below-all_inserted n m.vars k.vars a h.0, below-row n m q a h.1)

below-append : (n : ℕ) (p q : List Monomial) → HasVariablesBelow n p → HasVariablesBelow n q → HasVariablesBelow n (p ++ q)
below-append n [] q h k = k
below-append n (m ∷ p) q h k = (h.0, below-append n p q h.1 k)

below-products : (n : ℕ) (p q : Polynomial) → HasVariablesBelow n p → HasVariablesBelow n q → HasVariablesBelow n (products p q)
below-products n [] q h k = tt
below-products n (m ∷ p) q h k = below-append n (map (multiplied m) q) (products p q) (below-row n m q h.0 k) (below-products n p q h.1 k)

below-power : (n : ℕ) (p : Polynomial) (k : ℕ) → HasVariablesBelow n p → HasVariablesBelow n (power_of p k)
below-power n p zero h = (tt, tt)
below-power n p (suc k) h = below-sum n [] (products (power_of p k) p) tt (below-products n (power_of p k) p (below-power n p k h) h)

-- the variables of an expanded form are variables of its expression
pub variables-expanded : (n : ℕ) (t : Term) → ReadsBelow n t → HasVariablesBelow n (expanded t)
variables-expanded n (Literal z) h = below-without_zeros n (record { coef = z; vars = [] } ∷ []) (tt, tt)
variables-expanded n (Variable i) h = ((h, tt), tt)
variables-expanded n (Negation e) h = below-opposite n (expanded e) (variables-expanded n e h)
variables-expanded n (Addition d e) h = below-sum n (expanded d) (expanded e) (variables-expanded n d h.0) (variables-expanded n e h.1)
variables-expanded n (Subtraction d e) h =
    below-sum n (expanded d) (map opposite (expanded e)) (variables-expanded n d h.0) (below-opposite n (expanded e) (variables-expanded n e h.1))
variables-expanded n (Multiplication d e) h =
    below-sum n [] (products (expanded d) (expanded e)) tt (below-products n (expanded d) (expanded e) (variables-expanded n d h.0) (variables-expanded n e h.1))
variables-expanded n (Exponentiation e k) h = below-power n (expanded e) k (variables-expanded n e h)

-- variables below a number are below a greater one
below-more : (n k : ℕ) (vs : List ℕ) → n ≤ k → AreVariablesBelow n vs → AreVariablesBelow k vs
below-more n k [] l h = h
below-more n k (v ∷ vs) l h = (omega (arith, h.0), below-more n k vs l h.1)

-- a polynomial whose variables are below a number has them below a greater one
pub variables-more : (n k : ℕ) (p : Polynomial) → n ≤ k → HasVariablesBelow n p → HasVariablesBelow k p
variables-more n k [] l h = h
variables-more n k (m ∷ p) l h = (below-more n k m.vars l h.0, variables-more n k p l h.1)

-- more values after those of the variables don't change the value
pub value-append_right : (t : Term) (env more : List ℤ) → ReadsBelow (length env) t → value t (env ++ more) ≡ value t env
value-append_right (Literal z) env more h = refl
value-append_right (Variable i) env more h = get_or_append_left env more (pos 0) i h
value-append_right (Negation e) env more h = ap neg_ℤ (value-append_right e env more h)
value-append_right (Addition d e) env more h = λ i. value-append_right d env more h.0 i +ℤ value-append_right e env more h.1 i
value-append_right (Subtraction d e) env more h = λ i. value-append_right d env more h.0 i -ℤ value-append_right e env more h.1 i
value-append_right (Multiplication d e) env more h = λ i. value-append_right d env more h.0 i *ℤ value-append_right e env more h.1 i
value-append_right (Exponentiation e n) env more h = ap (λ (z : ℤ). int_pow z n) (value-append_right e env more h)

-- the coefficient of a list that comes before all others is 0
coefficient-before : (vs : List ℕ) (p : Polynomial) → IsBefore vs p → coefficient vs p ≡ pos 0
coefficient-before vs [] h = refl
coefficient-before vs (m ∷ p) h =
    ap (λ (o : Ordering). if is_eq o then m.coef +ℤ coefficient vs p else coefficient vs p) h.0 ∙ coefficient-before vs p h.1

-- each coefficient of a bounded polynomial is bounded
pub coefficient-bounded : (n : ℕ) (vs : List ℕ) (p : Polynomial) → IsAscending p → IsBounded n p → nat_abs (coefficient vs p) ≤ n
coefficient-bounded n vs [] a b = omega (arith, ints)
coefficient-bounded n vs (m ∷ p) a b = go (order vs m.vars) refl (coefficient-bounded n vs p a.1 b.1)
  where
    alone : (x y : ℤ) → y ≡ pos 0 → nat_abs x ≤ n → nat_abs (x +ℤ y) ≤ n
    alone x y e h = omega (arith, ints, e, h)

    same : order vs m.vars ≡ Equal → coefficient vs p ≡ pos 0
    same e = ap (λ (us : List ℕ). coefficient us p) (exact_bytes vs m.vars e) ∙ coefficient-before m.vars p a.0

    go : (o : Ordering) → order vs m.vars ≡ o → nat_abs (coefficient vs p) ≤ n
        → nat_abs (if is_eq o then m.coef +ℤ coefficient vs p else coefficient vs p) ≤ n
    go Less e ih = ih
    go Equal e ih = alone m.coef (coefficient vs p) (same e) b.0
    go Greater e ih = ih
