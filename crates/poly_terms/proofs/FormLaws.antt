-- Bounds on the length, the coefficients and the degree of sums, products and powers.
use Rattle.std.proofs.Common.{◌≡◌, ℕ, zero, suc, ◌+◌, ◌*◌, ◌≤◌, ◌||◌, List, [], ◌∷◌, ◌++◌, length, map, Bool, true}
use Rattle.std.proofs.Common.{false, refl, ap, ◌∙◌, arith, nat_lt, if◌then◌else◌}
use Rattle.std.specs.Prelude.{ℤ, ◌+ℤ◌, nat_abs, max}
use Rattle.std.specs.declared.cmp.Ordering.{Ordering}
use Rattle.std.specs.declared.cmp.Ordering.TheVariants.{Less, Equal, Greater}
use Rattle.std.specs.Ordering.{match_ordering}
use Rattle.std.proofs.lemmas.Bool.Decides.{nat_tests}
use Rattle.std.proofs.lemmas.Int.{ints}
use Rattle.linear_forms.specs.int_laws.NormalForm.{is_zero}
use Rattle.model.specs.Limits.{coefficient_limit}
use Rattle.model.specs.Polynomials.{Monomial, Polynomial, degree_of}
use Rattle.poly_terms.specs.Expanding.{order, added, all_added, without_zeros, sum_of, inserted, all_inserted}
use Rattle.poly_terms.specs.Expanding.{multiplied, products, product_of, power_of}
use Rattle.poly_terms.specs.Faults.{has_large}
use Rattle.poly_terms.specs.Ordered.{IsBounded}
use Rattle.poly_terms.specs.Totals.{norm}

-- adding a monomial makes a polynomial at most one longer
pub length-added : (m : Monomial) (ts : Polynomial) → length (added m ts) ≤ suc (length ts)
length-added m [] = omega arith
length-added m (t ∷ ts) = go (order m.vars t.vars) (length-added m ts)
  where
    go : (o : Ordering) → length (added m ts) ≤ suc (length ts)
        → length (match_ordering o (m ∷ t ∷ ts) (record { coef = t.coef +ℤ m.coef; vars = t.vars } ∷ ts)
        (t ∷ added m ts)) ≤ suc (suc (length ts))
    go Less ih = omega arith
    go Equal ih = omega arith
    go Greater ih = omega (arith, ih)

-- adding the monomials of a list makes a polynomial at most as much longer as the list is long
pub length-all_added : (ts : Polynomial) (ms : List Monomial) → length (all_added ts ms) ≤ length ts + length ms
length-all_added ts [] = omega arith
length-all_added ts (m ∷ ms) = omega (arith, length-all_added (added m ts) ms, length-added m ts)

-- removing zeros doesn't make a list longer
pub shorter-without_zeros : (ms : Polynomial) → length (without_zeros ms) ≤ length ms
shorter-without_zeros [] = omega arith
shorter-without_zeros (m ∷ ms) = go (is_zero m.coef) (shorter-without_zeros ms)
  where
    go : (b : Bool) → length (without_zeros ms) ≤ length ms
        → length (if b then without_zeros ms else m ∷ without_zeros ms) ≤ suc (length ms)
    go true ih = omega (arith, ih)
    go false ih = omega (arith, ih)

-- the sum of monomials is at most as long as their list
pub shorter-sum_of : (ms : List Monomial) → length (sum_of [] ms) ≤ length ms
shorter-sum_of ms = omega (arith, shorter-without_zeros (all_added [] ms), length-all_added [] ms)

-- adding a monomial increases the norm by at most the absolute value of its coefficient
pub norm-added : (m : Monomial) (ts : Polynomial) → norm (added m ts) ≤ nat_abs m.coef + norm ts
norm-added m [] = omega arith
norm-added m (t ∷ ts) = go (order m.vars t.vars) (norm-added m ts)
  where
    size : (x y : ℤ) → nat_abs (x +ℤ y) ≤ nat_abs x + nat_abs y
    size x y = omega (arith, ints)

    go : (o : Ordering) → norm (added m ts) ≤ nat_abs m.coef + norm ts
        → norm (match_ordering o (m ∷ t ∷ ts) (record { coef = t.coef +ℤ m.coef; vars = t.vars } ∷ ts)
        (t ∷ added m ts))
        ≤ nat_abs m.coef + (nat_abs t.coef + norm ts)
    go Less ih = omega arith
    go Equal ih = omega (arith, size t.coef m.coef)
    go Greater ih = omega (arith, ih)

-- adding the monomials of a list increases the norm by at most the list's norm
pub norm-all_added : (ts : Polynomial) (ms : List Monomial) → norm (all_added ts ms) ≤ norm ts + norm ms
norm-all_added ts [] = omega arith
norm-all_added ts (m ∷ ms) = omega (arith, norm-all_added (added m ts) ms, norm-added m ts)

-- removing zeros doesn't increase the norm
pub norm-without_zeros : (ms : Polynomial) → norm (without_zeros ms) ≤ norm ms
norm-without_zeros [] = omega arith
norm-without_zeros (m ∷ ms) = go (is_zero m.coef) (norm-without_zeros ms)
  where
    go : (b : Bool) → norm (without_zeros ms) ≤ norm ms
        → norm (if b then without_zeros ms else m ∷ without_zeros ms) ≤ nat_abs m.coef + norm ms
    go true ih = omega (arith, ih)
    go false ih = omega (arith, ih)

-- the norm of a sum of monomials is at most that of their list
pub norm-sum_of : (ms : List Monomial) → norm (sum_of [] ms) ≤ norm ms
norm-sum_of ms = omega (arith, norm-without_zeros (all_added [] ms), norm-all_added [] ms)

-- no coefficient is greater than the norm in absolute value
pub bounded-norm : (n : ℕ) (ms : Polynomial) → norm ms ≤ n → IsBounded n ms
bounded-norm n [] l = tt
bounded-norm n (m ∷ ms) l = (omega (arith, l), bounded-norm n ms (omega (arith, l)))

-- bounded coefficients aren't large
pub narrow-bounded : (p : Polynomial) → IsBounded coefficient_limit p → has_large p ≡ false
narrow-bounded [] h = refl
narrow-bounded (m ∷ p) h = ap (λ (b : Bool). b || has_large p) (small _ _ h.0) ∙ narrow-bounded p h.1
  where
    small : (x n : ℕ) → x ≤ n → nat_lt n x ≡ false
    small x n l = grind (arith, nat_tests)

-- a sum of monomials with a small norm has no large coefficient
pub narrow-sum_of : (ms : List Monomial) → norm ms ≤ coefficient_limit → has_large (sum_of [] ms) ≡ false
narrow-sum_of ms l =
    narrow-bounded (sum_of [] ms)
    (bounded-norm coefficient_limit (sum_of [] ms) (below _ _ _ (norm-sum_of ms) l))
  where
    below : (a b c : ℕ) → a ≤ b → b ≤ c → a ≤ c
    below a b c k l = omega arith

-- the degree after adding a monomial
pub degree-added : (m : Monomial) (ts : Polynomial) → degree_of (added m ts) ≤ max (length m.vars) (degree_of ts)
degree-added m [] = omega arith
degree-added m (t ∷ ts) = go (order m.vars t.vars) (degree-added m ts)
  where
    go : (o : Ordering) → degree_of (added m ts) ≤ max (length m.vars) (degree_of ts)
        → degree_of (match_ordering o (m ∷ t ∷ ts) (record { coef = t.coef +ℤ m.coef; vars = t.vars } ∷ ts)
        (t ∷ added m ts))
        ≤ max (length m.vars) (max (length t.vars) (degree_of ts))
    go Less ih = omega arith
    go Equal ih = omega arith
    go Greater ih = omega (arith, ih)

-- the degree after adding all monomials of a list
pub degree-all_added : (ts : Polynomial) (ms : List Monomial)
    → degree_of (all_added ts ms) ≤ max (degree_of ts) (degree_of ms)
degree-all_added ts [] = omega arith
degree-all_added ts (m ∷ ms) = omega (arith, degree-all_added (added m ts) ms, degree-added m ts)

-- removing zeros doesn't increase the degree
pub degree-without_zeros : (ms : Polynomial) → degree_of (without_zeros ms) ≤ degree_of ms
degree-without_zeros [] = omega arith
degree-without_zeros (m ∷ ms) = go (is_zero m.coef) (degree-without_zeros ms)
  where
    go : (b : Bool) → degree_of (without_zeros ms) ≤ degree_of ms
        → degree_of (if b then without_zeros ms else m ∷ without_zeros ms) ≤ max (length m.vars) (degree_of ms)
    go true ih = omega (arith, ih)
    go false ih = omega (arith, ih)

-- the degree of a sum of monomials is at most that of their list
pub degree-sum_of : (ms : List Monomial) → degree_of (sum_of [] ms) ≤ degree_of ms
degree-sum_of ms = omega (arith, degree-without_zeros (all_added [] ms), degree-all_added [] ms)

-- inserting a variable makes a list one longer
pub length-inserted : (v : ℕ) (vs : List ℕ) → length (inserted v vs) ≡ suc (length vs)
length-inserted v [] = refl
length-inserted v (w ∷ ws) = go (nat_lt w v) (length-inserted v ws)
  where
    go : (b : Bool) → length (inserted v ws) ≡ suc (length ws)
        → length (if b then w ∷ inserted v ws else v ∷ w ∷ ws) ≡ suc (suc (length ws))
    go true ih = ap suc ih
    go false ih = refl

-- inserting the variables of a second list makes a list longer by their number
pub length-all_inserted : (vs ws : List ℕ) → length (all_inserted vs ws) ≡ length vs + length ws
length-all_inserted vs [] = omega arith
length-all_inserted vs (w ∷ ws) = omega (arith, length-all_inserted (inserted w vs) ws, length-inserted w vs)

-- the degree of an appended list is the greater one of its parts
pub degree-append : (p q : List Monomial) → degree_of (p ++ q) ≤ max (degree_of p) (degree_of q)
degree-append [] q = omega arith
degree-append (m ∷ p) q = omega (arith, degree-append p q)

-- the degree of a monomial times a polynomial
pub degree-row : (m : Monomial) (q : Polynomial) → degree_of (map (multiplied m) q) ≤ length m.vars + degree_of q
degree-row m [] = omega arith
degree-row m (n ∷ q) = omega (arith, degree-row m q, length-all_inserted m.vars n.vars)

-- the degree of the products of two polynomials' monomials
pub degree-products : (p q : Polynomial) → degree_of (products p q) ≤ degree_of p + degree_of q
degree-products [] q = omega arith
degree-products (m ∷ p) q =
    omega (arith, degree-append (map (multiplied m) q) (products p q), degree-row m q, degree-products p q)

-- the degree of a product is at most the sum of the degrees
pub degree-product_of : (p q : Polynomial) → degree_of (product_of p q) ≤ degree_of p + degree_of q
degree-product_of p q = omega (arith, degree-sum_of (products p q), degree-products p q)

-- the degree of a power is at most the exponent times the degree
pub degree-power_of : (p : Polynomial) (n : ℕ) → degree_of (power_of p n) ≤ n * degree_of p
degree-power_of p zero = omega arith
degree-power_of p (suc n) = omega (arith, degree-product_of (power_of p n) p, degree-power_of p n)
