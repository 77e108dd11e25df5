-- The values of the results of operations on polynomials.
use Rattle.std.proofs.Common.{◌≡◌, ℕ, zero, suc, ◌*◌, ◌^◌, ◌%◌, ◌==◌, List, [], ◌∷◌, ◌++◌, map, Bool, true, false, not}
use Rattle.std.proofs.Common.{cond, refl, ap, sym, ◌∙◌, arith, nat_lt, if◌then◌else◌}
use Rattle.std.specs.Prelude.{ℤ, pos, negsuc, ◌+ℤ◌, ◌-ℤ◌, ◌*ℤ◌, neg_ℤ, slice_index_or}
use Rattle.std.specs.Int.{int_pow}
use Rattle.std.specs.declared.cmp.Ordering.{Ordering}
use Rattle.std.specs.declared.cmp.Ordering.TheVariants.{Less, Equal, Greater}
use Rattle.std.specs.Ordering.{match_ordering}
use Rattle.std.proofs.lemmas.Int.{ints}
use Rattle.std.proofs.lemmas.Bool.Decides.{nat_tests}
use Rattle.std.proofs.lemmas.Map.Lookups.{exact_bytes}
use Rattle.std.proofs.Math.Nat.{pow-suc, pow-zero}
use Rattle.linear_forms.specs.int_laws.NormalForm.{is_zero}
use Rattle.linear_forms.specs.int_laws.Polynomial.{variable, ◌⊕◌, ◌⊗◌}
use Rattle.linear_forms.proofs.int_laws.Identities.{identity}
use Rattle.linear_forms.proofs.int_laws.RingLaws.{add-mul_ℤ, zero-mul_ℤ, neg-mul_ℤ}
use Rattle.model.specs.Terms.{Term, Literal, Variable, Negation, Addition, Subtraction, Multiplication, Exponentiation}
use Rattle.model.specs.Terms.{value}
use Rattle.model.specs.Polynomials.{Monomial, Polynomial, product_value, monomial_value, polynomial_value}
use Rattle.poly_terms.specs.Expanding.{order, added, all_added, without_zeros, sum_of, opposite, inserted, all_inserted}
use Rattle.poly_terms.specs.Expanding.{multiplied, products, product_of, power_of, expanded}
pub use Rattle.linear_forms.proofs.int_laws.ZeroLaws.{is_zero-true as zero_is}

-- the value after adding a monomial
pub value-added : (m : Monomial) (ts : Polynomial) (env : List ℤ)
    → polynomial_value (added m ts) env ≡ monomial_value m env +ℤ polynomial_value ts env
value-added m [] env = refl
value-added m (t ∷ ts) env = go (order m.vars t.vars) refl (value-added m ts env)
  where
    after : (a b c d : ℤ) → a ≡ b +ℤ c → d +ℤ a ≡ b +ℤ (d +ℤ c)
    after a b c d e = omega (arith, ints)

    same : (x y v w r : ℤ) → v ≡ w → (y +ℤ x) *ℤ w +ℤ r ≡ x *ℤ v +ℤ (y *ℤ w +ℤ r)
    same x y v w r e = omega (arith, ints, add-mul_ℤ y x w, ap (λ (z : ℤ). x *ℤ z) e)

    go : (o : Ordering) → order m.vars t.vars ≡ o
        → polynomial_value (added m ts) env ≡ monomial_value m env +ℤ polynomial_value ts env
        → polynomial_value (match_ordering o (m ∷ t ∷ ts) (record { coef = t.coef +ℤ m.coef; vars = t.vars } ∷ ts) (t ∷ added m ts)) env
        ≡ monomial_value m env +ℤ (monomial_value t env +ℤ polynomial_value ts env)
    go Less e ih = refl
    go Equal e ih = same m.coef t.coef _ _ _ (ap (λ (vs : List ℕ). product_value vs env) (exact_bytes m.vars t.vars e))
    go Greater e ih = after _ _ _ _ ih

-- the value after adding all monomials of a list
pub value-all_added : (ts : Polynomial) (ms : List Monomial) (env : List ℤ)
    → polynomial_value (all_added ts ms) env ≡ polynomial_value ts env +ℤ polynomial_value ms env
value-all_added ts [] env = nothing _
  where
    nothing : (z : ℤ) → z ≡ z +ℤ pos 0
    nothing z = omega (arith, ints)
value-all_added ts (m ∷ ms) env = regroup _ _ _ _ _ (value-all_added (added m ts) ms env) (value-added m ts env)
  where
    regroup : (a b c d e : ℤ) → a ≡ b +ℤ c → b ≡ d +ℤ e → a ≡ e +ℤ (d +ℤ c)
    regroup a b c d e f g = omega (arith, ints)

-- removing zeros doesn't change the value
pub value-without_zeros : (ms : Polynomial) (env : List ℤ) → polynomial_value (without_zeros ms) env ≡ polynomial_value ms env
value-without_zeros [] env = refl
value-without_zeros (m ∷ ms) env = go (is_zero m.coef) refl (value-without_zeros ms env)
  where
    gone : (a b z : ℤ) → a ≡ b → z ≡ pos 0 → a ≡ z +ℤ b
    gone a b z e f = omega (arith, ints)

    go : (b : Bool) → is_zero m.coef ≡ b → polynomial_value (without_zeros ms) env ≡ polynomial_value ms env
        → polynomial_value (if b then without_zeros ms else m ∷ without_zeros ms) env ≡ monomial_value m env +ℤ polynomial_value ms env
    go true e ih = gone _ _ _ ih (zero-mul_ℤ m.coef (product_value m.vars env) (zero_is m.coef e))
    go false e ih = ap (λ (z : ℤ). monomial_value m env +ℤ z) ih

-- the value of a sum is the sum of the values
pub value-sum_of : (p q : Polynomial) (env : List ℤ) → polynomial_value (sum_of p q) env ≡ polynomial_value p env +ℤ polynomial_value q env
value-sum_of p q env = value-without_zeros (all_added p q) env ∙ value-all_added p q env

-- the value of a negation is the negated value
pub value-opposite : (p : Polynomial) (env : List ℤ) → polynomial_value (map opposite p) env ≡ neg_ℤ (polynomial_value p env)
value-opposite [] env = refl
value-opposite (m ∷ p) env = both _ _ _ _ (neg-mul_ℤ m.coef (product_value m.vars env)) (value-opposite p env)
  where
    both : (a b c d : ℤ) → a ≡ neg_ℤ b → c ≡ neg_ℤ d → a +ℤ c ≡ neg_ℤ (b +ℤ d)
    both a b c d e f = omega (arith, ints)

-- the value of a product of variables with one more
product_value-inserted : (v : ℕ) (vs : List ℕ) (env : List ℤ)
    → product_value (inserted v vs) env ≡ slice_index_or env v (pos 0) *ℤ product_value vs env
product_value-inserted v [] env = refl
product_value-inserted v (w ∷ ws) env = go (nat_lt w v) (product_value-inserted v ws env)
  where
    swap : (x y z : ℤ) → x *ℤ (y *ℤ z) ≡ y *ℤ (x *ℤ z)
    swap x y z = identity (x ∷ y ∷ z ∷ []) (variable 0 ⊗ (variable 1 ⊗ variable 2)) (variable 1 ⊗ (variable 0 ⊗ variable 2)) refl

    go : (b : Bool) → product_value (inserted v ws) env ≡ slice_index_or env v (pos 0) *ℤ product_value ws env
        → product_value (if b then w ∷ inserted v ws else v ∷ w ∷ ws) env
        ≡ slice_index_or env v (pos 0) *ℤ (slice_index_or env w (pos 0) *ℤ product_value ws env)
    go true ih = ap (λ (z : ℤ). slice_index_or env w (pos 0) *ℤ z) ih ∙ swap (slice_index_or env w (pos 0)) (slice_index_or env v (pos 0)) (product_value ws env)
    go false ih = refl

-- the value of a product of variables with those of a second list
product_value-all_inserted : (vs ws : List ℕ) (env : List ℤ) → product_value (all_inserted vs ws) env ≡ product_value vs env *ℤ product_value ws env
product_value-all_inserted vs [] env = times_one _
  where
    times_one : (z : ℤ) → z ≡ z *ℤ pos 1
    times_one z = omega (arith, ints)
product_value-all_inserted vs (w ∷ ws) env =
    product_value-all_inserted (inserted w vs) ws env
    ∙ ap (λ (z : ℤ). z *ℤ product_value ws env) (product_value-inserted w vs env)
    ∙ swap (slice_index_or env w (pos 0)) (product_value vs env) (product_value ws env)
  where
    swap : (x y z : ℤ) → (x *ℤ y) *ℤ z ≡ y *ℤ (x *ℤ z)
    swap x y z = identity (x ∷ y ∷ z ∷ []) ((variable 0 ⊗ variable 1) ⊗ variable 2) (variable 1 ⊗ (variable 0 ⊗ variable 2)) refl

-- the value of a product of monomials is the product of the values
value-multiplied : (m n : Monomial) (env : List ℤ) → monomial_value (multiplied m n) env ≡ monomial_value m env *ℤ monomial_value n env
value-multiplied m n env =
    ap (λ (z : ℤ). (m.coef *ℤ n.coef) *ℤ z) (product_value-all_inserted m.vars n.vars env)
    ∙ swap m.coef n.coef (product_value m.vars env) (product_value n.vars env)
  where
    swap : (a b x y : ℤ) → (a *ℤ b) *ℤ (x *ℤ y) ≡ (a *ℤ x) *ℤ (b *ℤ y)
    swap a b x y = identity (a ∷ b ∷ x ∷ y ∷ [])
        ((variable 0 ⊗ variable 1) ⊗ (variable 2 ⊗ variable 3)) ((variable 0 ⊗ variable 2) ⊗ (variable 1 ⊗ variable 3)) refl

-- the value of an appended list is the sum of the values
value-append : (p q : List Monomial) (env : List ℤ) → polynomial_value (p ++ q) env ≡ polynomial_value p env +ℤ polynomial_value q env
value-append [] q env = nothing _
  where
    nothing : (z : ℤ) → z ≡ pos 0 +ℤ z
    nothing z = omega (arith, ints)
value-append (m ∷ p) q env = regroup _ _ _ _ (value-append p q env)
  where
    regroup : (a b c d : ℤ) → a ≡ b +ℤ c → d +ℤ a ≡ (d +ℤ b) +ℤ c
    regroup a b c d e = omega (arith, ints)

-- the value of a monomial times a polynomial
value-row : (m : Monomial) (q : Polynomial) (env : List ℤ)
    → polynomial_value (map (multiplied m) q) env ≡ monomial_value m env *ℤ polynomial_value q env
value-row m [] env = nothing (monomial_value m env)
  where
    nothing : (z : ℤ) → pos 0 ≡ z *ℤ pos 0
    nothing z = omega (arith, ints)
value-row m (n ∷ q) env = both _ _ (monomial_value m env) (monomial_value n env) (polynomial_value q env) (value-multiplied m n env) (value-row m q env)
  where
    distribute : (x y z : ℤ) → x *ℤ y +ℤ x *ℤ z ≡ x *ℤ (y +ℤ z)
    distribute x y z = identity (x ∷ y ∷ z ∷ []) (variable 0 ⊗ variable 1 ⊕ variable 0 ⊗ variable 2) (variable 0 ⊗ (variable 1 ⊕ variable 2)) refl

    both : (a b x y z : ℤ) → a ≡ x *ℤ y → b ≡ x *ℤ z → a +ℤ b ≡ x *ℤ (y +ℤ z)
    both a b x y z e f = ap (λ (u : ℤ). u +ℤ b) e ∙ (ap (λ (u : ℤ). x *ℤ y +ℤ u) f ∙ distribute x y z)

-- the sum of all products of two polynomials' monomials is the product of the values
value-products : (p q : Polynomial) (env : List ℤ) → polynomial_value (products p q) env ≡ polynomial_value p env *ℤ polynomial_value q env
value-products [] q env = nothing (polynomial_value q env)
  where
    nothing : (z : ℤ) → pos 0 ≡ pos 0 *ℤ z
    nothing z = omega (arith, ints)
value-products (m ∷ p) q env =
    value-append (map (multiplied m) q) (products p q) env
    ∙ both _ _ (monomial_value m env) (polynomial_value p env) (polynomial_value q env) (value-row m q env) (value-products p q env)
  where
    distribute : (x y z : ℤ) → x *ℤ z +ℤ y *ℤ z ≡ (x +ℤ y) *ℤ z
    distribute x y z = identity (x ∷ y ∷ z ∷ []) (variable 0 ⊗ variable 2 ⊕ variable 1 ⊗ variable 2) ((variable 0 ⊕ variable 1) ⊗ variable 2) refl

    both : (a b x y z : ℤ) → a ≡ x *ℤ z → b ≡ y *ℤ z → a +ℤ b ≡ (x +ℤ y) *ℤ z
    both a b x y z e f = ap (λ (u : ℤ). u +ℤ b) e ∙ (ap (λ (u : ℤ). x *ℤ z +ℤ u) f ∙ distribute x y z)

-- the value of a product is the product of the values
pub value-product_of : (p q : Polynomial) (env : List ℤ)
    → polynomial_value (product_of p q) env ≡ polynomial_value p env *ℤ polynomial_value q env
value-product_of p q env = value-sum_of [] (products p q) env ∙ (nothing _ ∙ value-products p q env)
  where
    nothing : (z : ℤ) → pos 0 +ℤ z ≡ z
    nothing z = omega (arith, ints)

-- a power of an integer with one more factor
int_pow-suc : (z : ℤ) (n : ℕ) → int_pow z (suc n) ≡ int_pow z n *ℤ z
int_pow-suc (pos a) n = ap pos (pow-suc a n)
int_pow-suc (negsuc a) n = go (n % 2 == 0) refl
  where
    turns : (b : Bool) → (n % 2 == 0) ≡ b → (suc n % 2 == 0) ≡ not b
    turns b e = grind (arith, nat_tests)

    even : (x y c : ℕ) → x ≡ y * suc c → neg_ℤ (pos x) ≡ pos y *ℤ negsuc c
    even x y c e = omega (arith, ints)

    odd : (x y c : ℕ) → x ≡ y * suc c → pos x ≡ neg_ℤ (pos y) *ℤ negsuc c
    odd x y c e = omega (arith, ints, neg-mul_ℤ (pos y) (negsuc c))

    both : (b : Bool) → cond (not b) (pos (suc a ^ suc n)) (neg_ℤ (pos (suc a ^ suc n)))
        ≡ cond b (pos (suc a ^ n)) (neg_ℤ (pos (suc a ^ n))) *ℤ negsuc a
    both true = even _ _ _ (pow-suc (suc a) n)
    both false = odd _ _ _ (pow-suc (suc a) n)

    go : (b : Bool) → (n % 2 == 0) ≡ b → int_pow (negsuc a) (suc n) ≡ int_pow (negsuc a) n *ℤ negsuc a
    go b e =
        ap (λ (t : Bool). cond t (pos (suc a ^ suc n)) (neg_ℤ (pos (suc a ^ suc n)))) (turns b e)
        ∙ (both b ∙ sym (ap (λ (t : Bool). cond t (pos (suc a ^ n)) (neg_ℤ (pos (suc a ^ n))) *ℤ negsuc a) e))

-- a power with exponent 0 is 1
int_pow-zero : (z : ℤ) → int_pow z 0 ≡ pos 1
int_pow-zero (pos a) = ap pos (pow-zero a)
int_pow-zero (negsuc a) = ap pos (pow-zero (suc a))

-- the value of a power is the power of the value
pub value-power_of : (p : Polynomial) (n : ℕ) (env : List ℤ) → polynomial_value (power_of p n) env ≡ int_pow (polynomial_value p env) n
value-power_of p zero env = sym (int_pow-zero (polynomial_value p env))
value-power_of p (suc n) env =
    value-product_of (power_of p n) p env
    ∙ (ap (λ (z : ℤ). z *ℤ polynomial_value p env) (value-power_of p n env) ∙ sym (int_pow-suc (polynomial_value p env) n))

-- the expanded form of an expression has its value
pub expanded-value : (t : Term) (env : List ℤ) → polynomial_value (expanded t) env ≡ value t env
expanded-value (Literal z) env = value-without_zeros (record { coef = z; vars = [] } ∷ []) env ∙ times_one z
  where
    times_one : (z : ℤ) → z *ℤ pos 1 +ℤ pos 0 ≡ z
    times_one z = omega (arith, ints)
expanded-value (Variable i) env = times_one _
  where
    times_one : (z : ℤ) → pos 1 *ℤ (z *ℤ pos 1) +ℤ pos 0 ≡ z
    times_one z = omega (arith, ints)
expanded-value (Negation e) env = value-opposite (expanded e) env ∙ ap neg_ℤ (expanded-value e env)
expanded-value (Addition d e) env =
    value-sum_of (expanded d) (expanded e) env ∙ both _ _ _ _ (expanded-value d env) (expanded-value e env)
  where
    both : (a b c d : ℤ) → a ≡ c → b ≡ d → a +ℤ b ≡ c +ℤ d
    both a b c d e f = omega (arith, ints)
expanded-value (Subtraction d e) env =
    value-sum_of (expanded d) (map opposite (expanded e)) env
    ∙ both _ _ _ _ _ (expanded-value d env) (value-opposite (expanded e) env) (expanded-value e env)
  where
    both : (a b c d e : ℤ) → a ≡ c → b ≡ neg_ℤ d → d ≡ e → a +ℤ b ≡ c -ℤ e
    both a b c d e f g h = omega (arith, ints)
expanded-value (Multiplication d e) env =
    value-product_of (expanded d) (expanded e) env
    ∙ (ap (λ (z : ℤ). z *ℤ polynomial_value (expanded e) env) (expanded-value d env) ∙ ap (λ (z : ℤ). value d env *ℤ z) (expanded-value e env))
expanded-value (Exponentiation e n) env = value-power_of (expanded e) n env ∙ ap (λ (z : ℤ). int_pow z n) (expanded-value e env)
