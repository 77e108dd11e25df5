-- Absolute values of sums, products and polynomials.
use Rattle.std.proofs.Common.{◌≡◌, ◌⊎◌, inl, inr, ℕ, suc, ◌+◌, ◌*◌, ◌<◌, ◌≤◌, ◌==◌, Bool, true, false, List, [], ◌∷◌}
use Rattle.std.proofs.Common.{refl, arith, All, mul-le-mul, le_trans}
use Rattle.std.specs.Prelude.{ℤ, pos, negsuc, ◌+ℤ◌, ◌*ℤ◌, neg_ℤ, ◌≤ℤ◌, nat_abs}
use Rattle.std.specs.List.{list_any}
use Rattle.std.proofs.lemmas.Int.{ints}
use Rattle.std.proofs.lemmas.Bool.{or_left, or_right}
use Rattle.std.proofs.lemmas.List.Elements.{All-head, All-tail}
use Rattle.run_counting.specs.model.Bounds.{Bound, val, val_sum, val_product}
use Rattle.run_counting.specs.model.Polynomials.{Monomial, Polynomial, product_value, monomial_value, polynomial_value}
use Rattle.rule_forms.specs.linear_forms.Forms.{at}
use Rattle.run_counting.specs.model.Entries.{is_in}
use Rattle.cert_rules.specs.Composed.{parts_for}
use Rattle.cert_rules.specs.ComposedSizes.{monomial_parts}
use Rattle.cert_rules.specs.AcceptsSizes.{ReadsLeft}
use Rattle.run_counting.proofs.model.Membership.{same_number, is_in-cases, no_is_not_yes}

-- a number and its negation are at most the absolute value
pub abs-up : (x : ℤ) → x ≤ℤ pos (nat_abs x)
abs-up (pos n) = omega (arith, ints)
abs-up (negsuc n) = omega (arith, ints)

-- the negation of a number is at most its absolute value
pub abs-down : (x : ℤ) → neg_ℤ x ≤ℤ pos (nat_abs x)
abs-down (pos n) = omega (arith, ints)
abs-down (negsuc n) = omega (arith, ints)

-- if a number and its negation are at most n, so is the absolute value
pub abs-within : (x : ℤ) (n : ℕ) → x ≤ℤ pos n → neg_ℤ x ≤ℤ pos n → nat_abs x ≤ n
abs-within (pos x) n h k = omega (arith, ints, h)
abs-within (negsuc x) n h k = omega (arith, ints, k)

-- the absolute value of a product is at most the product of the absolute values
pub abs-product : (a b : ℤ) → nat_abs (a *ℤ b) ≤ nat_abs a * nat_abs b
abs-product (pos a) (pos b) = abs-within (pos a *ℤ pos b) (a * b) (omega (arith, ints)) (omega (arith, ints))
abs-product (pos a) (negsuc b) = abs-within (pos a *ℤ negsuc b) (a * suc b) (omega (arith, ints)) (omega (arith, ints))
abs-product (negsuc a) (pos b) = abs-within (negsuc a *ℤ pos b) (suc a * b) (omega (arith, ints)) (omega (arith, ints))
abs-product (negsuc a) (negsuc b) =
    abs-within (negsuc a *ℤ negsuc b) (suc a * suc b) (omega (arith, ints)) (omega (arith, ints))

-- the absolute value of a sum is at most the sum of the absolute values
pub abs-sum : (a b : ℤ) → nat_abs (a +ℤ b) ≤ nat_abs a + nat_abs b
abs-sum a b = abs-within (a +ℤ b) (nat_abs a + nat_abs b) (omega (arith, ints, abs-up a, abs-up b))
    (omega (arith, ints, abs-down a, abs-down b))

-- a product of variables is at most the product of their sizes
product-covered : (vars : List ℕ) (env : List ℤ) (sizes : ℕ → Bound) (m : List ℕ)
    → ((j : ℕ) → is_in j vars ≡ true → nat_abs (at env j) ≤ val (sizes j) m)
    → nat_abs (product_value vars env) ≤ val_product (parts_for sizes vars) m
product-covered [] env sizes m h = omega arith
product-covered (i ∷ vars) env sizes m h =
    le_trans (abs-product (at env i) (product_value vars env))
    (mul-le-mul (h i (or_left (i == i) (is_in i vars) (same_number i)))
    (product-covered vars env sizes m (λ j k. h j (or_right (j == i) (is_in j vars) k))))

-- a polynomial is at most the sum of its absolute coefficients times the sizes of its variables
pub polynomial-covered : (q : Polynomial) (env : List ℤ) (sizes : ℕ → Bound) (m : List ℕ)
    → ((j : ℕ) → list_any (λ (n : Monomial). is_in j n.vars) q ≡ true → nat_abs (at env j) ≤ val (sizes j) m)
    → nat_abs (polynomial_value q env) ≤ val_sum (monomial_parts q sizes) m
polynomial-covered [] env sizes m h = omega arith
polynomial-covered (n ∷ ns) env sizes m h =
    let here : nat_abs (monomial_value n env) ≤ nat_abs n.coef * val_product (parts_for sizes n.vars) m =
    le_trans (abs-product n.coef (product_value n.vars env))
    (mul-le-mul (omega arith)
    (product-covered n.vars env sizes m
    (λ j k. h j (or_left (is_in j n.vars) (list_any (λ (o : Monomial). is_in j o.vars) ns) k)))) in
    let later = polynomial-covered ns env sizes m
    (λ j k. h j (or_right (is_in j n.vars) (list_any (λ (o : Monomial). is_in j o.vars) ns) k)) in
    omega (arith, abs-sum (monomial_value n env) (polynomial_value ns env), here, later)

-- if all variables are left ones, so is each that the test finds among them
left_among : (left : ℕ) (vars : List ℕ) → All (λ v. v < left) vars → (j : ℕ) → is_in j vars ≡ true → j < left
left_among left [] h j k = absurd (no_is_not_yes false refl k)
left_among left (i ∷ vars) h j k =
    go (is_in-cases j i vars k) (λ l. left_among left vars (All-tail (λ (v : ℕ). v < left) i vars h) j l)
  where
    go : (j ≡ i) ⊎ (is_in j vars ≡ true) → (is_in j vars ≡ true → j < left) → j < left
    go (inl e) ih = omega (arith, e, All-head (λ (v : ℕ). v < left) i vars h)
    go (inr l) ih = ih l

-- each variable of a polynomial with left variables alone is a left one
pub reads_left : (left : ℕ) (q : Polynomial) → ReadsLeft left q → (j : ℕ)
    → list_any (λ (n : Monomial). is_in j n.vars) q ≡ true → j < left
reads_left left [] h j k = absurd (no_is_not_yes false refl k)
reads_left left (n ∷ ns) h j k =
    go (is_in j n.vars) refl
    (λ l. reads_left left ns (All-tail (λ (o : Monomial). All (λ v. v < left) o.vars) n ns h) j l)
  where
    go : (v : Bool) → is_in j n.vars ≡ v → (list_any (λ (o : Monomial). is_in j o.vars) ns ≡ true → j < left) → j < left
    go true e ih = left_among left n.vars (All-head (λ (o : Monomial). All (λ v. v < left) o.vars) n ns h) j e
    go false e ih = ih (rw e at k)
