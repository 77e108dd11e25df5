-- Coefficients, numbers in lines, and values of sums and multiples of forms.
use Rattle.std.proofs.Common.{◌≡◌, ℕ, zero, suc, ◌≤◌, ap, arith, refl, List, [], ◌∷◌, length, map, Bool, true, false}
use Rattle.std.proofs.Common.{if◌then◌else◌}
use Rattle.std.specs.Prelude.{ℤ, pos, ◌+ℤ◌, ◌*ℤ◌, nat_lt}
use Rattle.std.specs.List.{All}
use Rattle.std.proofs.lemmas.Int.{ints}
use Rattle.std.proofs.lemmas.List.Elements.{All-head, All-tail}
use Rattle.int_laws.proofs.RingLaws.{mul_comm_ℤ, mul-add_ℤ, add-mul_ℤ, mul_assoc_ℤ}
use Rattle.linear_forms.specs.Forms.{Form, at, list_dot, form_value}
use Rattle.linear_forms.specs.Combinations.{coefs_sum, form_sum, form_times, combination}
use Rattle.linear_forms.specs.Questions.{Group, goal_at, number}

-- a coefficient of a sum is the sum of the coefficients
pub at-sum : (xs ys : List ℤ) (u : ℕ) → at (coefs_sum xs ys) u ≡ at xs u +ℤ at ys u
at-sum [] ys u = nothing (at ys u)
  where
    nothing : (z : ℤ) → z ≡ pos 0 +ℤ z
    nothing z = omega (arith, ints)
at-sum (a ∷ xs) [] u = nothing (at (a ∷ xs) u)
  where
    nothing : (z : ℤ) → z ≡ z +ℤ pos 0
    nothing z = omega (arith, ints)
at-sum (a ∷ xs) (b ∷ ys) zero = refl
at-sum (a ∷ xs) (b ∷ ys) (suc u) = at-sum xs ys u

-- a coefficient of a multiple is the multiple of the coefficient
pub at-times : (c : ℤ) (xs : List ℤ) (u : ℕ) → at (map (λ a. c *ℤ a) xs) u ≡ c *ℤ at xs u
at-times c [] u = nothing c
  where
    nothing : (z : ℤ) → pos 0 ≡ z *ℤ pos 0
    nothing z = omega (arith, ints)
at-times c (a ∷ xs) zero = refl
at-times c (a ∷ xs) (suc u) = at-times c xs u

-- a number of a sum is the sum of the numbers
pub number-sum : (n u : ℕ) (f g : Form) → number n u (form_sum f g) ≡ number n u f +ℤ number n u g
number-sum n u f g = go (nat_lt u n)
  where
    go : (b : Bool) → (if b then at (form_sum f g).coefs u else (form_sum f g).constant)
        ≡ (if b then at f.coefs u else f.constant) +ℤ (if b then at g.coefs u else g.constant)
    go true = at-sum f.coefs g.coefs u
    go false = refl

-- a number of a multiple is the multiple of the number
pub number-times : (n u : ℕ) (c : ℤ) (f : Form) → number n u (form_times c f) ≡ c *ℤ number n u f
number-times n u c f = go (nat_lt u n)
  where
    go : (b : Bool) → (if b then at (form_times c f).coefs u else (form_times c f).constant) ≡ c *ℤ (if b then at f.coefs u else f.constant)
    go true = at-times c f.coefs u
    go false = refl

-- a number of the empty combination is 0
number-nothing : (n u : ℕ) → number n u (combination [] (λ _. pos 0)) ≡ pos 0
number-nothing n u = go (nat_lt u n)
  where
    go : (b : Bool) → (if b then pos 0 else pos 0) ≡ pos 0
    go true = refl
    go false = refl

-- a number of a combination is the combination of the numbers
pub number-combination : (n u : ℕ) (fs : List Form) (v : ℕ → ℤ) → number n u (combination fs v) ≡ list_dot (map (number n u) fs) v
number-combination n u [] v = number-nothing n u
number-combination n u (f ∷ fs) v =
    regroup _ _ _ _ _ (number-sum n u (form_times (v 0) f) (combination fs (λ p. v (suc p)))) (number-times n u (v 0) f) (mul_comm_ℤ (v 0) (number n u f))
    (number-combination n u fs (λ p. v (suc p)))
  where
    regroup : (s a b m w : ℤ) {r : ℤ} → s ≡ a +ℤ b → a ≡ m → m ≡ w → b ≡ r → s ≡ w +ℤ r
    regroup s a b m w e d f g = omega (arith, ints, e, d, f, g)

-- a number of a goal at parameters
pub number-goal : (g : Group) (n u : ℕ) (v : ℕ → ℤ) (d : ℤ)
    → number n u (goal_at g v d) ≡ list_dot (map (number n u) g.goals) v +ℤ d *ℤ number n u g.fixed
number-goal g n u v d =
    regroup _ _ _ _ _ (number-sum n u (combination g.goals v) (form_times d g.fixed)) (number-combination n u g.goals v) (number-times n u d g.fixed)
  where
    regroup : (s a b v w : ℤ) → s ≡ a +ℤ b → a ≡ v → b ≡ w → s ≡ v +ℤ w
    regroup s a b v w e d f = omega (arith, ints)

-- the dot product of a sum is the sum of the dot products
list_dot-sums : (xs ys : List ℤ) (z : ℕ → ℤ) → list_dot (coefs_sum xs ys) z ≡ list_dot xs z +ℤ list_dot ys z
list_dot-sums [] ys z = nothing (list_dot ys z)
  where
    nothing : (z : ℤ) → z ≡ pos 0 +ℤ z
    nothing z = omega (arith, ints)
list_dot-sums (a ∷ xs) [] z = nothing (list_dot (a ∷ xs) z)
  where
    nothing : (z : ℤ) → z ≡ z +ℤ pos 0
    nothing z = omega (arith, ints)
list_dot-sums (a ∷ xs) (b ∷ ys) z =
    regroup _ (a *ℤ z 0) (b *ℤ z 0) _ (list_dot xs (λ i. z (suc i))) (list_dot ys (λ i. z (suc i))) (add-mul_ℤ a b (z 0)) (list_dot-sums xs ys (λ i. z (suc i)))
  where
    regroup : (p q r s v w : ℤ) → p ≡ q +ℤ r → s ≡ v +ℤ w → p +ℤ s ≡ (q +ℤ v) +ℤ (r +ℤ w)
    regroup p q r s v w e f = omega (arith, ints)

-- the dot product of a multiple is the multiple of the dot product
list_dot-times : (c : ℤ) (xs : List ℤ) (z : ℕ → ℤ) → list_dot (map (λ a. c *ℤ a) xs) z ≡ c *ℤ list_dot xs z
list_dot-times c [] z = nothing c
  where
    nothing : (z : ℤ) → pos 0 ≡ z *ℤ pos 0
    nothing z = omega (arith, ints)
list_dot-times c (a ∷ xs) z = regroup _ _ _ _ _ (mul_assoc_ℤ c a (z 0)) (list_dot-times c xs (λ i. z (suc i))) (mul-add_ℤ c (a *ℤ z 0) (list_dot xs (λ i. z (suc i))))
  where
    regroup : (p q s t w : ℤ) → p ≡ q → s ≡ t → w ≡ q +ℤ t → p +ℤ s ≡ w
    regroup p q s t w e f g = omega (arith, ints)

-- the value of a sum is the sum of the values
pub form_value-sum : (f g : Form) (z : ℕ → ℤ) (d : ℤ) → form_value (form_sum f g) z d ≡ form_value f z d +ℤ form_value g z d
form_value-sum f g z d =
    regroup _ (list_dot f.coefs z) (list_dot g.coefs z) _ (f.constant *ℤ d) (g.constant *ℤ d) (list_dot-sums f.coefs g.coefs z) (add-mul_ℤ f.constant g.constant d)
  where
    regroup : (s v w t p q : ℤ) → s ≡ v +ℤ w → t ≡ p +ℤ q → s +ℤ t ≡ (v +ℤ p) +ℤ (w +ℤ q)
    regroup s v w t p q e f = omega (arith, ints)

-- the value of a multiple is the multiple of the value
pub form_value-times : (c : ℤ) (f : Form) (z : ℕ → ℤ) (d : ℤ) → form_value (form_times c f) z d ≡ c *ℤ form_value f z d
form_value-times c f z d = regroup _ _ _ _ _ (list_dot-times c f.coefs z) (mul_assoc_ℤ c f.constant d) (mul-add_ℤ c (list_dot f.coefs z) (f.constant *ℤ d))
  where
    regroup : (s v t p w : ℤ) → s ≡ v → t ≡ p → w ≡ v +ℤ p → s +ℤ t ≡ w
    regroup s v t p w e f g = omega (arith, ints)

-- the value of a combination is the combination of the values
pub form_value-combination : (fs : List Form) (v z : ℕ → ℤ) (d : ℤ) → form_value (combination fs v) z d ≡ list_dot (map (λ f. form_value f z d) fs) v
form_value-combination [] v z d = nothing d
  where
    nothing : (z : ℤ) → pos 0 +ℤ pos 0 *ℤ z ≡ pos 0
    nothing z = omega (arith, ints)
form_value-combination (f ∷ fs) v z d =
    regroup _ _ _ _ _ _ (form_value-sum (form_times (v 0) f) (combination fs (λ p. v (suc p))) z d) (form_value-times (v 0) f z d) (mul_comm_ℤ (v 0) (form_value f z d))
    (form_value-combination fs (λ p. v (suc p)) z d)
  where
    regroup : (s a b m w r : ℤ) → s ≡ a +ℤ b → a ≡ m → m ≡ w → b ≡ r → s ≡ w +ℤ r
    regroup s a b m w r e d f g = omega (arith, ints)

-- the value of a goal at parameters, by those of the goal forms and of the fixed form
pub form_value-goal : (g : Group) (v : ℕ → ℤ) (e : ℤ) (z : ℕ → ℤ) (d : ℤ)
    → form_value (goal_at g v e) z d ≡ list_dot (map (λ f. form_value f z d) g.goals) v +ℤ e *ℤ form_value g.fixed z d
form_value-goal g v e z d =
    regroup _ _ _ _ _ (form_value-sum (combination g.goals v) (form_times e g.fixed) z d) (form_value-combination g.goals v z d) (form_value-times e g.fixed z d)
  where
    regroup : (s a b v w : ℤ) → s ≡ a +ℤ b → a ≡ v → b ≡ w → s ≡ v +ℤ w
    regroup s a b v w e d f = omega (arith, ints)

-- a sum has no coefficient past those of its parts
pub length-sum : (xs ys : List ℤ) (n : ℕ) → length xs ≤ n → length ys ≤ n → length (coefs_sum xs ys) ≤ n
length-sum [] ys n l m = m
length-sum (a ∷ xs) [] n l m = l
length-sum (a ∷ xs) (b ∷ ys) zero l m = absurd (omega arith)
length-sum (a ∷ xs) (b ∷ ys) (suc n) l m = more (length-sum xs ys n (omega arith) (omega arith))
  where
    more : length (coefs_sum xs ys) ≤ n → suc (length (coefs_sum xs ys)) ≤ suc n
    more h = omega arith

-- a multiple has as many coefficients as the form
length-times : (c : ℤ) (xs : List ℤ) → length (map (λ a. c *ℤ a) xs) ≡ length xs
length-times c [] = refl
length-times c (a ∷ xs) = ap (λ (n : ℕ). suc n) (length-times c xs)

-- a combination has no coefficient past those of its forms
length-combination : (fs : List Form) (v : ℕ → ℤ) (n : ℕ) → All (λ f. length f.coefs ≤ n) fs → length (combination fs v).coefs ≤ n
length-combination [] v n h = omega arith
length-combination (f ∷ fs) v n h =
    length-sum _ _ n (at_most _ _ (length-times (v 0) f.coefs) (All-head (λ (g : Form). length g.coefs ≤ n) f fs h))
    (length-combination fs (λ p. v (suc p)) n (All-tail (λ (g : Form). length g.coefs ≤ n) f fs h))
  where
    at_most : (a b : ℕ) → a ≡ b → b ≤ n → a ≤ n
    at_most a b e l = omega arith

-- a goal has no coefficient past its group's unknowns
pub length-goal : (g : Group) (v : ℕ → ℤ) (d : ℤ) (n : ℕ) → All (λ f. length f.coefs ≤ n) g.goals → length g.fixed.coefs ≤ n
    → length (goal_at g v d).coefs ≤ n
length-goal g v d n h k = length-sum _ _ n (length-combination g.goals v n h) (at_most _ _ (length-times d g.fixed.coefs) k)
  where
    at_most : (a b : ℕ) → a ≡ b → b ≤ n → a ≤ n
    at_most a b e l = omega arith
