-- The forms that the parameters of a question represent, coefficient by coefficient.
use Rattle.std.proofs.Common.{◌≡◌, ℕ, zero, suc, ◌+◌, ◌<◌, ap, arith, refl, sym, ◌∙◌, List, [], ◌∷◌, ◌++◌, map, ◌≢◌}
use Rattle.std.specs.Prelude.{ℤ, pos, ◌+ℤ◌, ◌*ℤ◌}
use Rattle.std.specs.List.{range_with_len}
use Rattle.std.proofs.lemmas.Int.{ints}
use Rattle.linear_forms.specs.Forms.{Form, at, list_dot}
use Rattle.linear_forms.specs.Combinations.{combination}
use Rattle.linear_forms.specs.RuleQuestions.{before_rule, unknown_form}
use Rattle.linear_forms.proofs.CombinationLaws.{number-combination}
use Rattle.linear_forms.proofs.SolutionLaws.{number-unknown}
use Rattle.rule_forms.proofs.Forms.{at-itself, at-other, nothing}

-- a coefficient of a combination is the combination of the coefficients
pub at-combination : (fs : List Form) (v : ℕ → ℤ) (u : ℕ)
    → at (combination fs v).coefs u ≡ list_dot (map (λ f. at f.coefs u) fs) v
at-combination fs v u =
    sym (ap (λ (h : Form → ℤ). h (combination fs v)) (number-unknown (suc u) u (omega arith)))
    ∙ (number-combination (suc u) u fs v
    ∙ ap (λ (h : Form → ℤ). list_dot (map h fs) v) (number-unknown (suc u) u (omega arith)))

-- the constant of a combination is the combination of the constants
pub constant-combination : (fs : List Form) (v : ℕ → ℤ)
    → (combination fs v).constant ≡ list_dot (map (λ f. f.constant) fs) v
constant-combination fs v = number-combination 0 0 fs v

-- n left arguments from the one at place b on, followed by the form 1
abbrev pub arguments_and_one : ℕ → ℕ → List Form
arguments_and_one b n = map before_rule (range_with_len b n ++ 0 ∷ [])

-- the coefficients of the argument at a place
at_place : (b a u : ℕ) → b ≡ suc a → at (before_rule b).coefs u ≡ at (unknown_form a).coefs u
at_place b a u e = ap (λ (k : ℕ). at (before_rule k).coefs u) e

-- the form of an argument has the constant 0
no_constant : (b a : ℕ) → b ≡ suc a → (before_rule b).constant ≡ pos 0
no_constant b a e = ap (λ (k : ℕ). (before_rule k).constant) e

-- an unknown that is none of these arguments has coefficient 0
pub no_coef : (b a n u : ℕ) (v : ℕ → ℤ) → b ≡ suc a → ((k : ℕ) → k < n → a + k ≢ u)
    → list_dot (map (λ f. at f.coefs u) (arguments_and_one b n)) v ≡ pos 0
no_coef b a zero u v s h = nothing (pos 0) (v 0) (pos 0) refl refl
no_coef b a (suc n) u v s h =
    nothing _ (v 0) _ (at_place b a u s ∙ at-other a u (λ e. h 0 (omega arith) (omega (arith, e))))
    (no_coef (b + 1) (suc a) n u (λ i. v (suc i)) (omega (arith, s))
    (λ k l e. h (suc k) (omega (arith, l)) (omega (arith, e))))

-- one of two terms is the sum if the other is 0, on each side
first_alone : (c x r : ℤ) → c ≡ pos 1 → r ≡ pos 0 → c *ℤ x +ℤ r ≡ x
first_alone c x r e f = ap (λ (k : ℤ). k *ℤ x +ℤ r) e ∙ one x r f
  where
    one : (x r : ℤ) → r ≡ pos 0 → pos 1 *ℤ x +ℤ r ≡ x
    one x r f = omega (arith, ints)

rest_alone : (c x r w : ℤ) → c ≡ pos 0 → r ≡ w → c *ℤ x +ℤ r ≡ w
rest_alone c x r w e f = ap (λ (k : ℤ). k *ℤ x +ℤ r) e ∙ zero_times x r w f
  where
    zero_times : (x r w : ℤ) → r ≡ w → pos 0 *ℤ x +ℤ r ≡ w
    zero_times x r w f = omega (arith, ints)

-- the coefficient of each of these arguments is its parameter
pub own_coef : (b a n k u : ℕ) (v : ℕ → ℤ) → b ≡ suc a → k < n → a + k ≡ u
    → list_dot (map (λ f. at f.coefs u) (arguments_and_one b n)) v ≡ v k
own_coef b a zero k u v s l e = absurd (omega (arith, l))
own_coef b a (suc n) zero u v s l e =
    first_alone _ _ _ (at_place b a u s ∙ (ap (λ (w : ℕ). at (unknown_form a).coefs w)
    (omega (arith, e)) ∙ at-itself a))
    (no_coef (b + 1) (suc a) n u (λ i. v (suc i)) (omega (arith, s)) (λ k m f. omega (arith, e, f)))
own_coef b a (suc n) (suc k) u v s l e =
    rest_alone _ (v 0) _ _ (at_place b a u s ∙ at-other a u (λ f. omega (arith, e, f)))
    (own_coef (b + 1) (suc a) n k u (λ i. v (suc i)) (omega (arith, s)) (omega (arith, l)) (omega (arith, e)))

-- the constant is the last parameter
pub own_constant : (b a n : ℕ) (v : ℕ → ℤ) → b ≡ suc a
    → list_dot (map (λ f. f.constant) (arguments_and_one b n)) v ≡ v n
own_constant b a zero v s = first_alone (pos 1) (v 0) (pos 0) refl refl
own_constant b a (suc n) v s =
    rest_alone _ (v 0) _ _ (no_constant b a s) (own_constant (b + 1) (suc a) n (λ i. v (suc i)) (omega (arith, s)))
