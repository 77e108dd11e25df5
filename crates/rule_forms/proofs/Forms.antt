-- Coefficients of lists of zeros, listed values and single unknowns, and forms with the same coefficients.
use Rattle.std.proofs.Common.{◌≡◌, ℕ, zero, suc, ◌<◌, ◌≤◌, ap, arith, refl, sym, ◌∙◌, List, [], ◌∷◌, replicate, ◌≢◌}
use Rattle.std.specs.Prelude.{ℤ, pos, ◌+ℤ◌, ◌*ℤ◌}
use Rattle.std.proofs.lemmas.Int.{ints}
use Rattle.std.proofs.lemmas.List.{get_or_past}
use Rattle.linear_forms.specs.Forms.{Form, at, list_dot, form_value}
use Rattle.linear_forms.specs.Certificates.{Implies}
use Rattle.linear_forms.specs.Questions.{listed}
use Rattle.linear_forms.specs.RuleQuestions.{unknown_form}
use Rattle.linear_forms.proofs.ListLaws.{listed-is, length-listed}
use Rattle.rule_forms.specs.Kinds.{AreSame}

-- a list of zeros is 0 everywhere
pub at-zeros : (n u : ℕ) → at (replicate n (pos 0)) u ≡ pos 0
at-zeros zero u = refl
at-zeros (suc n) zero = refl
at-zeros (suc n) (suc u) = at-zeros n u

-- the number of a listed function at an index
pub at-listed : (n : ℕ) (f : ℕ → ℤ) (u : ℕ) → u < n → at (listed n f) u ≡ f u
at-listed n f u l = listed-is n f u (pos 0) l

-- past the end a listed function is 0
pub at-past : (n : ℕ) (f : ℕ → ℤ) (u : ℕ) → n ≤ u → at (listed n f) u ≡ pos 0
at-past n f u l = get_or_past (listed n f) u (pos 0) (omega (arith, length-listed n f, l))

-- the form of an unknown has coefficient 1 at the unknown
pub at-itself : (u : ℕ) → at (unknown_form u).coefs u ≡ pos 1
at-itself zero = refl
at-itself (suc u) = at-itself u

-- the form of an unknown has coefficient 0 at each other unknown
pub at-other : (u v : ℕ) → u ≢ v → at (unknown_form u).coefs v ≡ pos 0
at-other zero zero h = absurd (h refl)
at-other zero (suc v) h = refl
at-other (suc u) zero h = refl
at-other (suc u) (suc v) h = at-other u v (λ e. h (ap (λ (n : ℕ). suc n) e))

-- a product with 0 plus 0 is 0
pub nothing : (c x r : ℤ) → c ≡ pos 0 → r ≡ pos 0 → c *ℤ x +ℤ r ≡ pos 0
nothing c x r e f = ap (λ (k : ℤ). k *ℤ x +ℤ r) e ∙ zero_times x r f
  where
    zero_times : (x r : ℤ) → r ≡ pos 0 → pos 0 *ℤ x +ℤ r ≡ pos 0
    zero_times x r f = omega (arith, ints)

-- lists with the same numbers have the same dot product
pub dot-same : (xs ys : List ℤ) (z : ℕ → ℤ) → ((u : ℕ) → at xs u ≡ at ys u) → list_dot xs z ≡ list_dot ys z
dot-same [] [] z h = refl
dot-same [] (y ∷ ys) z h = sym (nothing y (z 0) _ (sym (h 0)) (sym (dot-same [] ys (λ i. z (suc i)) (λ u. h (suc u)))))
dot-same (x ∷ xs) [] z h = nothing x (z 0) _ (h 0) (dot-same xs [] (λ i. z (suc i)) (λ u. h (suc u)))
dot-same (x ∷ xs) (y ∷ ys) z h =
    both x y (z 0) _ _ (h 0) (dot-same xs ys (λ i. z (suc i)) (λ u. h (suc u)))
  where
    both : (x y v a b : ℤ) → x ≡ y → a ≡ b → x *ℤ v +ℤ a ≡ y *ℤ v +ℤ b
    both x y v a b e f = ap (λ (k : ℤ). k *ℤ v +ℤ a) e ∙ ap (λ (k : ℤ). y *ℤ v +ℤ k) f

-- the same forms have the same values
pub value-same : (f g : Form) (z : ℕ → ℤ) (d : ℤ) → AreSame f g → form_value f z d ≡ form_value g z d
value-same f g z d same =
    both _ _ _ _ (dot-same f.coefs g.coefs z same.coefs) (ap (λ c. c *ℤ d) same.constant)
  where
    both : (a b c e : ℤ) → a ≡ b → c ≡ e → a +ℤ c ≡ b +ℤ e
    both a b c e h k = ap (λ (n : ℤ). n +ℤ c) h ∙ ap (λ (n : ℤ). b +ℤ n) k

-- if a form follows from rows, so does each form with the same coefficients and constant
pub implies-same : (rows : List Form) (ms : List ℕ) (f g : Form) → AreSame f g → Implies rows ms f → Implies rows ms g
implies-same rows ms f g same implies = record {
  long = implies.long;
  coefs = λ u. sym (same.coefs u) ∙ implies.coefs u;
  constant = rw (sym same.constant) implies.constant;
}
