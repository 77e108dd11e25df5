-- Differences of forms, number by number, and bounds on their numbers.
use Rattle.std.proofs.Common.{◌≡◌, ℕ, zero, suc, ◌+◌, ◌-◌, ◌<◌, ◌≤◌, ◌^◌, ◌⊎◌, max, inl, inr, refl, sym, ap, ◌∙◌, subst}
use Rattle.std.proofs.Common.{arith, List, [], ◌∷◌, length, map, replicate}
use Rattle.std.specs.Prelude.{ℤ, pos, negsuc, nat_abs, unsigned_abs, ◌+ℤ◌, ◌*ℤ◌}
use Rattle.std.specs.List.{All}
use Rattle.std.proofs.lemmas.Int.{ints}
use Rattle.std.proofs.lemmas.Bool.{cases_lt}
use Rattle.std.proofs.lemmas.List.Elements.{All-nil, All-cons, All-append, All-replicate, All-head, All-tail}
use Rattle.std.proofs.lemmas.List.Elements.{All-weaker}
use Rattle.poly_terms.specs.linear_forms.Forms.{Form, at}
use Rattle.poly_terms.specs.linear_forms.Combinations.{coefs_sum, form_sum, zero_form}
use Rattle.poly_terms.specs.linear_forms.Questions.{listed}
use Rattle.poly_terms.specs.linear_forms.RuleQuestions.{constant_form, unknown_form, before_rule, opposite}
use Rattle.poly_terms.proofs.linear_forms.SolutionLaws.{All-listed}
use Rattle.lp_builder.specs.Descriptions.{IsWritable}
use Rattle.poly_terms.specs.model.Limits.{coefficient_limit}
use Rattle.rule_questions.specs.SmallForms.{IsSmall, IsDifferenceSmall}

-- adding an empty list changes nothing
pub sum-nothing : (xs : List ℤ) → coefs_sum xs [] ≡ xs
sum-nothing [] = refl
sum-nothing (a ∷ xs) = refl

-- a form less the form 0 is itself
pub less-zero : (f : Form) → form_sum f (opposite zero_form) ≡ f
less-zero f =
    ap (λ (xs : List ℤ). record { coefs = xs; constant = f.constant +ℤ negsuc 0 *ℤ pos 0 }) (sum-nothing f.coefs)
    ∙ ap (λ (z : ℤ). record { coefs = f.coefs; constant = z }) (nothing f.constant)
  where
    nothing : (z : ℤ) → z +ℤ negsuc 0 *ℤ pos 0 ≡ z
    nothing z = omega (arith, ints)

-- the difference of two lists, number by number
pub difference-listed : (xs ys : List ℤ) (n : ℕ) → length xs ≤ n → length ys ≤ n → (n ≤ length xs) ⊎ (n ≤ length ys)
    → coefs_sum xs (map (λ a. negsuc 0 *ℤ a) ys) ≡ listed n (λ u. at xs u +ℤ negsuc 0 *ℤ at ys u)
difference-listed [] [] zero l m e = refl
difference-listed [] [] (suc n) l m (inl e) = absurd (omega (arith, e))
difference-listed [] [] (suc n) l m (inr e) = absurd (omega (arith, e))
difference-listed [] (b ∷ ys) zero l m e = absurd (omega (arith, m))
difference-listed (a ∷ xs) ys zero l m e = absurd (omega (arith, l))
difference-listed [] (b ∷ ys) (suc n) l m (inl e) = absurd (omega (arith, e))
difference-listed [] (b ∷ ys) (suc n) l m (inr e) =
    ap (λ (z : ℤ). z ∷ map (λ a. negsuc 0 *ℤ a) ys) (nothing (negsuc 0 *ℤ b))
    ∙ ap (λ (zs : List ℤ). (pos 0 +ℤ negsuc 0 *ℤ b) ∷ zs)
    (difference-listed [] ys n (omega arith) (omega (arith, m)) (inr (omega (arith, e))))
  where
    nothing : (z : ℤ) → z ≡ pos 0 +ℤ z
    nothing z = omega (arith, ints)
difference-listed (a ∷ xs) [] (suc n) l m (inr e) = absurd (omega (arith, e))
difference-listed (a ∷ xs) [] (suc n) l m (inl e) =
    ap (λ (z : ℤ). z ∷ xs) (nothing a)
    ∙ ap (λ (zs : List ℤ). (a +ℤ negsuc 0 *ℤ pos 0) ∷ zs)
    (sym (sum-nothing xs) ∙ difference-listed xs [] n (omega (arith, l)) (omega arith) (inl (omega (arith, e))))
  where
    nothing : (z : ℤ) → z ≡ z +ℤ negsuc 0 *ℤ pos 0
    nothing z = omega (arith, ints)
difference-listed (a ∷ xs) (b ∷ ys) (suc n) l m e =
    ap (λ (zs : List ℤ). (a +ℤ negsuc 0 *ℤ b) ∷ zs)
    (difference-listed xs ys n (omega (arith, l)) (omega (arith, m)) (less e))
  where
    less : (suc n ≤ length (a ∷ xs)) ⊎ (suc n ≤ length (b ∷ ys)) → (n ≤ length xs) ⊎ (n ≤ length ys)
    less (inl f) = inl (omega (arith, f))
    less (inr f) = inr (omega (arith, f))

-- a coefficient of a small form is small, also if it isn't listed
pub at-small : (xs : List ℤ) (u : ℕ) → All (λ a. nat_abs a ≤ coefficient_limit) xs → nat_abs (at xs u)
    ≤ coefficient_limit
at-small [] u h = omega arith
at-small (x ∷ xs) zero h = All-head (λ a. nat_abs a ≤ coefficient_limit) x xs h
at-small (x ∷ xs) (suc u) h = at-small xs u (All-tail (λ a. nat_abs a ≤ coefficient_limit) x xs h)

-- the difference of two numbers within the limit is at most twice the limit
pub less-small : (a b : ℤ) → nat_abs a ≤ coefficient_limit → nat_abs b ≤ coefficient_limit
    → nat_abs (a +ℤ negsuc 0 *ℤ b) ≤ coefficient_limit + coefficient_limit
less-small a b l m = go a b (nat_abs a) (nat_abs b) coefficient_limit refl refl l m
  where
    go : (a b : ℤ) (m n l : ℕ) → nat_abs a ≡ m → nat_abs b ≡ n → m ≤ l → n ≤ l → nat_abs (a +ℤ negsuc 0 *ℤ b) ≤ l + l
    go a b m n l e f g h = omega (arith, ints, e, f, g, h)

-- the difference of two small forms is within its limits
pub difference-small : (f g : Form) (n : ℕ) (h : Form) → IsSmall f → IsSmall g
    → h.coefs ≡ listed n (λ u. at f.coefs u +ℤ negsuc 0 *ℤ at g.coefs u)
    → h.constant ≡ f.constant +ℤ negsuc 0 *ℤ g.constant → IsDifferenceSmall h
difference-small f g n h s t e c = record {
  coefs = subst (λ (xs : List ℤ). All (λ a. nat_abs a ≤ coefficient_limit + coefficient_limit) xs) (sym e)
      (All-listed (λ a. nat_abs a ≤ coefficient_limit + coefficient_limit) n _
      (λ u l. less-small (at f.coefs u) (at g.coefs u) (at-small f.coefs u s.coefs) (at-small g.coefs u t.coefs)));
  constant = subst (λ (z : ℤ). nat_abs z ≤ coefficient_limit + coefficient_limit) (sym c)
      (less-small f.constant g.constant s.constant t.constant);
}

-- a small form is within the limits of a difference
pub small-difference : (f : Form) → IsSmall f → IsDifferenceSmall f
small-difference f s = record {
  coefs = All-weaker (λ a. nat_abs a ≤ coefficient_limit) (λ a. nat_abs a ≤ coefficient_limit + coefficient_limit)
      (λ a l. wider (nat_abs a) coefficient_limit l) f.coefs s.coefs;
  constant = wider (nat_abs f.constant) coefficient_limit s.constant;
}
  where
    wider : (n l : ℕ) → n ≤ l → n ≤ l + l
    wider n l h = omega (arith, h)

-- the form of a constant of at most 1 in absolute value is small
pub constant-small : (z : ℤ) → nat_abs z ≤ 1 → IsSmall (constant_form z)
constant-small z l = record { coefs = All-nil (λ (a : ℤ). nat_abs a ≤ coefficient_limit); constant = omega (arith, l) }

-- the form of a single unknown is small
pub unknown-small : (u : ℕ) → IsSmall (unknown_form u)
unknown-small u = record {
  coefs = All-append (λ (a : ℤ). nat_abs a ≤ coefficient_limit) (replicate u (pos 0)) (pos 1 ∷ [])
      (All-replicate (λ (a : ℤ). nat_abs a ≤ coefficient_limit) u (pos 0) (omega arith))
      (All-cons (λ (a : ℤ). nat_abs a ≤ coefficient_limit) (pos 1) [] (omega arith)
      (All-nil (λ (a : ℤ). nat_abs a ≤ coefficient_limit)));
  constant = omega arith;
}

-- the factor of a place before a rule, if it isn't the constant's, is an unknown
pub before-place : (i : ℕ) → 0 < i → unknown_form (i - 1) ≡ before_rule i
before-place zero l = absurd (omega (arith, l))
before-place (suc i) l = ap unknown_form (let e : suc i - 1 ≡ i = omega arith in e)

-- small differences that fit can be written
pub difference-writable : (n : ℕ) (f : Form) → length f.coefs ≤ n → IsDifferenceSmall f → IsWritable n f
difference-writable n f l s = record {
  fits = l;
  coefs = All-weaker (λ a. nat_abs a ≤ coefficient_limit + coefficient_limit) (λ a. unsigned_abs a < 2 ^ 127)
      (λ a m. narrow (nat_abs a) m) f.coefs s.coefs;
  constant = narrow (nat_abs f.constant) s.constant;
}
  where
    narrow : (n : ℕ) → n ≤ coefficient_limit + coefficient_limit → n < 2 ^ 127
    narrow n l = omega (arith, l)

-- the maximum of two numbers is one of them
max-one : (a b n : ℕ) → n ≡ max a b → (n ≤ a) ⊎ (n ≤ b)
max-one a b n e = go (cases_lt a b)
  where
    go : (a < b) ⊎ (b ≤ a) → (n ≤ a) ⊎ (n ≤ b)
    go (inl l) = inr (omega (arith, e, l))
    go (inr l) = inl (omega (arith, e, l))

-- the difference of two forms, by its numbers
pub difference-is : (f g : Form) (n : ℕ) (xs : List ℤ) (z : ℤ) → n ≡ max (length f.coefs) (length g.coefs)
    → xs ≡ listed n (λ u. at f.coefs u +ℤ negsuc 0 *ℤ at g.coefs u) → z ≡ f.constant +ℤ negsuc 0 *ℤ g.constant
    → record { coefs = xs; constant = z } ≡ form_sum f (opposite g)
difference-is f g n xs z m e h =
    ap (λ (ys : List ℤ). made ys z)
    (e ∙ sym (difference-listed f.coefs g.coefs n (omega (arith, m)) (omega (arith, m))
    (max-one (length f.coefs) (length g.coefs) n m)))
    ∙ ap (λ (y : ℤ). made (form_sum f (opposite g)).coefs y) h
  where
    made : List ℤ → ℤ → Form
    made ys y = record { coefs = ys; constant = y }
