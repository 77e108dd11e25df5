-- Along an unbounded ray, from a point of the rows, the value exceeds every affine form in the left arguments.
use Rattle.std.proofs.Common.{◌≡◌, ◌⊎◌, inl, inr, ℕ, suc, ◌+◌, ◌<◌, ◌≤◌, List, [], ◌∷◌, refl, ◌∙◌, ap, arith}
use Rattle.std.specs.Prelude.{ℤ, pos, negsuc, ◌+ℤ◌, ◌*ℤ◌, ◌≤ℤ◌, ◌<ℤ◌, nat_abs}
use Rattle.std.proofs.lemmas.Bool.{cases_lt}
use Rattle.std.proofs.lemmas.Int.{ints}
use Rattle.std.proofs.lemmas.List.Elements.{All-from_recursion, recursion_from_All}
use Rattle.std.specs.List.{AllByRecursion}
use Rattle.its_model.specs.int_laws.Polynomial.{variable, ◌⊕◌, ◌⊗◌}
use Rattle.its_model.specs.linear_forms.Forms.{Form, at, list_dot, form_value}
use Rattle.its_model.specs.linear_forms.Points.{IsPoint}
use Rattle.its_model.proofs.linear_forms.int_laws.Identities.{identity}
use Rattle.its_model.proofs.linear_forms.int_laws.OrderLaws.{mul-nonneg_ℤ, mul-le-mul_ℤ}
use Rattle.its_model.proofs.linear_forms.int_laws.RingLaws.{mul-add_ℤ, mul-zero_ℤ, zero-mul_ℤ, mul_comm_ℤ}
use Rattle.cert_types.specs.cert_rules.Gaps.{ScaledPoint}
use Rattle.cert_types.specs.rule_forms.Bounds.{IsUnboundedRay}
use Rattle.cert_types.specs.rule_forms.Kinds.{Affine, IsOfKind}
use Rattle.cert_types.proofs.rule_forms.Rays.{unmoved}
use Rattle.time_bounds.specs.SizeWhys.{moved, PassesForms}

-- the sum of products at a moved point
dot_moved : (xs : List ℤ) (z r : ℕ → ℤ) (n : ℤ) → list_dot xs (λ u. z u +ℤ n *ℤ r u) ≡ list_dot xs z +ℤ n *ℤ list_dot xs r
dot_moved [] z r n = nothing n
  where
    nothing : (n : ℤ) → pos 0 ≡ pos 0 +ℤ n *ℤ pos 0
    nothing n = omega (arith, ints)
dot_moved (a ∷ xs) z r n =
    ap (λ (s : ℤ). a *ℤ (z 0 +ℤ n *ℤ r 0) +ℤ s) (dot_moved xs (λ i. z (suc i)) (λ i. r (suc i)) n)
    ∙ identity (a ∷ z 0 ∷ n ∷ r 0 ∷ list_dot xs (λ i. z (suc i)) ∷ list_dot xs (λ i. r (suc i)) ∷ [])
    (variable 0 ⊗ (variable 1 ⊕ variable 2 ⊗ variable 3) ⊕ (variable 4 ⊕ variable 2 ⊗ variable 5))
    ((variable 0 ⊗ variable 1 ⊕ variable 4) ⊕ variable 2 ⊗ (variable 0 ⊗ variable 3 ⊕ variable 5)) refl

-- the value of a form at a moved point
value_moved : (f : Form) (z r : ℕ → ℤ) (n d : ℤ)
    → form_value f (λ u. z u +ℤ n *ℤ r u) d ≡ form_value f z d +ℤ n *ℤ form_value f r (pos 0)
value_moved f z r n d =
    ap (λ (s : ℤ). s +ℤ f.constant *ℤ d) (dot_moved f.coefs z r n)
    ∙ regroup _ _ _ _ (mul-zero_ℤ f.constant (pos 0) refl)
  where
    plus : (b k : ℤ) → k ≡ pos 0 → b ≡ b +ℤ k
    plus b k e = omega (arith, ints, e)

    swap : (a c m : ℤ) → (a +ℤ m) +ℤ c ≡ (a +ℤ c) +ℤ m
    swap a c m = omega (arith, ints)

    regroup : (a b c k : ℤ) → k ≡ pos 0 → (a +ℤ n *ℤ b) +ℤ c ≡ (a +ℤ c) +ℤ n *ℤ (b +ℤ k)
    regroup a b c k e = swap a c (n *ℤ b) ∙ ap (λ (s : ℤ). (a +ℤ c) +ℤ n *ℤ s) (plus b k e)

module _ (rows : List Form) (left : ℕ) (value : Form) (kept : ScaledPoint) (ray : List ℤ)
    (point : IsPoint rows (at kept.parts) (pos kept.den)) (unbounded : IsUnboundedRay rows left value (at ray)) where
  abbrev den : ℤ
  den = pos kept.den

  -- each row stays at least 0
  rows_met : (fs : List Form) (n : ℕ) → AllByRecursion (λ f. pos 0 ≤ℤ form_value f (at kept.parts) den) fs
      → AllByRecursion (λ f. pos 0 ≤ℤ form_value f (at ray) (pos 0)) fs
      → AllByRecursion (λ f. pos 0 ≤ℤ form_value f (moved kept ray n) den) fs
  rows_met [] n h k = tt
  rows_met (f ∷ fs) n h k = (
    above _ _ _ (value_moved f (at kept.parts) (at ray) (pos n) den) h.0
        (mul-nonneg_ℤ (pos n) _ (omega (arith, ints)) k.0),
    rows_met fs n h.1 k.1,
  )
    where
      above : (s a b : ℤ) → s ≡ a +ℤ b → pos 0 ≤ℤ a → pos 0 ≤ℤ b → pos 0 ≤ℤ s
      above s a b e l m = omega (arith, ints, e, l, m)

  -- a form in left arguments is unchanged along a ray that changes none of them
  still : (g : Form) → ((u : ℕ) → left ≤ u → at g.coefs u ≡ pos 0) → (u : ℕ) → (u < left) ⊎ (left ≤ u)
      → at g.coefs u *ℤ at ray u ≡ pos 0
  still g is u (inl l) = mul-zero_ℤ _ _ (unbounded.still u l)
  still g is u (inr l) = zero-mul_ℤ _ _ (is u l)

  flat : (g : Form) → ((u : ℕ) → left ≤ u → at g.coefs u ≡ pos 0) → form_value g (at ray) (pos 0) ≡ pos 0
  flat g is =
      none _ _ (unmoved g.coefs (at ray) (λ u. still g is u (cases_lt u left))) (mul-zero_ℤ g.constant (pos 0) refl)
    where
      none : (a b : ℤ) → a ≡ pos 0 → b ≡ pos 0 → a +ℤ b ≡ pos 0
      none a b e f = omega (arith, ints, e, f)

  -- a number is between its absolute value and the opposite of it
  most : (a : ℤ) → a ≤ℤ pos (nat_abs a)
  most (pos n) = omega (arith, ints)
  most (negsuc n) = omega (arith, ints)

  least : (a : ℤ) → pos 0 ≤ℤ (a +ℤ pos (nat_abs a))
  least (pos n) = omega (arith, ints)
  least (negsuc n) = omega (arith, ints)

  -- m times a positive number, multiplied by a number of at least 1, is at least m
  gains : (q m : ℕ) (r : ℤ) → 1 ≤ q → pos 0 <ℤ r → pos m ≤ℤ (pos q *ℤ (pos m *ℤ r))
  gains q m r l rises =
      both _ _ (mul-le-mul_ℤ (pos m) (pos 1) r (omega (arith, ints)) (omega (arith, ints, rises)))
      (mul-le-mul_ℤ (pos m *ℤ r) (pos 1) (pos q) (mul-nonneg_ℤ (pos m) r (omega (arith, ints)) (omega (arith, ints, rises)))
      (omega (arith, ints, l))) (mul_comm_ℤ (pos m *ℤ r) (pos q))
    where
      both : (x y : ℤ) → (pos m *ℤ pos 1) ≤ℤ x → (x *ℤ pos 1) ≤ℤ y → y ≡ pos q *ℤ x → pos m ≤ℤ (pos q *ℤ x)
      both x y a b e = omega (arith, ints, a, b, e)

  -- the value exceeds each form
  passed : (g : Form) (q : ℕ) → 1 ≤ q → IsOfKind left Affine g q → (m : ℕ)
      → nat_abs (form_value g (at kept.parts) den) + (nat_abs (pos q *ℤ form_value value (at kept.parts) den) + 1) ≤ m
      → form_value g (moved kept ray m) den <ℤ (pos q *ℤ form_value value (moved kept ray m) den)
  passed g q l is m far =
      below _ _ _ _ _ _ (value_moved g (at kept.parts) (at ray) (pos m) den) (mul-zero_ℤ (pos m) _ (flat g is))
      (ap (λ (x : ℤ). pos q *ℤ x) (value_moved value (at kept.parts) (at ray) (pos m) den)
      ∙ mul-add_ℤ (pos q) (form_value value (at kept.parts) den) (pos m *ℤ form_value value (at ray) (pos 0)))
      (gains q m (form_value value (at ray) (pos 0)) l unbounded.rises) (most (form_value g (at kept.parts) den))
      (least (pos q *ℤ form_value value (at kept.parts) den))
    where
      below : (s g0 k v w0 gain : ℤ) → s ≡ g0 +ℤ k → k ≡ pos 0 → v ≡ w0 +ℤ gain → pos m ≤ℤ gain
          → g0 ≤ℤ pos (nat_abs (form_value g (at kept.parts) den))
          → pos 0 ≤ℤ (w0 +ℤ pos (nat_abs (pos q *ℤ form_value value (at kept.parts) den))) → s <ℤ v
      below s g0 k v w0 gain a b c d e f = omega (arith, ints, a, b, c, d, e, f, far)

  pub unbounded_passes : PassesForms rows left value kept ray
  unbounded_passes = record {
    inside = λ n. record {
      denominator = point.denominator;
      meets = record {
        each = All-from_recursion (λ f. pos 0 ≤ℤ form_value f (moved kept ray n) den) rows
            (rows_met rows n (recursion_from_All (λ f. pos 0 ≤ℤ form_value f (at kept.parts) den) rows point.meets.each)
            (recursion_from_All (λ f. pos 0 ≤ℤ form_value f (at ray) (pos 0)) rows unbounded.ray.each));
      };
    };
    passes = λ g q l is. (
      nat_abs (form_value g (at kept.parts) den) + (nat_abs (pos q *ℤ form_value value (at kept.parts) den) + 1),
      λ m far. passed g q l is m far,
    );
  }
