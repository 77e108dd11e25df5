-- Points that are nonzero only at basis columns.
use Rattle.std.proofs.Common.{◌≡◌, ℕ, zero, suc, ◌<◌, ap, arith, refl, sym, ◌∙◌, subst, ◌⊎◌, inl, inr, Bool, true}
use Rattle.std.proofs.Common.{false}
use Rattle.std.specs.Prelude.{ℤ, pos, ◌*ℤ◌, ◌≤ℤ◌, ◌<ℤ◌, nat_eq, if◌then◌else◌}
use Rattle.std.proofs.lemmas.Int.{ints}
use Rattle.std.proofs.lemmas.Bool.{eqb-true}
use Rattle.int_laws.specs.Sums.{sum_to, dot}
use Rattle.int_laws.proofs.RingLaws.{mul-zero_ℤ, mul_comm_ℤ, mul_assoc_ℤ}
use Rattle.int_laws.proofs.OrderLaws.{mul-positive_ℤ}
use Rattle.int_laws.proofs.SumLaws.{sum_to-same, sum_to-single, sum_to-scale, sum_to-swap, sum_to-nonneg, sum_to-zero}
use Rattle.simplex_core.proofs.Searches.{last_or_before}
use Rattle.simplex_core.proofs.Regions.{choose-same, choose-other}

-- a common multiple d of the scales, which is q i times scale i
pub record CommonScale (m : ℕ) (scale : ℕ → ℤ) : Type 0 where
  pub d : ℤ
  pub q : ℕ → ℤ
  pub positive : pos 0 <ℤ d
  pub factors : (i : ℕ) → i < m → pos 0 <ℤ q i
  pub times : (i : ℕ) → i < m → q i *ℤ scale i ≡ d

-- scales above 0 have a common multiple
pub common_scale : (m : ℕ) (scale : ℕ → ℤ) → ((i : ℕ) → i < m → pos 0 <ℤ scale i) → CommonScale m scale
common_scale zero scale h = record {
  d = pos 1;
  q = λ _. pos 1;
  positive = omega (arith, ints);
  factors = λ i l. omega (arith, ints);
  times = λ i l. absurd (omega arith);
}
common_scale (suc m) scale h = go (common_scale m scale (λ i l. h i (omega arith)))
  where
    factor : CommonScale m scale → ℕ → ℤ
    factor c i = if nat_eq i m then c.d else (c.q i *ℤ scale m)

    factors_of : (c : CommonScale m scale) (i : ℕ) → (i ≡ m) ⊎ (i < m) → pos 0 <ℤ factor c i
    factors_of c i (inl e) = subst (λ (z : ℤ). pos 0 <ℤ z) (sym (choose-same i m c.d (c.q i *ℤ scale m) e)) c.positive
    factors_of c i (inr l) =
        subst (λ (z : ℤ). pos 0 <ℤ z) (sym (choose-other i m c.d (c.q i *ℤ scale m) (omega arith))) (mul-positive_ℤ _ _ (c.factors i l) (h m (omega arith)))

    times_of : (c : CommonScale m scale) (i : ℕ) → (i ≡ m) ⊎ (i < m) → factor c i *ℤ scale i ≡ c.d *ℤ scale m
    times_of c i (inl e) = ap (λ (z : ℤ). z *ℤ scale i) (choose-same i m c.d (c.q i *ℤ scale m) e) ∙ ap (λ (k : ℕ). c.d *ℤ scale k) e
    times_of c i (inr l) =
        ap (λ (z : ℤ). z *ℤ scale i) (choose-other i m c.d (c.q i *ℤ scale m) (omega arith))
        ∙ (mul_assoc_ℤ (c.q i) (scale m) (scale i)
        ∙ (ap (λ (z : ℤ). c.q i *ℤ z) (mul_comm_ℤ (scale m) (scale i))
        ∙ (sym (mul_assoc_ℤ (c.q i) (scale i) (scale m)) ∙ ap (λ (z : ℤ). z *ℤ scale m) (c.times i l))))

    go : CommonScale m scale → CommonScale (suc m) scale
    go c = record {
      d = c.d *ℤ scale m;
      q = factor c;
      positive = mul-positive_ℤ _ _ c.positive (h m (omega arith));
      factors = λ i l. factors_of c i (last_or_before m i l);
      times = λ i l. times_of c i (last_or_before m i l);
    }

-- the number v i at the column basis i, for each of m rows, and 0 elsewhere
abbrev pub point : ℕ → (ℕ → ℕ) → (ℕ → ℤ) → ℕ → ℤ
point m basis v j = sum_to m (λ i. if nat_eq (basis i) j then v i else pos 0)

-- if z is at least 0, a choice between z and 0 is at least 0
choice-nonneg : (b : Bool) (z : ℤ) → pos 0 ≤ℤ z → pos 0 ≤ℤ (if b then z else pos 0)
choice-nonneg true z h = h
choice-nonneg false z h = omega (arith, ints)

-- if z is 0, a choice between z and 0 is 0
choice-zero : (b : Bool) (z : ℤ) → (b ≡ true → z ≡ pos 0) → (if b then z else pos 0) ≡ pos 0
choice-zero true z h = h refl
choice-zero false z h = refl

-- a point of numbers at least 0 is at least 0
pub point-nonneg : (m : ℕ) (basis : ℕ → ℕ) (v : ℕ → ℤ) → ((i : ℕ) → i < m → pos 0 ≤ℤ v i) → (j : ℕ) → pos 0 ≤ℤ point m basis v j
point-nonneg m basis v h j = sum_to-nonneg m (λ i. if nat_eq (basis i) j then v i else pos 0) (λ i l. choice-nonneg (nat_eq (basis i) j) (v i) (h i l))

-- a point is 0 at a column where each number is 0
pub point-zero : (m : ℕ) (basis : ℕ → ℕ) (v : ℕ → ℤ) (j : ℕ) → ((i : ℕ) → i < m → basis i ≡ j → v i ≡ pos 0) → point m basis v j ≡ pos 0
point-zero m basis v j h =
    sum_to-zero m (λ i. if nat_eq (basis i) j then v i else pos 0)
    (λ i l. choice-zero (nat_eq (basis i) j) (v i) (λ e. h i l (eqb-true (basis i) j e)))

-- the product of a list of numbers and a point
pub dot-point : (m n : ℕ) (basis : ℕ → ℕ) (v a : ℕ → ℤ) → ((i : ℕ) → i < m → basis i < n)
    → dot n a (point m basis v) ≡ sum_to m (λ i. a (basis i) *ℤ v i)
dot-point m n basis v a h =
    sum_to-same n (λ j. a j *ℤ point m basis v j) (λ j. sum_to m (λ i. a j *ℤ (if nat_eq (basis i) j then v i else pos 0)))
    (λ j _. sym (sum_to-scale m (a j) (λ i. if nat_eq (basis i) j then v i else pos 0)))
    ∙ (sum_to-swap n m (λ j i. a j *ℤ (if nat_eq (basis i) j then v i else pos 0))
    ∙ sum_to-same m (λ i. sum_to n (λ j. a j *ℤ (if nat_eq (basis i) j then v i else pos 0))) (λ i. a (basis i) *ℤ v i) at_each)
  where
    at_each : (i : ℕ) → i < m → sum_to n (λ j. a j *ℤ (if nat_eq (basis i) j then v i else pos 0)) ≡ a (basis i) *ℤ v i
    at_each i l =
        sum_to-single n (basis i) (λ j. a j *ℤ (if nat_eq (basis i) j then v i else pos 0)) (h i l)
        (λ j k d. mul-zero_ℤ (a j) _ (choose-other (basis i) j (v i) (pos 0) (λ e. d (sym e))))
        ∙ ap (λ (z : ℤ). a (basis i) *ℤ z) (choose-same (basis i) (basis i) (v i) (pos 0) refl)
