-- The artificial unknowns of a basic solution add up to more than 0 exactly if one of them is above 0.
use Rattle.std.proofs.Common.{◌≡◌, ◌≢◌, ℕ, ◌-◌, ◌<◌, ◌≤◌, arith, refl, sym, ◌∙◌, subst, ◌⊎◌, inl, inr, Bool, true}
use Rattle.std.proofs.Common.{false}
use Rattle.std.specs.Prelude.{ℤ, pos, ◌*ℤ◌, ◌≤ℤ◌, ◌<ℤ◌, int_lt, nat_eq, nat_le, ◌&&◌}
use Rattle.std.proofs.lemmas.Int.{ints}
use Rattle.std.proofs.lemmas.Bool.{leb-true, le-leb, eqb-true, eqb-false}
use Rattle.int_laws.specs.Sums.{sum_to}
use Rattle.int_laws.proofs.RingLaws.{mul_comm_ℤ, mul-zero_ℤ, zero-mul_ℤ}
use Rattle.int_laws.proofs.OrderLaws.{mul-positive_ℤ, mul-nonneg_ℤ, le-of-mul_ℤ, lt-of-mul_ℤ, mul-cancel_ℤ}
use Rattle.int_laws.proofs.SumLaws.{sum_to-zero, sum_to-positive}
use Rattle.linear_forms.specs.LinearProgram.{LinearProgram}
use Rattle.simplex_core.specs.Tableau.{Tableau, artificial, unknowns}
use Rattle.simplex_core.specs.Search.{some}
use Rattle.simplex_core.specs.Bland.{has_artificial}
use Rattle.simplex_core.specs.Laws.{IsBasicPoint}
use Rattle.simplex_core.proofs.Searches.{and-both, second_fails, some-one, some-none}
use Rattle.simplex_core.proofs.Invariant.{IsTableauOf}
use Rattle.simplex_core.proofs.Choices.{int_lt-true, int_lt-false}

-- a row is solved for a column, or none is
solved_or_not : (p : LinearProgram) (t : Tableau) (j : ℕ) → ((i : ℕ) × (i < p.rows) × (t.basis i ≡ j)) ⊎ ((i : ℕ) → i < p.rows → t.basis i ≢ j)
solved_or_not p t j = go (some p.rows (λ i. nat_eq (t.basis i) j)) refl
  where
    go : (v : Bool) → some p.rows (λ i. nat_eq (t.basis i) j) ≡ v → ((i : ℕ) × (i < p.rows) × (t.basis i ≡ j)) ⊎ ((i : ℕ) → i < p.rows → t.basis i ≢ j)
    go true e = let found = some-one p.rows (λ i. nat_eq (t.basis i) j) e in inl (found.0, found.1, eqb-true (t.basis found.0) j found.2)
    go false e = inr (λ i l. eqb-false (t.basis i) j (some-none p.rows (λ i. nat_eq (t.basis i) j) e i l))

-- with x * s = b * d, and s and d above 0, x is at least 0 if b is
nonneg-of : (x s b d : ℤ) → x *ℤ s ≡ b *ℤ d → pos 0 <ℤ s → pos 0 <ℤ d → pos 0 ≤ℤ b → pos 0 ≤ℤ x
nonneg-of x s b d e ps pd pb =
    le-of-mul_ℤ s (pos 0) x ps
    (at_least (s *ℤ pos 0) (s *ℤ x) (b *ℤ d) (mul-zero_ℤ s (pos 0) refl) (mul_comm_ℤ s x ∙ e) (mul-nonneg_ℤ b d pb (weaker d pd)))
  where
    weaker : (z : ℤ) → pos 0 <ℤ z → pos 0 ≤ℤ z
    weaker z l = omega (arith, ints)

    at_least : (z v w : ℤ) → z ≡ pos 0 → v ≡ w → pos 0 ≤ℤ w → z ≤ℤ v
    at_least z v w f g l = omega (arith, ints)

-- with x * s = b * d, and s and d above 0, x is above 0 if b is
positive-of : (x s b d : ℤ) → x *ℤ s ≡ b *ℤ d → pos 0 <ℤ s → pos 0 <ℤ d → pos 0 <ℤ b → pos 0 <ℤ x
positive-of x s b d e ps pd pb =
    lt-of-mul_ℤ s (pos 0) x ps
    (over (s *ℤ pos 0) (s *ℤ x) (b *ℤ d) (mul-zero_ℤ s (pos 0) refl) (mul_comm_ℤ s x ∙ e) (mul-positive_ℤ b d pb pd))
  where
    over : (z v w : ℤ) → z ≡ pos 0 → v ≡ w → pos 0 <ℤ w → z <ℤ v
    over z v w f g l = omega (arith, ints)

-- with x * s = b * d, and s above 0, x is 0 if b is
zero-of : (x s b d : ℤ) → x *ℤ s ≡ b *ℤ d → pos 0 <ℤ s → b ≡ pos 0 → x ≡ pos 0
zero-of x s b d e ps z =
    mul-cancel_ℤ s x (pos 0) ps (mul_comm_ℤ s x ∙ (e ∙ (zero-mul_ℤ b d z ∙ sym (mul-zero_ℤ s (pos 0) refl))))

-- the numbers of a basic solution are at least 0
basic-nonneg : (p : LinearProgram) (t : Tableau) (x : ℕ → ℤ) (d : ℤ) → IsTableauOf p t → IsBasicPoint p t x d → (j : ℕ) → pos 0 ≤ℤ x j
basic-nonneg p t x d h b j = go (solved_or_not p t j)
  where
    at_zero : (z : ℤ) → z ≡ pos 0 → pos 0 ≤ℤ z
    at_zero z e = omega (arith, ints)

    go : ((i : ℕ) × (i < p.rows) × (t.basis i ≡ j)) ⊎ ((i : ℕ) → i < p.rows → t.basis i ≢ j) → pos 0 ≤ℤ x j
    go (inl found) =
        let i = found.0 in
        let l = found.1 in
        subst (λ (k : ℕ). pos 0 ≤ℤ x k) found.2
        (nonneg-of (x (t.basis i)) (t.scale i) (t.entry i (unknowns p)) d (b.basic i l) (h.positive i (omega arith)) b.denominator (h.right i l))
    go (inr none) = at_zero (x j) (b.other j none)

-- if the test passes, the artificial unknowns add up to more than 0
pub artificial-over : (p : LinearProgram) (t : Tableau) (x : ℕ → ℤ) (d : ℤ) → IsTableauOf p t → IsBasicPoint p t x d → has_artificial p t ≡ true
    → pos 0 <ℤ sum_to p.rows (λ i. x (artificial p i))
artificial-over p t x d h b passes =
    let found = some-one p.rows (λ i. nat_le p.columns (t.basis i) && int_lt (pos 0) (t.entry i (unknowns p))) passes in
    let i = found.0 in
    let l = found.1 in
    let tests = and-both (nat_le p.columns (t.basis i)) (int_lt (pos 0) (t.entry i (unknowns p))) found.2 in
    let behind = leb-true p.columns (t.basis i) tests.0 in
    let within = h.basic i l in
    let at : t.basis i ≡ artificial p (t.basis i - p.columns) = omega arith in
    sum_to-positive p.rows (t.basis i - p.columns) (λ k. x (artificial p k)) (omega arith) (λ j _. basic-nonneg p t x d h b (artificial p j))
    (subst (λ (k : ℕ). pos 0 <ℤ x k) at
    (positive-of (x (t.basis i)) (t.scale i) (t.entry i (unknowns p)) d (b.basic i l) (h.positive i (omega arith)) b.denominator
    (int_lt-true (pos 0) (t.entry i (unknowns p)) tests.1)))

-- if the test fails, the artificial unknowns are all 0, and so is their sum
pub artificial-none : (p : LinearProgram) (t : Tableau) (x : ℕ → ℤ) (d : ℤ) → IsTableauOf p t → IsBasicPoint p t x d → has_artificial p t ≡ false
    → sum_to p.rows (λ i. x (artificial p i)) ≡ pos 0
artificial-none p t x d h b fails = sum_to-zero p.rows (λ k. x (artificial p k)) (λ k _. go k (solved_or_not p t (artificial p k)))
  where
    over : ℕ → Bool
    over i = nat_le p.columns (t.basis i) && int_lt (pos 0) (t.entry i (unknowns p))

    both_bounds : (z : ℤ) → pos 0 ≤ℤ z → z ≤ℤ pos 0 → z ≡ pos 0
    both_bounds z l m = omega (arith, ints)

    go : (k : ℕ) → ((i : ℕ) × (i < p.rows) × (t.basis i ≡ artificial p k)) ⊎ ((i : ℕ) → i < p.rows → t.basis i ≢ artificial p k) → x (artificial p k) ≡ pos 0
    go k (inl found) =
        let i = found.0 in
        let l = found.1 in
        let behind : p.columns ≤ t.basis i = omega (arith, found.2) in
        let small = int_lt-false (pos 0) (t.entry i (unknowns p))
        (second_fails (nat_le p.columns (t.basis i)) (int_lt (pos 0) (t.entry i (unknowns p))) (some-none p.rows over fails i l) (le-leb p.columns (t.basis i) behind)) in
        subst (λ (j : ℕ). x j ≡ pos 0) found.2
        (zero-of (x (t.basis i)) (t.scale i) (t.entry i (unknowns p)) d (b.basic i l) (h.positive i (omega arith)) (both_bounds (t.entry i (unknowns p)) (h.right i l) small))
    go k (inr none) = b.other (artificial p k) none
