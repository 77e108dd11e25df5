-- A column that a cost row makes negative has an entry above 0: otherwise it would be a ray along which costs decrease,
-- but no cost is negative.
use Rattle.std.proofs.Common.{◌≡◌, ℕ, zero, suc, ◌<◌, ◌≤◌, ap, arith, refl, sym, ◌∙◌, ◌⊎◌, inl, inr, [], ◌∷◌, Bool}
use Rattle.std.proofs.Common.{true, false}
use Rattle.std.specs.Prelude.{ℤ, pos, ◌+ℤ◌, ◌-ℤ◌, ◌*ℤ◌, ◌≤ℤ◌, ◌<ℤ◌}
use Rattle.std.proofs.lemmas.Int.{ints}
use Rattle.std.proofs.lemmas.Bool.{cases_lt}
use Rattle.int_laws.specs.Sums.{dot}
use Rattle.int_laws.specs.Polynomial.{variable, constant, ◌⊕◌, ◌⊖◌, ◌⊗◌}
use Rattle.int_laws.proofs.Identities.{identity_by_one}
use Rattle.int_laws.proofs.RingLaws.{mul-add_ℤ, mul_comm_ℤ}
use Rattle.int_laws.proofs.OrderLaws.{mul-nonneg_ℤ, mul-lt-mul_ℤ}
use Rattle.int_laws.proofs.SumLaws.{sum_to-same, sum_to-add, sum_to-nonneg}
use Rattle.linear_forms.specs.LinearProgram.{LinearProgram, HasNonnegativeCosts}
use Rattle.simplex_core.specs.Search.{some}
use Rattle.simplex_core.specs.Tableau.{Tableau, unknowns, cost_row, equation, cost}
use Rattle.simplex_core.specs.Bland.{is_candidate}
use Rattle.simplex_core.proofs.Searches.{some-one, some-none}
use Rattle.simplex_core.proofs.Regions.{cost-none, cost-first, cost-second, cost-artificial, cost-no_artificial}
use Rattle.simplex_core.proofs.Invariant.{weight, SolvesRows, SolvesEquations, IsTableauOf}
use Rattle.simplex_core.proofs.Points.{CommonScale, common_scale, point, point-nonneg, dot-point}
use Rattle.simplex_core.proofs.Values.{row-value, own_term, no_term}
use Rattle.simplex_core.proofs.Choices.{int_lt-false, candidate-positive}

-- no unknown's cost is negative
pub cost-nonneg : (p : LinearProgram) → HasNonnegativeCosts p → (q j : ℕ) → pos 0 ≤ℤ cost p q j
cost-nonneg p h q j = go q (cases_lt j p.columns)
  where
    from : (z w : ℤ) → z ≡ w → pos 0 ≤ℤ w → pos 0 ≤ℤ z
    from z w e l = omega (arith, ints)

    go : (q : ℕ) → (j < p.columns) ⊎ (p.columns ≤ j) → pos 0 ≤ℤ cost p q j
    go zero (inl l) = from _ (pos 0) (cost-none p j l) (omega (arith, ints))
    go zero (inr l) = from _ (pos 1) (cost-artificial p j l) (omega (arith, ints))
    go (suc zero) (inl l) = from _ _ (cost-first p j l) (h.first j l)
    go (suc zero) (inr l) = from _ (pos 0) (cost-no_artificial p 0 j l) (omega (arith, ints))
    go (suc (suc k)) (inl l) = from _ _ (cost-second p k j l) (h.second j l)
    go (suc (suc k)) (inr l) = from _ (pos 0) (cost-no_artificial p (suc k) j l) (omega (arith, ints))

-- how the basic unknowns move along the ray of a column
abbrev pub ray_value : (p : LinearProgram) (t : Tableau) → CommonScale p.rows t.scale → ℕ → ℕ → ℤ
ray_value p t s c i = (pos 0 -ℤ t.entry i c) *ℤ s.q i

-- the ray of a column: its unknown grows by the common scale, and the basic unknowns move with it
abbrev pub ray : (p : LinearProgram) (t : Tableau) → CommonScale p.rows t.scale → ℕ → ℕ → ℤ
ray p t s c j = point 1 (λ _. c) (λ _. s.d) j +ℤ point p.rows t.basis (ray_value p t s c) j

-- the product of a list of numbers and a ray
pub dot-ray : (p : LinearProgram) (t : Tableau) (s : CommonScale p.rows t.scale) (c : ℕ) (a : ℕ → ℤ) → c < unknowns p
    → dot (unknowns p) a (ray p t s c) ≡ a c *ℤ s.d +ℤ dot (unknowns p) a (point p.rows t.basis (ray_value p t s c))
dot-ray p t s c a l =
    sum_to-same (unknowns p) (λ j. a j *ℤ ray p t s c j) (λ j. a j *ℤ point 1 (λ _. c) (λ _. s.d) j +ℤ a j *ℤ point p.rows t.basis (ray_value p t s c) j)
    (λ j _. mul-add_ℤ (a j) (point 1 (λ _. c) (λ _. s.d) j) (point p.rows t.basis (ray_value p t s c) j))
    ∙ (sum_to-add (unknowns p) (λ j. a j *ℤ point 1 (λ _. c) (λ _. s.d) j) (λ j. a j *ℤ point p.rows t.basis (ray_value p t s c) j)
    ∙ ap (λ (z : ℤ). z +ℤ dot (unknowns p) a (point p.rows t.basis (ray_value p t s c)))
    (dot-point 1 (unknowns p) (λ _. c) (λ _. s.d) a (λ i _. l) ∙ only (a c *ℤ s.d)))
  where
    only : (z : ℤ) → pos 0 +ℤ z ≡ z
    only z = omega (arith, ints)

-- a ray solves the equations with right sides 0
pub ray-solves : (p : LinearProgram) (t : Tableau) (s : CommonScale p.rows t.scale) (c : ℕ) → IsTableauOf p t → c < unknowns p
    → SolvesEquations p (ray p t s c) (pos 0)
ray-solves p t s c h l = h.back (ray p t s c) (pos 0) rows
  where
    cancels : (a e q : ℤ) → q *ℤ e ≡ s.d → a *ℤ s.d +ℤ e *ℤ ((pos 0 -ℤ a) *ℤ q) ≡ pos 0
    cancels a e q f = identity_by_one (a ∷ e ∷ q ∷ s.d ∷ [])
        (variable 0 ⊗ variable 3 ⊕ variable 1 ⊗ ((constant (pos 0) ⊖ variable 0) ⊗ variable 2)) (constant (pos 0))
        (constant (pos 0) ⊖ variable 0) (variable 2 ⊗ variable 1) (variable 3) f refl

    times_zero : (b : ℤ) → pos 0 ≡ b *ℤ pos 0
    times_zero b = omega (arith, ints)

    rows : SolvesRows p t (ray p t s c) (pos 0)
    rows i m =
        dot-ray p t s c (t.entry i) l
        ∙ (ap (λ (z : ℤ). t.entry i c *ℤ s.d +ℤ z) (own_term p t (ray_value p t s c) i h m)
        ∙ (cancels (t.entry i c) (t.scale i) (s.q i) (s.times i m) ∙ times_zero (t.entry i (unknowns p))))

-- a column that a cost row makes negative has an entry above 0
pub has_candidate : (p : LinearProgram) (t : Tableau) (q c : ℕ) → HasNonnegativeCosts p → IsTableauOf p t → q < 3 → c < unknowns p
    → t.entry (cost_row p q) c <ℤ pos 0 → (i : ℕ) × (i < p.rows) × (pos 0 <ℤ t.entry i c)
has_candidate p t q c costs h ql l negative = go (some p.rows (λ i. is_candidate t c i)) refl
  where
    s : CommonScale p.rows t.scale
    s = common_scale p.rows t.scale (λ i m. h.positive i (omega arith))

    x : ℕ → ℤ
    x = ray p t s c

    value : dot (unknowns p) (t.entry (cost_row p q)) x ≡ t.entry (cost_row p q) c *ℤ s.d
    value = dot-ray p t s c (t.entry (cost_row p q)) l
        ∙ (ap (λ (z : ℤ). t.entry (cost_row p q) c *ℤ s.d +ℤ z) (no_term p t (ray_value p t s c) q h ql) ∙ plus_zero (t.entry (cost_row p q) c *ℤ s.d))
      where
        plus_zero : (z : ℤ) → z +ℤ pos 0 ≡ z
        plus_zero z = omega (arith, ints)

    as_costs : dot (unknowns p) (t.entry (cost_row p q)) x
        ≡ t.scale (cost_row p q) *ℤ dot (unknowns p) (cost p q) x +ℤ dot p.rows (weight p t q) (λ k. equation p k (unknowns p)) *ℤ pos 0
    as_costs = row-value p.rows (unknowns p) (t.entry (cost_row p q)) (cost p q) (weight p t q) (equation p) (t.scale (cost_row p q)) (λ k. equation p k (unknowns p)) x (pos 0)
        (λ j m. h.costs_are q j ql m) (ray-solves p t s c h l)

    falls : (t.entry (cost_row p q) c *ℤ s.d) <ℤ pos 0
    falls = from _ _ (mul_comm_ℤ s.d (t.entry (cost_row p q) c)) (mul-lt-mul_ℤ s.d (t.entry (cost_row p q) c) (pos 0) s.positive negative)
      where
        from : (a d : ℤ) → s.d *ℤ a ≡ d → (s.d *ℤ a) <ℤ (s.d *ℤ pos 0) → d <ℤ pos 0
        from a d e m = omega (arith, ints)

    impossible : ((i : ℕ) → i < p.rows → is_candidate t c i ≡ false) → ⊥
    impossible none =
        clash (t.entry (cost_row p q) c *ℤ s.d) (t.scale (cost_row p q) *ℤ dot (unknowns p) (cost p q) x) (dot p.rows (weight p t q) (λ k. equation p k (unknowns p)))
        (sym value ∙ as_costs) falls
        (mul-nonneg_ℤ (t.scale (cost_row p q)) (dot (unknowns p) (cost p q) x) (weaker (t.scale (cost_row p q)) (h.positive (cost_row p q) (omega arith))) at_least)
      where
        weaker : (z : ℤ) → pos 0 <ℤ z → pos 0 ≤ℤ z
        weaker z m = omega (arith, ints)

        numbers : (i : ℕ) → i < p.rows → pos 0 ≤ℤ ray_value p t s c i
        numbers i m = mul-nonneg_ℤ (pos 0 -ℤ t.entry i c) (s.q i) (opposite (t.entry i c) (int_lt-false (pos 0) (t.entry i c) (none i m))) (weaker (s.q i) (s.factors i m))
          where
            opposite : (z : ℤ) → z ≤ℤ pos 0 → pos 0 ≤ℤ (pos 0 -ℤ z)
            opposite z m = omega (arith, ints)

        coordinate : (j : ℕ) → pos 0 ≤ℤ x j
        coordinate j = sum (point 1 (λ _. c) (λ _. s.d) j) (point p.rows t.basis (ray_value p t s c) j) (point-nonneg 1 (λ _. c) (λ _. s.d) (λ i m. weaker s.d s.positive) j) (point-nonneg p.rows t.basis (ray_value p t s c) numbers j)
          where
            sum : (a b : ℤ) → pos 0 ≤ℤ a → pos 0 ≤ℤ b → pos 0 ≤ℤ (a +ℤ b)
            sum a b m n = omega (arith, ints)

        at_least : pos 0 ≤ℤ dot (unknowns p) (cost p q) x
        at_least = sum_to-nonneg (unknowns p) (λ j. cost p q j *ℤ x j) (λ j m. mul-nonneg_ℤ (cost p q j) (x j) (cost-nonneg p costs q j) (coordinate j))

        clash : (a b w : ℤ) → a ≡ b +ℤ w *ℤ pos 0 → a <ℤ pos 0 → pos 0 ≤ℤ b → ⊥
        clash a b w e m n = omega (arith, ints)

    go : (v : Bool) → some p.rows (λ i. is_candidate t c i) ≡ v → (i : ℕ) × (i < p.rows) × (pos 0 <ℤ t.entry i c)
    go true e = let found = some-one p.rows (λ i. is_candidate t c i) e in (found.0, found.1, candidate-positive t c found.0 found.2)
    go false e = absurd (impossible (some-none p.rows (λ i. is_candidate t c i) e))
