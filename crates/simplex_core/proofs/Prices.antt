-- At an end as optimal the cost rows give prices: adding enough of an earlier cost row makes a later one at least 0.
use Rattle.std.proofs.Common.{◌≡◌, ℕ, zero, suc, ◌+◌, ◌*◌, ◌<◌, ap, arith, refl, sym, ◌∙◌, subst, ◌⊎◌, inl, inr, []}
use Rattle.std.proofs.Common.{◌∷◌}
use Rattle.std.specs.Prelude.{ℤ, pos, negsuc, ◌+ℤ◌, ◌-ℤ◌, ◌*ℤ◌, ◌≤ℤ◌, ◌<ℤ◌, nat_abs}
use Rattle.std.proofs.lemmas.Int.{ints}
use Rattle.int_laws.specs.Sums.{dot}
use Rattle.int_laws.specs.Polynomial.{variable, constant, ◌⊕◌, ◌⊖◌, ◌⊗◌}
use Rattle.int_laws.proofs.Identities.{identity, identity_by_one}
use Rattle.int_laws.proofs.RingLaws.{add-mul_ℤ, mul-add_ℤ, mul_assoc_ℤ}
use Rattle.int_laws.proofs.OrderLaws.{mul-nonneg_ℤ, mul-cancel_ℤ}
use Rattle.int_laws.proofs.SumLaws.{sum_to-same, sum_to-add, sum_to-scale}
use Rattle.linear_forms.specs.LinearProgram.{LinearProgram, ArePrices, HasPrices, IsLeast}
use Rattle.simplex_core.specs.Tableau.{Tableau, unknowns, cost_row, sign_of, equation, cost}
use Rattle.simplex_core.proofs.Searches.{last_or_before}
use Rattle.simplex_core.proofs.Regions.{equation-column, equation-right, cost-none, cost-first, cost-second}
use Rattle.simplex_core.proofs.Invariant.{weight, IsTableauOf}
use Rattle.simplex_core.proofs.Points.{CommonScale}
use Rattle.simplex_core.proofs.Values.{row-value, basic_value, basic_point, basic-solves, no_term}
use Rattle.simplex_core.proofs.Duals.{signed-dot, negated-dot}
use Rattle.simplex_core.proofs.Optima.{EndsOptimal, artificials-zero, front-dot}

-- adding enough of a number at least 0 makes a sum at least 0, if this is needed only when that number isn't 0
enough : (f g : ℤ) (k : ℕ) → pos 0 ≤ℤ g → (g ≡ pos 0 → pos 0 ≤ℤ f) → pos 0 ≤ℤ (f +ℤ pos (k + nat_abs f) *ℤ g)
enough f (pos zero) k h z = omega (arith, ints, z refl)
enough (pos a) (pos (suc m)) k h z = omega (arith, ints)
enough (negsuc a) (pos (suc m)) k h z = omega (arith, ints)
enough f (negsuc m) k h z = absurd (omega (arith, ints, h))

-- adding more of a number at least 0 keeps a sum at least 0
more : (f g : ℤ) (k l : ℕ) → pos 0 ≤ℤ g → pos 0 ≤ℤ (f +ℤ pos k *ℤ g) → pos 0 ≤ℤ (f +ℤ pos (k + l) *ℤ g)
more f (pos m) k l h s = omega (arith, ints)
more f (negsuc m) k l h s = absurd (omega (arith, ints, h))

-- adding enough of a row makes a sum of rows at least 0, at each column with a property
pub enough_of : (n : ℕ) (P : ℕ → Type 0) (f g : ℕ → ℤ) → ((j : ℕ) → j < n → P j → pos 0 ≤ℤ g j)
    → ((j : ℕ) → j < n → P j → g j ≡ pos 0 → pos 0 ≤ℤ f j)
    → (k : ℕ) × ((j : ℕ) → j < n → P j → pos 0 ≤ℤ (f j +ℤ pos k *ℤ g j))
enough_of zero P f g h z = (0, λ j l. absurd (omega arith))
enough_of (suc n) P f g h z = go (enough_of n P f g (λ j l. h j (omega arith)) (λ j l. z j (omega arith)))
  where
    go : (k : ℕ) × ((j : ℕ) → j < n → P j → pos 0 ≤ℤ (f j +ℤ pos k *ℤ g j)) → (k : ℕ) × ((j : ℕ) → j < suc n → P j → pos 0 ≤ℤ (f j +ℤ pos k *ℤ g j))
    go before = (before.0 + nat_abs (f n), λ j l. at j (last_or_before n j l))
      where
        at : (j : ℕ) → (j ≡ n) ⊎ (j < n) → P j → pos 0 ≤ℤ (f j +ℤ pos (before.0 + nat_abs (f n)) *ℤ g j)
        at j (inl e) q =
            subst (λ (i : ℕ). pos 0 ≤ℤ (f i +ℤ pos (before.0 + nat_abs (f n)) *ℤ g i)) (sym e)
            (enough (f n) (g n) before.0 (h n (omega arith) (subst P e q)) (z n (omega arith) (subst P e q)))
        at j (inr l) q = more (f j) (g j) before.0 (nat_abs (f n)) (h j (omega arith) q) (before.1 j l q)

-- if two rows are 0 at a point, so is each combination of them
combined-dot : (n : ℕ) (a b x : ℕ → ℤ) (k : ℤ) → dot n a x ≡ pos 0 → dot n b x ≡ pos 0 → dot n (λ j. a j +ℤ k *ℤ b j) x ≡ pos 0
combined-dot n a b x k e f =
    sum_to-same n (λ j. (a j +ℤ k *ℤ b j) *ℤ x j) (λ j. a j *ℤ x j +ℤ k *ℤ (b j *ℤ x j))
    (λ j _. add-mul_ℤ (a j) (k *ℤ b j) (x j) ∙ ap (λ (z : ℤ). a j *ℤ x j +ℤ z) (mul_assoc_ℤ k (b j) (x j)))
    ∙ (sum_to-add n (λ j. a j *ℤ x j) (λ j. k *ℤ (b j *ℤ x j))
    ∙ both _ _ _ e (sum_to-scale n k (λ j. b j *ℤ x j)) f)
  where
    both : (v w y : ℤ) → v ≡ pos 0 → w ≡ k *ℤ y → y ≡ pos 0 → v +ℤ w ≡ pos 0
    both v w y d e f = omega (arith, ints, d, e, ap (λ (z : ℤ). k *ℤ z) f)

-- if two rows are costs plus multiples of equations, so is each combination of them
combined-row : (m : ℕ) (wa wb eq : ℕ → ℤ) (k a b ca cb : ℤ) → a ≡ ca +ℤ dot m wa eq → b ≡ cb +ℤ dot m wb eq
    → a +ℤ k *ℤ b ≡ (ca +ℤ k *ℤ cb) +ℤ dot m (λ i. wa i +ℤ k *ℤ wb i) eq
combined-row m wa wb eq k a b ca cb e f =
    regroup (dot m wa eq) (dot m wb eq) e f
    ∙ ap (λ (z : ℤ). (ca +ℤ k *ℤ cb) +ℤ z)
    (ap (λ (z : ℤ). dot m wa eq +ℤ z) (sym (sum_to-scale m k (λ i. wb i *ℤ eq i)))
    ∙ (sym (sum_to-add m (λ i. wa i *ℤ eq i) (λ i. k *ℤ (wb i *ℤ eq i)))
    ∙ sum_to-same m (λ i. wa i *ℤ eq i +ℤ k *ℤ (wb i *ℤ eq i)) (λ i. (wa i +ℤ k *ℤ wb i) *ℤ eq i)
    (λ i _. ap (λ (z : ℤ). wa i *ℤ eq i +ℤ z) (sym (mul_assoc_ℤ k (wb i) (eq i))) ∙ sym (add-mul_ℤ (wa i) (k *ℤ wb i) (eq i)))))
  where
    regroup : (va vb : ℤ) → a ≡ ca +ℤ va → b ≡ cb +ℤ vb → a +ℤ k *ℤ b ≡ (ca +ℤ k *ℤ cb) +ℤ (va +ℤ k *ℤ vb)
    regroup va vb e f = omega (arith, ints, e, ap (λ (z : ℤ). k *ℤ z) f, mul-add_ℤ k cb vb)

-- a row that is q times the costs plus multiples of the equations, at least 0, and 0 at the basic solution, gives
-- prices
pub prices_from : (p : LinearProgram) (t : Tableau) (s : CommonScale p.rows t.scale) (g w c : ℕ → ℤ) (q : ℤ) → IsTableauOf p t → EndsOptimal p t
    → pos 0 <ℤ q
    → ((j : ℕ) → j < p.columns → g j ≡ q *ℤ c j +ℤ dot p.rows w (λ k. equation p k j))
    → ((j : ℕ) → j < p.columns → pos 0 ≤ℤ g j)
    → dot p.columns g (basic_point p t s) ≡ pos 0
    → ArePrices p c (basic_point p t s) s.d q (λ k. sign_of (p.right k) *ℤ (pos 0 -ℤ w k))
prices_from p t s g w c q h e positive rows at_least value = record { denominator = positive; columns = columns; exact = exact }
  where
    x : ℕ → ℤ
    x = basic_point p t s

    priced : (a eq : ℕ → ℤ) → ((k : ℕ) → k < p.rows → eq k ≡ sign_of (p.right k) *ℤ a k)
        → dot p.rows (λ k. sign_of (p.right k) *ℤ (pos 0 -ℤ w k)) a ≡ pos 0 -ℤ dot p.rows w eq
    priced a eq h = signed-dot p.rows (λ k. pos 0 -ℤ w k) (λ k. sign_of (p.right k)) a eq h ∙ negated-dot p.rows w eq

    columns : (j : ℕ) → j < p.columns → dot p.rows (λ k. sign_of (p.right k) *ℤ (pos 0 -ℤ w k)) (λ i. p.entry i j) ≤ℤ (q *ℤ c j)
    columns j l =
        at_most (dot p.rows (λ k. sign_of (p.right k) *ℤ (pos 0 -ℤ w k)) (λ i. p.entry i j)) (dot p.rows w (λ k. equation p k j)) (g j) (q *ℤ c j)
        (priced (λ i. p.entry i j) (λ k. equation p k j) (λ k m. equation-column p k j l)) (rows j l) (at_least j l)
      where
        at_most : (y v r o : ℤ) → y ≡ pos 0 -ℤ v → r ≡ o +ℤ v → pos 0 ≤ℤ r → y ≤ℤ o
        at_most y v r o a b l = omega (arith, ints)

    solved : pos 0 ≡ q *ℤ dot p.columns c x +ℤ dot p.rows w (λ k. equation p k (unknowns p)) *ℤ s.d
    solved =
        sym value
        ∙ row-value p.rows p.columns g c w (equation p) q (λ k. equation p k (unknowns p)) x s.d rows
        (λ k l. sym (front-dot p (equation p k) x (artificials-zero p t s e)) ∙ basic-solves p t s h k l)

    exact : dot p.rows (λ k. sign_of (p.right k) *ℤ (pos 0 -ℤ w k)) p.right *ℤ s.d ≡ q *ℤ dot p.columns c x
    exact =
        ap (λ (z : ℤ). z *ℤ s.d) (priced p.right (λ k. equation p k (unknowns p)) (λ k m. equation-right p k))
        ∙ from (dot p.rows w (λ k. equation p k (unknowns p))) (q *ℤ dot p.columns c x) solved
      where
        from : (v o : ℤ) → pos 0 ≡ o +ℤ v *ℤ s.d → (pos 0 -ℤ v) *ℤ s.d ≡ o
        from v o f = identity_by_one (v ∷ o ∷ s.d ∷ []) ((constant (pos 0) ⊖ variable 0) ⊗ variable 2) (variable 1)
            (constant (pos 1)) (constant (pos 0)) (variable 1 ⊕ variable 0 ⊗ variable 2) f refl

-- a cost row is 0 at the basic solution, restricted to the program's columns
cost_row-value : (p : LinearProgram) (t : Tableau) (s : CommonScale p.rows t.scale) (q : ℕ) → IsTableauOf p t → EndsOptimal p t → q < 3
    → dot p.columns (t.entry (cost_row p q)) (basic_point p t s) ≡ pos 0
cost_row-value p t s q h e l =
    sym (front-dot p (t.entry (cost_row p q)) (basic_point p t s) (artificials-zero p t s e)) ∙ no_term p t (basic_value p t s) q h l

-- at an end as optimal there are prices for the first costs
pub optimal-first : (p : LinearProgram) (t : Tableau) (s : CommonScale p.rows t.scale) → IsTableauOf p t → EndsOptimal p t → HasPrices p p.first (basic_point p t s) s.d
optimal-first p t s h e = record {
  q = t.scale (cost_row p 1);
  price = λ k. sign_of (p.right k) *ℤ (pos 0 -ℤ w k);
  are_prices = prices_from p t s g w p.first (t.scale (cost_row p 1)) h e (h.positive (cost_row p 1) (omega arith)) rows
      (λ j l. chosen.1 j l tt)
      (combined-dot p.columns (t.entry (cost_row p 1)) (t.entry (cost_row p 0)) (basic_point p t s) (pos chosen.0) (cost_row-value p t s 1 h e (omega arith)) (cost_row-value p t s 0 h e (omega arith)));
}
  where
    chosen : (k : ℕ) × ((j : ℕ) → j < p.columns → Unit {0} → pos 0 ≤ℤ (t.entry (cost_row p 1) j +ℤ pos k *ℤ t.entry (cost_row p 0) j))
    chosen = enough_of p.columns (λ _. Unit {0}) (t.entry (cost_row p 1)) (t.entry (cost_row p 0)) (λ j l _. e.none j l) (λ j l _ z. e.first j l z)

    g : ℕ → ℤ
    g j = t.entry (cost_row p 1) j +ℤ pos chosen.0 *ℤ t.entry (cost_row p 0) j

    w : ℕ → ℤ
    w k = weight p t 1 k +ℤ pos chosen.0 *ℤ weight p t 0 k

    rows : (j : ℕ) → j < p.columns → g j ≡ t.scale (cost_row p 1) *ℤ p.first j +ℤ dot p.rows w (λ k. equation p k j)
    rows j l =
        combined-row p.rows (weight p t 1) (weight p t 0) (λ k. equation p k j) (pos chosen.0) (t.entry (cost_row p 1) j) (t.entry (cost_row p 0) j)
        (t.scale (cost_row p 1) *ℤ cost p 1 j) (t.scale (cost_row p 0) *ℤ cost p 0 j)
        (h.costs_are 1 j (omega arith) (omega arith)) (h.costs_are 0 j (omega arith) (omega arith))
        ∙ ap (λ (z : ℤ). z +ℤ dot p.rows w (λ k. equation p k j)) (costs (t.scale (cost_row p 1)) (t.scale (cost_row p 0)) (cost p 1 j) (cost p 0 j) (p.first j) (cost-first p j l) (cost-none p j l))
      where
        costs : (a b o n f : ℤ) → o ≡ f → n ≡ pos 0 → a *ℤ o +ℤ pos chosen.0 *ℤ (b *ℤ n) ≡ a *ℤ f
        costs a b o n f d z = ap (λ (y : ℤ). a *ℤ y +ℤ pos chosen.0 *ℤ (b *ℤ n)) d ∙ (ap (λ (y : ℤ). a *ℤ f +ℤ pos chosen.0 *ℤ (b *ℤ y)) z
            ∙ identity (a ∷ b ∷ f ∷ pos chosen.0 ∷ []) (variable 0 ⊗ variable 2 ⊕ variable 3 ⊗ (variable 1 ⊗ constant (pos 0))) (variable 0 ⊗ variable 2) refl)

-- a natural number times the size of a number above 0
times_size : (n : ℕ) (s : ℤ) → pos 0 <ℤ s → pos (n * nat_abs s) ≡ pos n *ℤ s
times_size n (pos k) h = refl
times_size n (negsuc k) h = absurd (omega (arith, ints, h))

-- at an end as optimal there are prices for the second costs and a multiple of the first
optimal-second : (p : LinearProgram) (t : Tableau) (s : CommonScale p.rows t.scale) → IsTableauOf p t → EndsOptimal p t
    → (m : ℕ) × HasPrices p (λ j. p.second j +ℤ pos m *ℤ p.first j) (basic_point p t s) s.d
optimal-second p t s h e = (
  multiple,
  record {
    q = s2;
    price = λ k. sign_of (p.right k) *ℤ (pos 0 -ℤ w k);
    are_prices = prices_from p t s g w (λ j. p.second j +ℤ pos multiple *ℤ p.first j) s2 h e positive2 rows
        (λ j l. again.1 j l tt)
        (combined-dot p.columns f r0 (basic_point p t s) (pos again.0)
        (combined-dot p.columns r2 r1 (basic_point p t s) (pos chosen.0 *ℤ s2) (cost_row-value p t s 2 h e (omega arith)) (cost_row-value p t s 1 h e (omega arith)))
        (cost_row-value p t s 0 h e (omega arith)));
  },
)
  where
    r0 : ℕ → ℤ
    r0 = t.entry (cost_row p 0)

    r1 : ℕ → ℤ
    r1 = t.entry (cost_row p 1)

    r2 : ℕ → ℤ
    r2 = t.entry (cost_row p 2)

    s0 : ℤ
    s0 = t.scale (cost_row p 0)

    s1 : ℤ
    s1 = t.scale (cost_row p 1)

    s2 : ℤ
    s2 = t.scale (cost_row p 2)

    positive2 : pos 0 <ℤ s2
    positive2 = h.positive (cost_row p 2) (omega arith)

    scaled : (j : ℕ) → j < p.columns → r0 j ≡ pos 0 → pos 0 ≤ℤ (s2 *ℤ r1 j)
    scaled j l z = mul-nonneg_ℤ s2 (r1 j) (omega (arith, ints, positive2)) (e.first j l z)

    scaled_zero : (j : ℕ) → j < p.columns → r0 j ≡ pos 0 → s2 *ℤ r1 j ≡ pos 0 → pos 0 ≤ℤ r2 j
    scaled_zero j l z y = e.second j l z (mul-cancel_ℤ s2 (r1 j) (pos 0) positive2 (y ∙ times_zero s2))
      where
        times_zero : (a : ℤ) → pos 0 ≡ a *ℤ pos 0
        times_zero a = omega (arith, ints)

    chosen : (k : ℕ) × ((j : ℕ) → j < p.columns → r0 j ≡ pos 0 → pos 0 ≤ℤ (r2 j +ℤ pos k *ℤ (s2 *ℤ r1 j)))
    chosen = enough_of p.columns (λ j. r0 j ≡ pos 0) r2 (λ j. s2 *ℤ r1 j) scaled scaled_zero

    f : ℕ → ℤ
    f j = r2 j +ℤ (pos chosen.0 *ℤ s2) *ℤ r1 j

    f_nonneg : (j : ℕ) → j < p.columns → r0 j ≡ pos 0 → pos 0 ≤ℤ f j
    f_nonneg j l z = subst (λ (v : ℤ). pos 0 ≤ℤ (r2 j +ℤ v)) (sym (mul_assoc_ℤ (pos chosen.0) s2 (r1 j))) (chosen.1 j l z)

    again : (k : ℕ) × ((j : ℕ) → j < p.columns → Unit {0} → pos 0 ≤ℤ (f j +ℤ pos k *ℤ r0 j))
    again = enough_of p.columns (λ _. Unit {0}) f r0 (λ j l _. e.none j l) (λ j l _ z. f_nonneg j l z)

    g : ℕ → ℤ
    g j = f j +ℤ pos again.0 *ℤ r0 j

    multiple : ℕ
    multiple = chosen.0 * nat_abs s1

    w : ℕ → ℤ
    w k = (weight p t 2 k +ℤ (pos chosen.0 *ℤ s2) *ℤ weight p t 1 k) +ℤ pos again.0 *ℤ weight p t 0 k

    costs : (o2 o1 o0 y x m : ℤ) → o2 ≡ y → o1 ≡ x → o0 ≡ pos 0 → m ≡ pos chosen.0 *ℤ s1
        → (s2 *ℤ o2 +ℤ (pos chosen.0 *ℤ s2) *ℤ (s1 *ℤ o1)) +ℤ pos again.0 *ℤ (s0 *ℤ o0) ≡ s2 *ℤ (y +ℤ m *ℤ x)
    costs o2 o1 o0 y x m d2 d1 d0 dm =
        ap (λ (z : ℤ). (s2 *ℤ z +ℤ (pos chosen.0 *ℤ s2) *ℤ (s1 *ℤ o1)) +ℤ pos again.0 *ℤ (s0 *ℤ o0)) d2
        ∙ (ap (λ (z : ℤ). (s2 *ℤ y +ℤ (pos chosen.0 *ℤ s2) *ℤ (s1 *ℤ z)) +ℤ pos again.0 *ℤ (s0 *ℤ o0)) d1
        ∙ (ap (λ (z : ℤ). (s2 *ℤ y +ℤ (pos chosen.0 *ℤ s2) *ℤ (s1 *ℤ x)) +ℤ pos again.0 *ℤ (s0 *ℤ z)) d0
        ∙ (identity (s2 ∷ s1 ∷ s0 ∷ pos chosen.0 ∷ pos again.0 ∷ y ∷ x ∷ [])
        ((variable 0 ⊗ variable 5 ⊕ (variable 3 ⊗ variable 0) ⊗ (variable 1 ⊗ variable 6)) ⊕ variable 4 ⊗ (variable 2 ⊗ constant (pos 0)))
        (variable 0 ⊗ (variable 5 ⊕ (variable 3 ⊗ variable 1) ⊗ variable 6)) refl
        ∙ ap (λ (z : ℤ). s2 *ℤ (y +ℤ z *ℤ x)) (sym dm))))

    rows : (j : ℕ) → j < p.columns → g j ≡ s2 *ℤ (p.second j +ℤ pos multiple *ℤ p.first j) +ℤ dot p.rows w (λ k. equation p k j)
    rows j l =
        combined-row p.rows (λ k. weight p t 2 k +ℤ (pos chosen.0 *ℤ s2) *ℤ weight p t 1 k) (weight p t 0) (λ k. equation p k j) (pos again.0) (f j) (r0 j)
        (s2 *ℤ cost p 2 j +ℤ (pos chosen.0 *ℤ s2) *ℤ (s1 *ℤ cost p 1 j)) (s0 *ℤ cost p 0 j)
        (combined-row p.rows (weight p t 2) (weight p t 1) (λ k. equation p k j) (pos chosen.0 *ℤ s2) (r2 j) (r1 j) (s2 *ℤ cost p 2 j) (s1 *ℤ cost p 1 j)
        (h.costs_are 2 j (omega arith) (omega arith)) (h.costs_are 1 j (omega arith) (omega arith)))
        (h.costs_are 0 j (omega arith) (omega arith))
        ∙ ap (λ (z : ℤ). z +ℤ dot p.rows w (λ k. equation p k j))
        (costs (cost p 2 j) (cost p 1 j) (cost p 0 j) (p.second j) (p.first j) (pos multiple) (cost-second p 0 j l) (cost-first p j l) (cost-none p j l)
        (times_size chosen.0 s1 (h.positive (cost_row p 1) (omega arith))))

-- at an end as optimal the basic solution has least cost
pub optimal-least : (p : LinearProgram) (t : Tableau) (s : CommonScale p.rows t.scale) → IsTableauOf p t → EndsOptimal p t → IsLeast p (basic_point p t s) s.d
optimal-least p t s h e =
    let second = optimal-second p t s h e in
    record { first = optimal-first p t s h e; multiple = second.0; second = second.1 }
