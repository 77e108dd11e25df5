-- Fickle columns are those that enter between two tableaux with the same basis. The greatest of them both enters and
-- leaves, and then a cost would have two signs; so there are no two such tableaux.
use Rattle.std.proofs.Common.{◌≡◌, ◌≢◌, ℕ, zero, suc, ◌<◌, ◌≤◌, ap, arith, refl, sym, ◌∙◌, subst, ◌⊎◌, inl, inr}
use Rattle.std.proofs.Common.{[], ◌∷◌}
use Rattle.std.proofs.lemmas.Bool.{cases_lt}
use Rattle.std.specs.Prelude.{ℤ, pos, ◌+ℤ◌, ◌-ℤ◌, ◌*ℤ◌, ◌≤ℤ◌, ◌<ℤ◌}
use Rattle.std.proofs.lemmas.Int.{ints, by_lt_z}
use Rattle.int_laws.specs.Polynomial.{variable, constant, ◌⊖◌, ◌⊗◌}
use Rattle.int_laws.proofs.Identities.{identity}
use Rattle.int_laws.proofs.RingLaws.{zero-mul_ℤ}
use Rattle.int_laws.proofs.OrderLaws.{mul-nonneg_ℤ, mul-positive_ℤ}
use Rattle.int_laws.proofs.SumLaws.{sum_to-nonneg, last_or_before}
use Rattle.linear_forms.specs.LinearProgram.{LinearProgram}
use Rattle.simplex_core.specs.Tableau.{Tableau, unknowns, cost_row, pivot}
use Rattle.simplex_core.proofs.Invariant.{IsTableauOf, same_or_other}
use Rattle.simplex_core.proofs.Points.{CommonScale}
use Rattle.simplex_core.proofs.Rays.{ray, ray_value}
use Rattle.simplex_core.proofs.Choices.{tie}
use Rattle.simplex_core.proofs.Leaving.{basis-apart}
use Rattle.bland_end.specs.Bases.{IsBasic, HaveSameBasis}
use Rattle.bland_end.proofs.Kernels.{cost_at}
use Rattle.bland_end.proofs.Canonical.{IsCanonical, tableau-canonical}
use Rattle.bland_end.proofs.Directions.{scales_of, direction-dot, direction-vanishes, direction-cost}
use Rattle.bland_end.proofs.Steps.{AreZeroBefore, HasZeroSide, Step, weaker, zeros-after, zeros-before, basic-after}
use Rattle.bland_end.proofs.Steps.{basic-before, basic-entered, not-basic, side-after, side-before}
use Rattle.bland_end.proofs.Walks.{up, down, anywhere, Walk, carried, uncarried, shares-any, one-chooser, no-progress}

-- f takes the value j at some number from a on and below b
abbrev pub TakesBetween : (ℕ → ℕ) → ℕ → ℕ → ℕ → Type 0
TakesBetween f a b j = (x : ℕ) × (a ≤ x) × (x < b) × (f x ≡ j)

-- f takes a value at some number from a on and below b, or at none
takes_or_not : (f : ℕ → ℕ) (a b j : ℕ) → TakesBetween f a b j ⊎ ((x : ℕ) → a ≤ x → x < b → f x ≢ j)
takes_or_not f a zero j = inr (λ x l m e. absurd (omega arith))
takes_or_not f a (suc b) j = go (takes_or_not f a b j) (cases_lt b a) (same_or_other (f b) j)
  where
    go : TakesBetween f a b j ⊎ ((x : ℕ) → a ≤ x → x < b → f x ≢ j) → (b < a) ⊎ (a ≤ b) → (f b ≡ j) ⊎ (f b ≢ j)
        → TakesBetween f a (suc b) j ⊎ ((x : ℕ) → a ≤ x → x < suc b → f x ≢ j)
    go (inl (x, l, m, e)) v w = inl (x, l, omega arith, e)
    go (inr none) (inl k) w = inr (λ x l m e. absurd (omega arith))
    go (inr none) (inr k) (inl e) = inl (b, k, omega arith, e)
    go (inr none) (inr k) (inr d) = inr (λ x l m. at x l (last_or_before b x m))
      where
        at : (x : ℕ) → a ≤ x → (x ≡ b) ⊎ (x < b) → f x ≢ j
        at x l (inl e) g = d (ap f (sym e) ∙ g)
        at x l (inr m) g = none x l m g

-- f takes its greatest value at some number from a on and below b
greatest : (f : ℕ → ℕ) (a b : ℕ) → a < b → (x : ℕ) × (a ≤ x) × (x < b) × ((i : ℕ) → a ≤ i → i < b → f i ≤ f x)
greatest f a zero l = absurd (omega arith)
greatest f a (suc b) l = go (cases_lt a b) (λ m. greatest f a b m)
  where
    go : (a < b) ⊎ (b ≤ a) → (a < b → (x : ℕ) × (a ≤ x) × (x < b) × ((i : ℕ) → a ≤ i → i < b → f i ≤ f x))
        → (x : ℕ) × (a ≤ x) × (x < suc b) × ((i : ℕ) → a ≤ i → i < suc b → f i ≤ f x)
    go (inr m) before =
        (a, omega arith, omega arith, λ i k n. let e : i ≡ a = omega arith in let g = ap f e in omega (arith, g))
    go (inl m) before = compare (before m)
      where
        compare : (x : ℕ) × (a ≤ x) × (x < b) × ((i : ℕ) → a ≤ i → i < b → f i ≤ f x)
            → (x : ℕ) × (a ≤ x) × (x < suc b) × ((i : ℕ) → a ≤ i → i < suc b → f i ≤ f x)
        compare (x, k, n, most) = by_order (cases_lt (f x) (f b))
          where
            by_order : (f x < f b) ⊎ (f b ≤ f x) → (x : ℕ) × (a ≤ x) × (x < suc b) × ((i : ℕ) → a ≤ i → i < suc b → f i ≤ f x)
            by_order (inl o) = (b, omega arith, omega arith, λ i y z. at i y (last_or_before b i z))
              where
                at : (i : ℕ) → a ≤ i → (i ≡ b) ⊎ (i < b) → f i ≤ f b
                at i y (inl e) = let g = ap f e in omega (arith, g)
                at i y (inr z) = let g = most i y z in omega (arith, g, o)
            by_order (inr o) = (x, k, omega arith, λ i y z. at i y (last_or_before b i z))
              where
                at : (i : ℕ) → a ≤ i → (i ≡ b) ⊎ (i < b) → f i ≤ f x
                at i y (inl e) = let g = ap f e in omega (arith, g, o)
                at i y (inr z) = most i y z

module _ (p : LinearProgram) (a b : ℕ) (w : Walk p a b) (some_step : a < b) (same : HaveSameBasis p (w.at a) (w.at b)) where
  -- a basic column that doesn't enter between a and b was basic all along
  basic-down : (j : ℕ) → ((x : ℕ) → a ≤ x → x < b → w.column x ≢ j) → (k : ℕ) → a ≤ k → k ≤ b → IsBasic p (w.at k) j
      → (i : ℕ) → a ≤ i → i ≤ k → IsBasic p (w.at i) j
  basic-down j never k lk mk =
      down (λ i. IsBasic p (w.at i) j) a k
      (λ i l m h.
      basic-before p (w.at i) (w.column i) (w.row i) (w.chooser i) (w.step i l (omega arith)) j (never i l (omega arith))
      (uncarried p a b w (λ u. IsBasic p u j) i l (omega arith) h))

  -- a column that is basic at one tableau and not at another one enters between a and b
  enters-between : (j i k : ℕ) → a ≤ i → i ≤ b → a ≤ k → k ≤ b → IsBasic p (w.at i) j → ¬ IsBasic p (w.at k) j → TakesBetween w.column a b j
  enters-between j i k li mi lk mk basic other = go (takes_or_not w.column a b j)
    where
      go : TakesBetween w.column a b j ⊎ ((x : ℕ) → a ≤ x → x < b → w.column x ≢ j) → TakesBetween w.column a b j
      go (inl found) = found
      go (inr never) =
          absurd (other (basic-down j never b (omega arith) (omega arith) (same.there j (basic-down j never i li mi basic a (omega arith) li)) k lk mk))

  -- a column that enters between a and b also leaves
  leaves-between : (j : ℕ) → TakesBetween w.column a b j → TakesBetween (λ i. (w.at i).basis (w.row i)) a b j
  leaves-between j (x, l, m, e) = go (takes_or_not (λ i. (w.at i).basis (w.row i)) a b j)
    where
      go : TakesBetween (λ i. (w.at i).basis (w.row i)) a b j ⊎ ((y : ℕ) → a ≤ y → y < b → (w.at y).basis (w.row y) ≢ j)
          → TakesBetween (λ i. (w.at i).basis (w.row i)) a b j
      go (inl found) = found
      go (inr never) =
          absurd (not-basic p (w.at x) (w.column x) (w.row x) (w.chooser x) (w.step x l m) (w.tableau x l (omega arith))
          (subst (λ c. IsBasic p (w.at x) c) (sym e) (basic-up a (omega arith) (omega arith) at_start x l (omega arith))))
        where
          basic-up : (k : ℕ) → a ≤ k → k ≤ b → IsBasic p (w.at k) j → (i : ℕ) → k ≤ i → i ≤ b → IsBasic p (w.at i) j
          basic-up k lk mk =
              up (λ i. IsBasic p (w.at i) j) k b
              (λ i y z h.
              carried p a b w (λ u. IsBasic p u j) i (omega arith) z
              (basic-after p (w.at i) (w.column i) (w.row i) (w.chooser i) (w.step i (omega arith) z) j (never i (omega arith) z) h))

          entered : IsBasic p (w.at (suc x)) j
          entered =
              carried p a b w (λ u. IsBasic p u j) x l m
              (subst (λ c. IsBasic p (pivot (w.at x) (w.row x) (w.column x)) c) e (basic-entered p (w.at x) (w.column x) (w.row x) (w.chooser x) (w.step x l m)))

          at_start : IsBasic p (w.at a) j
          at_start = same.back j (basic-up (suc x) (omega arith) m entered b m (omega arith))

  -- the reduced costs of a column that enters are 0 all along in the cost rows before the choosing one
  zeros-all : (j : ℕ) → TakesBetween w.column a b j → (i : ℕ) → a ≤ i → i ≤ b → AreZeroBefore p (w.at i) (w.chooser a) j
  zeros-all j (x, l, m, e) =
      anywhere (λ i. AreZeroBefore p (w.at i) (w.chooser a) j) a b
      (λ i y z h.
      carried p a b w (λ u. AreZeroBefore p u (w.chooser a) j) i y z
      (zeros-after p (w.at i) (w.column i) (w.row i) (w.chooser i) (w.step i y z) (w.chooser a) j (chooses i y z) h))
      (λ i y z h.
      zeros-before p (w.at i) (w.column i) (w.row i) (w.chooser i) (w.step i y z) (w.chooser a) j (chooses i y z)
      (uncarried p a b w (λ u. AreZeroBefore p u (w.chooser a) j) i y z h))
      x l (omega arith)
      (subst (λ c. AreZeroBefore p (w.at x) (w.chooser a) c) e
      (λ k n. (w.step x l m).before k (let o = one-chooser p a b w some_step same x l m in omega arith)))
    where
      chooses : (i : ℕ) → a ≤ i → i < b → w.chooser a ≤ w.chooser i
      chooses i y z = let o = one-chooser p a b w some_step same i y z in omega arith

  -- the right side of a row that is solved for a column that enters is 0 all along
  sides-all : (j : ℕ) → TakesBetween w.column a b j → (i : ℕ) → a ≤ i → i ≤ b → HasZeroSide p (w.at i) j
  sides-all j (x, l, m, e) =
      anywhere (λ i. HasZeroSide p (w.at i) j) a b
      (λ i y z h.
      carried p a b w (λ u. HasZeroSide p u j) i y z
      (side-after p (w.at i) (w.column i) (w.row i) (w.chooser i) (w.step i y z) j (no-progress p a b w some_step same i y z) h))
      (λ i y z h.
      side-before p (w.at i) (w.column i) (w.row i) (w.chooser i) (w.step i y z) j (no-progress p a b w some_step same i y z)
      (uncarried p a b w (λ u. HasZeroSide p u j) i y z h))
      x l (omega arith)
      (λ i k f.
      absurd (not-basic p (w.at x) (w.column x) (w.row x) (w.chooser x) (w.step x l m) (w.tableau x l (omega arith)) (i, k, f ∙ sym e)))

  -- at step x the greatest fickle column enters, and at step y it leaves
  module _ (x y : ℕ) (lx : a ≤ x) (mx : x < b) (ly : a ≤ y) (my : y < b)
      (most : (i : ℕ) → a ≤ i → i < b → w.column i ≤ w.column x) (leaves : (w.at y).basis (w.row y) ≡ w.column x) where
    abbrev q : ℕ
    q = w.chooser a

    abbrev s : ℕ
    s = w.column y

    abbrev X : Tableau
    X = w.at x

    abbrev Y : Tableau
    Y = w.at y

    is_x : IsTableauOf p X
    is_x = w.tableau x lx (omega arith)

    is_y : IsTableauOf p Y
    is_y = w.tableau y ly (omega arith)

    canonical_y : IsCanonical p Y
    canonical_y = tableau-canonical p Y is_y

    step_x : Step p X (w.column x) (w.row x) q
    step_x = subst (λ k. Step p X (w.column x) (w.row x) k) (one-chooser p a b w some_step same x lx mx) (w.step x lx mx)

    step_y : Step p Y s (w.row y) q
    step_y = subst (λ k. Step p Y s (w.row y) k) (one-chooser p a b w some_step same y ly my) (w.step y ly my)

    abbrev scales : CommonScale p.rows Y.scale
    scales = scales_of p Y canonical_y

    inside : s < suc (unknowns p)
    inside = let l = step_y.column in omega arith

    -- the column that enters at y is less than the greatest fickle column
    lesser : s < w.column x
    lesser = go (same_or_other s (w.column x))
      where
        go : (s ≡ w.column x) ⊎ (s ≢ w.column x) → s < w.column x
        go (inl e) = absurd (not-basic p Y s (w.row y) q step_y is_y (w.row y, step_y.row, leaves ∙ sym e))
        go (inr d) = let m = most y ly my in omega arith

    -- a lesser fickle column has no negative reduced cost at x
    cost-nonneg : (j : ℕ) → j < w.column x → TakesBetween w.column a b j → pos 0 ≤ℤ X.entry (cost_row p q) j
    cost-nonneg j l takes = step_x.least j l (zeros-all j takes x lx (omega arith))

    -- the entry of a row that is solved for a lesser fickle column isn't above 0 at y
    entry-at-most : (i : ℕ) → i < p.rows → Y.basis i < w.column x → TakesBetween w.column a b (Y.basis i) → Y.entry i s ≤ℤ pos 0
    entry-at-most i l less takes = by_lt_z (pos 0) (Y.entry i s) (λ above. absurd (step_y.best i l above (tie ties before))) (λ h. h)
      where
        both_zero : (v z m n : ℤ) → v ≡ pos 0 → z ≡ pos 0 → v *ℤ m ≡ z *ℤ n
        both_zero v z m n e f = zero-mul_ℤ v m e ∙ sym (zero-mul_ℤ z n f)

        ties : Y.entry i (unknowns p) *ℤ Y.entry (w.row y) s ≡ Y.entry (w.row y) (unknowns p) *ℤ Y.entry i s
        ties = both_zero _ _ _ _ (sides-all (Y.basis i) takes y ly (omega arith) i l refl) (no-progress p a b w some_step same y ly my)

        before : Y.basis i < Y.basis (w.row y)
        before = let e = leaves in omega (arith, e)

    -- the term of a row in the value of cost row q of x along the direction of s at y
    abbrev term : ℕ → ℤ
    term i = X.entry (cost_row p q) (Y.basis i) *ℤ ray_value p Y scales s i

    opposites : (g e : ℤ) → g ≤ℤ pos 0 → pos 0 <ℤ e → pos 0 ≤ℤ ((pos 0 -ℤ g) *ℤ e)
    opposites g e h k = mul-nonneg_ℤ _ _ (opposite g h) (weaker e k)
      where
        opposite : (g : ℤ) → g ≤ℤ pos 0 → pos 0 ≤ℤ (pos 0 -ℤ g)
        opposite g h = omega (arith, ints)

    term-nonneg : (i : ℕ) → i < p.rows → pos 0 ≤ℤ term i
    term-nonneg i l = go (takes_or_not X.basis 0 p.rows (Y.basis i))
      where
        none : (z v : ℤ) → z ≡ pos 0 → pos 0 ≤ℤ (z *ℤ v)
        none z v e = at_least _ (zero-mul_ℤ z v e)
          where
            at_least : (n : ℤ) → n ≡ pos 0 → pos 0 ≤ℤ n
            at_least n e = omega (arith, ints)

        twice : (z g e : ℤ) → z <ℤ pos 0 → pos 0 <ℤ g → pos 0 <ℤ e → pos 0 ≤ℤ (z *ℤ ((pos 0 -ℤ g) *ℤ e))
        twice z g e h k m =
            subst (λ n. pos 0 ≤ℤ n)
            (identity (z ∷ g ∷ e ∷ []) ((constant (pos 0) ⊖ variable 0) ⊗ (variable 1 ⊗ variable 2)) (variable 0 ⊗ ((constant (pos 0) ⊖ variable 1) ⊗ variable 2)) refl)
            (opposites z (g *ℤ e) (below z h) (mul-positive_ℤ g e k m))
          where
            below : (z : ℤ) → z <ℤ pos 0 → z ≤ℤ pos 0
            below z h = omega (arith, ints)

        entered : TakesBetween w.column a b (Y.basis i) → (Y.basis i < w.column x) ⊎ (w.column x ≤ Y.basis i) → pos 0 ≤ℤ term i
        entered takes (inl less) =
            mul-nonneg_ℤ _ _ (cost-nonneg (Y.basis i) less takes) (opposites _ _ (entry-at-most i l less takes) (scales.factors i l))
        entered (z, lz, mz, e) (inr more) = twice _ _ _ below above (scales.factors i l)
          where
            at_top : Y.basis i ≡ w.column x
            at_top = let m = most z lz mz in omega (arith, m, e, more)

            below : X.entry (cost_row p q) (Y.basis i) <ℤ pos 0
            below = subst (λ j. X.entry (cost_row p q) j <ℤ pos 0) (sym at_top) step_x.negative

            above : pos 0 <ℤ Y.entry i s
            above =
                subst (λ k. pos 0 <ℤ Y.entry k s) (sym (basis-apart p Y i (w.row y) is_y l step_y.row (at_top ∙ sym leaves))) step_y.positive

        go : TakesBetween X.basis 0 p.rows (Y.basis i) ⊎ ((k : ℕ) → 0 ≤ k → k < p.rows → X.basis k ≢ Y.basis i) → pos 0 ≤ℤ term i
        go (inl (k, lk, mk, e)) =
            none _ _ (ap (λ j. X.entry (cost_row p q) j) (sym e) ∙ is_x.other (cost_row p q) k (let n = step_x.few in omega arith) mk (omega arith))
        go (inr never) =
            let takes = enters-between (Y.basis i) y x ly (omega arith) lx (omega arith) (i, l, refl) (λ (k, lk, e). never k (omega arith) lk e) in
            entered takes (cases_lt (Y.basis i) (w.column x))

    -- the value of cost row q of x along the direction isn't below 0
    not-falling : pos 0 ≤ℤ cost_at p X q (ray p Y scales s)
    not-falling =
        subst (λ z. pos 0 ≤ℤ z) (sym (direction-dot p Y scales s (X.entry (cost_row p q)) canonical_y inside))
        (sum _ _ (mul-nonneg_ℤ _ _ (cost-nonneg s lesser (y, ly, my, refl)) (weaker _ scales.positive)) (sum_to-nonneg p.rows term term-nonneg))
      where
        sum : (v z : ℤ) → pos 0 ≤ℤ v → pos 0 ≤ℤ z → pos 0 ≤ℤ (v +ℤ z)
        sum v z h k = omega (arith, ints)

    -- the value of cost row q of y along the direction is below 0
    falling : cost_at p Y q (ray p Y scales s) <ℤ pos 0
    falling =
        less (Y.entry (cost_row p q) s) scales.d _ (direction-cost p Y scales q s canonical_y step_y.few inside) step_y.negative scales.positive
      where
        less : (z d v : ℤ) → v ≡ z *ℤ d → z <ℤ pos 0 → pos 0 <ℤ d → v <ℤ pos 0
        less z d v e h k = below v (z *ℤ d) ((pos 0 -ℤ z) *ℤ d) e (mul-positive_ℤ (pos 0 -ℤ z) d (opposite z h) k)
            (identity (z ∷ d ∷ []) ((constant (pos 0) ⊖ variable 0) ⊗ variable 1) (constant (pos 0) ⊖ variable 0 ⊗ variable 1) refl)
          where
            opposite : (z : ℤ) → z <ℤ pos 0 → pos 0 <ℤ (pos 0 -ℤ z)
            opposite z h = omega (arith, ints)

            below : (v n o : ℤ) → v ≡ n → pos 0 <ℤ o → o ≡ pos 0 -ℤ n → v <ℤ pos 0
            below v n o e h f = omega (arith, ints)

    -- but the two values have the same sign, which is a contradiction
    contradiction : ⊥
    contradiction =
        clash _ _ _ _ falling not-falling (is_x.positive (cost_row p q) (let n = step_x.few in omega arith))
        (is_y.positive (cost_row p q) (let n = step_x.few in omega arith))
        ((shares-any p a b w y x ly (omega arith) lx (omega arith)).costs q (ray p Y scales s) (direction-vanishes p Y scales s canonical_y inside))
      where
        clash : (v z m n : ℤ) → v <ℤ pos 0 → pos 0 ≤ℤ z → pos 0 <ℤ m → pos 0 <ℤ n → v *ℤ m ≡ z *ℤ n → ⊥
        clash v z m n h k f g e =
            no (v *ℤ m) (z *ℤ n) ((pos 0 -ℤ v) *ℤ m) e (mul-nonneg_ℤ z n k (weaker n g)) (mul-positive_ℤ (pos 0 -ℤ v) m (opposite v h) f)
            (identity (v ∷ m ∷ []) ((constant (pos 0) ⊖ variable 0) ⊗ variable 1) (constant (pos 0) ⊖ variable 0 ⊗ variable 1) refl)
          where
            opposite : (z : ℤ) → z <ℤ pos 0 → pos 0 <ℤ (pos 0 -ℤ z)
            opposite z h = omega (arith, ints)

            no : (l r o : ℤ) → l ≡ r → pos 0 ≤ℤ r → pos 0 <ℤ o → o ≡ pos 0 -ℤ l → ⊥
            no l r o e h k f = omega (arith, ints)

  -- no two tableaux have the same basis
  pub impossible : ⊥
  impossible = at_greatest (greatest w.column a b some_step)
    where
      at_greatest : (x : ℕ) × (a ≤ x) × (x < b) × ((i : ℕ) → a ≤ i → i < b → w.column i ≤ w.column x) → ⊥
      at_greatest (x, lx, mx, most) = at_leaving (leaves-between (w.column x) (x, lx, mx, refl))
        where
          at_leaving : TakesBetween (λ i. (w.at i).basis (w.row i)) a b (w.column x) → ⊥
          at_leaving (y, ly, my, e) = contradiction x y lx mx ly my most e
