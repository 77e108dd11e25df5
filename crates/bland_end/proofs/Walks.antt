-- Walks, sequences of steps: what all of them preserve; between equal bases one cost row makes all choices, and the
-- right side of each row that leaves is 0.
use Rattle.std.proofs.Common.{◌≡◌, ◌≢◌, ℕ, zero, suc, ◌<◌, ◌≤◌, ap, arith, refl, sym, ◌∙◌, subst, ◌⊎◌, inl, inr}
use Rattle.std.proofs.Common.{[], ◌∷◌}
use Rattle.std.proofs.lemmas.Bool.{cases_lt}
use Rattle.std.specs.Prelude.{ℤ, pos, ◌-ℤ◌, ◌*ℤ◌, ◌≤ℤ◌, ◌<ℤ◌}
use Rattle.std.proofs.lemmas.Int.{ints, by_lt_z}
use Rattle.int_laws.specs.Polynomial.{variable, constant, ◌⊖◌, ◌⊗◌}
use Rattle.int_laws.proofs.Identities.{identity}
use Rattle.int_laws.proofs.RingLaws.{zero-mul_ℤ}
use Rattle.int_laws.proofs.OrderLaws.{mul-nonneg_ℤ, mul-positive_ℤ}
use Rattle.linear_forms.specs.LinearProgram.{LinearProgram}
use Rattle.simplex_core.specs.Tableau.{Tableau, unknowns, cost_row, pivot}
use Rattle.simplex_core.proofs.Regions.{pivot-other, pivot-other_scale}
use Rattle.simplex_core.proofs.Invariant.{IsTableauOf}
use Rattle.bland_end.specs.Bases.{HaveSameBasis}
use Rattle.bland_end.proofs.Canonical.{tableau-canonical}
use Rattle.bland_end.proofs.Kernels.{Shares, shares-self, shares-sym, shares-pivot}
use Rattle.bland_end.proofs.SameBases.{costs-same}
use Rattle.bland_end.proofs.Steps.{AreZeroBefore, IsBlocked, Step, factor_zero, weaker, blocked-after, not-blocked}
use Rattle.bland_end.proofs.Fractions.{le-le, lt-le, le-lt}

-- if each step from a to b preserves a property that holds at a, it holds at each number between
pub up : (P : ℕ → Type 0) (a b : ℕ) → ((i : ℕ) → a ≤ i → i < b → P i → P (suc i)) → P a → (i : ℕ) → a ≤ i → i ≤ b → P i
up P a b keep start zero l m = let e : a ≡ zero = omega arith in subst P e start
up P a b keep start (suc i) l m = go (cases_lt i a) (λ k. up P a b keep start i k (omega arith))
  where
    go : (i < a) ⊎ (a ≤ i) → (a ≤ i → P i) → P (suc i)
    go (inl k) before = let e : a ≡ suc i = omega arith in subst P e start
    go (inr k) before = keep i k (omega arith) (before k)

-- if each step from a to b preserves a property backwards and it holds at b, it holds at each number between
pub down : (P : ℕ → Type 0) (a b : ℕ) → ((i : ℕ) → a ≤ i → i < b → P (suc i) → P i) → P b → (i : ℕ) → a ≤ i → i ≤ b → P i
down P a zero keep end i l m = let e : zero ≡ i = omega arith in subst P e end
down P a (suc b) keep end i l m =
    go (cases_lt b i) (λ k. down P a b (λ j x y. keep j x (omega arith)) (keep b (omega arith) (omega arith) end) i l k)
  where
    go : (b < i) ⊎ (i ≤ b) → (i ≤ b → P i) → P i
    go (inl k) after = let e : suc b ≡ i = omega arith in subst P e end
    go (inr k) after = after k

-- if each step from a to b preserves a property in both directions and it holds at one number, it holds at each number
-- between
pub anywhere : (P : ℕ → Type 0) (a b : ℕ) → ((i : ℕ) → a ≤ i → i < b → P i → P (suc i))
    → ((i : ℕ) → a ≤ i → i < b → P (suc i) → P i) → (x : ℕ) → a ≤ x → x ≤ b → P x → (i : ℕ) → a ≤ i → i ≤ b → P i
anywhere P a b on back x lx mx here i l m = go (cases_lt i x)
  where
    go : (i < x) ⊎ (x ≤ i) → P i
    go (inl k) = down P a x (λ j y z. back j y (omega arith)) here i l (omega arith)
    go (inr k) = up P x b (λ j y z. on j (omega arith) z) here i k m

-- tableaux of a program from number a to number b, each by a step from the one before
pub record Walk (p : LinearProgram) (a b : ℕ) : Type 0 where
  pub at : ℕ → Tableau
  pub column : ℕ → ℕ
  pub row : ℕ → ℕ
  pub chooser : ℕ → ℕ
  pub tableau : (i : ℕ) → a ≤ i → i ≤ b → IsTableauOf p (at i)
  pub step : (i : ℕ) → a ≤ i → i < b → Step p (at i) (column i) (row i) (chooser i)
  pub pivoted : (i : ℕ) → a ≤ i → i < b → at (suc i) ≡ pivot (at i) (row i) (column i)

module _ (p : LinearProgram) (a b : ℕ) (w : Walk p a b) where
  -- a property of a step's pivot is one of the next tableau
  pub carried : (P : Tableau → Type 0) (i : ℕ) → a ≤ i → i < b → P (pivot (w.at i) (w.row i) (w.column i)) → P (w.at (suc i))
  carried P i l m h = subst P (sym (w.pivoted i l m)) h

  -- a property of the next tableau is one of the step's pivot
  pub uncarried : (P : Tableau → Type 0) (i : ℕ) → a ≤ i → i < b → P (w.at (suc i)) → P (pivot (w.at i) (w.row i) (w.column i))
  uncarried P i l m h = subst P (w.pivoted i l m) h

  -- any two tableaux of a walk share zeros and costs
  pub shares-any : (i j : ℕ) → a ≤ i → i ≤ b → a ≤ j → j ≤ b → Shares p (w.at i) (w.at j)
  shares-any i j li mi lj mj = go (cases_lt j i)
    where
      from : (i : ℕ) → a ≤ i → i ≤ b → (j : ℕ) → i ≤ j → j ≤ b → Shares p (w.at i) (w.at j)
      from i l m =
          up (λ k. Shares p (w.at i) (w.at k)) i b
          (λ k x y h.
          let s = w.step k (omega arith) y in
          carried (λ u. Shares p (w.at i) u) k (omega arith) y
          (shares-pivot p (w.at i) (w.at k) (w.row k) (w.column k) s.row s.positive h))
          (shares-self p (w.at i))

      go : (j < i) ⊎ (i ≤ j) → Shares p (w.at i) (w.at j)
      go (inl k) = shares-sym p _ _ (from j lj mj i (omega arith) mi)
      go (inr k) = from i li mi j k mj

  -- the rows before the choosing one remain blocked
  blocked-on : (i : ℕ) → a ≤ i → i < b → (k : ℕ) → i ≤ k → k ≤ b → (l : ℕ) → l < w.chooser i → IsBlocked p (w.at k) l
  blocked-on i li mi =
      up (λ k. (l : ℕ) → l < w.chooser i → IsBlocked p (w.at k) l) i b
      (λ k x y h l m. carried (λ u. IsBlocked p u l) k (omega arith) y (next k (omega arith) y h l m (cases_lt (w.chooser k) (w.chooser i))))
      (w.step i li mi).blocked
    where
      next : (k : ℕ) → a ≤ k → (y : k < b) → ((l : ℕ) → l < w.chooser i → IsBlocked p (w.at k) l) → (l : ℕ) → l < w.chooser i
          → (w.chooser k < w.chooser i) ⊎ (w.chooser i ≤ w.chooser k) → IsBlocked p (pivot (w.at k) (w.row k) (w.column k)) l
      next k x y h l m (inl n) =
          absurd (not-blocked p (w.at k) (w.column k) (w.row k) (w.chooser k) (w.step k x y) (h (w.chooser k) n))
      next k x y h l m (inr n) = blocked-after p (w.at k) (w.column k) (w.row k) (w.chooser k) (w.step k x y) l (omega arith) (h l m)

  -- no later step is chosen by an earlier cost row
  later : (i k : ℕ) → a ≤ i → i ≤ k → k < b → w.chooser i ≤ w.chooser k
  later i k l m n = go (cases_lt (w.chooser k) (w.chooser i))
    where
      go : (w.chooser k < w.chooser i) ⊎ (w.chooser i ≤ w.chooser k) → w.chooser i ≤ w.chooser k
      go (inl x) =
          absurd (not-blocked p (w.at k) (w.column k) (w.row k) (w.chooser k) (w.step k (omega arith) n)
          (blocked-on i l (omega arith) k m (omega arith) (w.chooser k) x))
      go (inr x) = x

  module _ (some_step : a < b) (same : HaveSameBasis p (w.at a) (w.at b)) where
    -- the cost row that chooses at the first step
    abbrev pub q : ℕ
    q = w.chooser a

    -- it is one of the three cost rows
    pub q-few : q < 3
    q-few = (w.step a (omega arith) some_step).few

    -- the cost rows at both ends have the same fractions
    ends-same : (k c : ℕ) → k < 3 → c < suc (unknowns p)
        → (w.at a).entry (cost_row p k) c *ℤ (w.at b).scale (cost_row p k) ≡ (w.at b).entry (cost_row p k) c *ℤ (w.at a).scale (cost_row p k)
    ends-same =
        costs-same p (w.at a) (w.at b) (tableau-canonical p (w.at a) (w.tableau a (omega arith) (omega arith)))
        (tableau-canonical p (w.at b) (w.tableau b (omega arith) (omega arith))) same
        (shares-any a b (omega arith) (omega arith) (omega arith) (omega arith))

    -- the first column may also enter at the end
    unblocked : ¬ IsBlocked p (w.at b) q
    unblocked blocked =
        at_least _ _ _ _ (blocked (w.column a) s.column zeros) s.negative (over a (omega arith) (omega arith)) (over b (omega arith) (omega arith))
        (ends-same q (w.column a) q-few (let l = s.column in omega arith))
      where
        s : Step p (w.at a) (w.column a) (w.row a) q
        s = w.step a (omega arith) some_step

        over : (i : ℕ) → a ≤ i → i ≤ b → pos 0 <ℤ (w.at i).scale (cost_row p q)
        over i l m = (w.tableau i l m).positive (cost_row p q) (let n = q-few in omega arith)

        zeros : AreZeroBefore p (w.at b) q (w.column a)
        zeros l m =
            factor_zero _ _ ((w.tableau a (omega arith) (omega arith)).positive (cost_row p l) (let n = q-few in omega arith))
            (sym (ends-same l (w.column a) (let n = q-few in omega arith) (let n = s.column in omega arith)) ∙ zero-mul_ℤ _ _ (s.before l m))

        opposite_of : (x : ℤ) → x <ℤ pos 0 → pos 0 <ℤ (pos 0 -ℤ x)
        opposite_of x h = omega (arith, ints)

        clash : (m n o : ℤ) → pos 0 ≤ℤ m → pos 0 <ℤ n → n ≡ pos 0 -ℤ o → o ≡ m → ⊥
        clash m n o h k e f = omega (arith, ints)

        at_least : (x y v z : ℤ) → pos 0 ≤ℤ y → x <ℤ pos 0 → pos 0 <ℤ v → pos 0 <ℤ z → x *ℤ z ≡ y *ℤ v → ⊥
        at_least x y v z h k f g e =
            clash (y *ℤ v) ((pos 0 -ℤ x) *ℤ z) (x *ℤ z) (mul-nonneg_ℤ y v h (weaker v f))
            (mul-positive_ℤ (pos 0 -ℤ x) z (opposite_of x k) g)
            (identity (x ∷ z ∷ []) ((constant (pos 0) ⊖ variable 0) ⊗ variable 1) (constant (pos 0) ⊖ variable 0 ⊗ variable 1) refl) e

    -- one cost row chooses at every step
    pub one-chooser : (i : ℕ) → a ≤ i → i < b → w.chooser i ≡ q
    one-chooser i l m = go (cases_lt q (w.chooser i))
      where
        go : (q < w.chooser i) ⊎ (w.chooser i ≤ q) → w.chooser i ≡ q
        go (inl x) = absurd (unblocked (blocked-on i l m b (omega arith) (omega arith) q x))
        go (inr x) = let y = later a i (omega arith) l m in omega arith

    -- the right side of cost row q
    abbrev objective : ℕ → ℤ
    objective i = (w.at i).entry (cost_row p q) (unknowns p)

    abbrev scale : ℕ → ℤ
    scale i = (w.at i).scale (cost_row p q)

    -- the right side of the leaving row
    abbrev side : ℕ → ℤ
    side i = (w.at i).entry (w.row i) (unknowns p)

    over : (i : ℕ) → a ≤ i → i ≤ b → pos 0 <ℤ scale i
    over i l m = (w.tableau i l m).positive (cost_row p q) (let n = q-few in omega arith)

    -- by how much a step increases the objective, by cross products
    rises : (i : ℕ) → a ≤ i → i < b
        → objective (suc i) *ℤ scale i -ℤ objective i *ℤ scale (suc i) ≡ (pos 0 -ℤ (w.at i).entry (cost_row p q) (w.column i)) *ℤ (side i *ℤ scale i)
    rises i l m =
        raised (objective i) (objective (suc i)) (scale i) (scale (suc i)) ((w.at i).entry (w.row i) (w.column i))
        ((w.at i).entry (cost_row p q) (w.column i)) (side i)
        (ap (λ (u : Tableau). u.entry (cost_row p q) (unknowns p)) (w.pivoted i l m) ∙ pivot-other (w.at i) (w.row i) (w.column i) (cost_row p q) (unknowns p) apart)
        (ap (λ (u : Tableau). u.scale (cost_row p q)) (w.pivoted i l m) ∙ pivot-other_scale (w.at i) (w.row i) (w.column i) (cost_row p q) apart)
      where
        apart : cost_row p q ≢ w.row i
        apart = let n = (w.step i l m).row in omega arith

        raised : (z z' s s' e y g : ℤ) → z' ≡ z *ℤ e -ℤ y *ℤ g → s' ≡ s *ℤ e → z' *ℤ s -ℤ z *ℤ s' ≡ (pos 0 -ℤ y) *ℤ (g *ℤ s)
        raised z z' s s' e y g h k =
            ap (λ (v : ℤ). v *ℤ s -ℤ z *ℤ s') h
            ∙ (ap (λ (v : ℤ). (z *ℤ e -ℤ y *ℤ g) *ℤ s -ℤ z *ℤ v) k
            ∙ identity (z ∷ s ∷ e ∷ y ∷ g ∷ [])
            ((variable 0 ⊗ variable 2 ⊖ variable 3 ⊗ variable 4) ⊗ variable 1 ⊖ variable 0 ⊗ (variable 1 ⊗ variable 2))
            ((constant (pos 0) ⊖ variable 3) ⊗ (variable 4 ⊗ variable 1)) refl)

    opposite : (i : ℕ) → a ≤ i → i < b → pos 0 <ℤ (pos 0 -ℤ (w.at i).entry (cost_row p q) (w.column i))
    opposite i l m =
        less _ (subst (λ (k : ℕ). (w.at i).entry (cost_row p k) (w.column i) <ℤ pos 0) (one-chooser i l m) (w.step i l m).negative)
      where
        less : (y : ℤ) → y <ℤ pos 0 → pos 0 <ℤ (pos 0 -ℤ y)
        less y h = omega (arith, ints)

    -- a step doesn't decrease the objective
    not_lower : (i : ℕ) → a ≤ i → i < b → (objective i *ℤ scale (suc i)) ≤ℤ (objective (suc i) *ℤ scale i)
    not_lower i l m =
        from _ _ _ (rises i l m)
        (mul-nonneg_ℤ _ _ (weaker _ (opposite i l m)) (mul-nonneg_ℤ _ _ ((w.tableau i l (omega arith)).right (w.row i) (w.step i l m).row) (weaker _ (over i l (omega arith)))))
      where
        from : (x y z : ℤ) → x -ℤ y ≡ z → pos 0 ≤ℤ z → y ≤ℤ x
        from x y z e h = omega (arith, ints)

    -- a step increases the objective if the right side of the leaving row is above 0
    higher : (i : ℕ) → a ≤ i → i < b → pos 0 <ℤ side i → (objective i *ℤ scale (suc i)) <ℤ (objective (suc i) *ℤ scale i)
    higher i l m h =
        from _ _ _ (rises i l m) (mul-positive_ℤ _ _ (opposite i l m) (mul-positive_ℤ _ _ h (over i l (omega arith))))
      where
        from : (x y z : ℤ) → x -ℤ y ≡ z → pos 0 <ℤ z → y <ℤ x
        from x y z e h = omega (arith, ints)

    -- the objective never decreases
    not_lower-on : (i k : ℕ) → a ≤ i → i ≤ k → k ≤ b → (objective i *ℤ scale k) ≤ℤ (objective k *ℤ scale i)
    not_lower-on i k l m n =
        up (λ k. (objective i *ℤ scale k) ≤ℤ (objective k *ℤ scale i)) i b
        (λ k x y h.
        le-le (objective i) (scale i) (objective k) (scale k) (objective (suc k)) (scale (suc k)) (over i l (omega arith)) (over k (omega arith) (omega arith)) (over (suc k) (omega arith) y)
        h (not_lower k (omega arith) y))
        (itself (objective i *ℤ scale i)) k m n
      where
        itself : (z : ℤ) → z ≤ℤ z
        itself z = omega (arith, ints)

    -- no step makes progress: the right side of each row that leaves is 0
    pub no-progress : (i : ℕ) → a ≤ i → i < b → side i ≡ pos 0
    no-progress i l m = by_lt_z (pos 0) (side i) (λ h. absurd (impossible h)) (λ h. both _ h ((w.tableau i l (omega arith)).right (w.row i) (w.step i l m).row))
      where
        both : (z : ℤ) → z ≤ℤ pos 0 → pos 0 ≤ℤ z → z ≡ pos 0
        both z h k = omega (arith, ints)

        clash : (x y : ℤ) → x <ℤ y → x ≡ y → ⊥
        clash x y h e = omega (arith, ints)

        impossible : pos 0 <ℤ side i → ⊥
        impossible h =
            clash _ _
            (lt-le (objective a) (scale a) (objective (suc i)) (scale (suc i)) (objective b) (scale b) (over a (omega arith) (omega arith)) (over (suc i) (omega arith) m) (over b (omega arith) (omega arith))
            (le-lt (objective a) (scale a) (objective i) (scale i) (objective (suc i)) (scale (suc i)) (over a (omega arith) (omega arith)) (over i l (omega arith)) (over (suc i) (omega arith) m)
            (not_lower-on a i (omega arith) l (omega arith)) (higher i l m h))
            (not_lower-on (suc i) b (omega arith) m (omega arith)))
            (ends-same q (unknowns p) q-few (omega arith))
