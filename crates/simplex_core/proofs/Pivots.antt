-- A pivot leads from a tableau of a program to another tableau of the program.
use Rattle.std.proofs.Common.{◌≡◌, ◌≢◌, ℕ, ◌+◌, ◌<◌, ap, arith, refl, sym, ◌∙◌, subst, ◌⊎◌, inl, inr, [], ◌∷◌}
use Rattle.std.specs.Prelude.{ℤ, pos, ◌+ℤ◌, ◌-ℤ◌, ◌*ℤ◌, ◌≤ℤ◌, ◌<ℤ◌}
use Rattle.std.proofs.lemmas.Int.{ints, by_lt_z}
use Rattle.int_laws.proofs.DotLaws.{sum_to-combine}
use Rattle.int_laws.specs.Sums.{sum_to, dot}
use Rattle.int_laws.specs.Polynomial.{variable, constant, ◌⊕◌, ◌⊖◌, ◌⊗◌}
use Rattle.int_laws.proofs.Identities.{identity, identity_by_two}
use Rattle.int_laws.proofs.OrderLaws.{mul-positive_ℤ, mul-nonneg_ℤ, mul-cancel_ℤ}
use Rattle.int_laws.proofs.SumLaws.{sum_to-same}
use Rattle.linear_forms.specs.LinearProgram.{LinearProgram}
use Rattle.simplex_core.specs.Tableau.{Tableau, artificial, unknowns, cost_row, equation, cost, pivot}
use Rattle.simplex_core.proofs.Regions.{pivot-row, pivot-other, pivot-scale, pivot-other_scale, pivot-basis}
use Rattle.simplex_core.proofs.Regions.{pivot-other_basis}
use Rattle.simplex_core.proofs.Invariant.{weight, SolvesRows, IsTableauOf, same_or_other}

-- the pivot is in the table, its entry is above 0, and its row has the least quotient of right side by entry
pub record IsPivot (p : LinearProgram) (t : Tableau) (r c : ℕ) : Type 0 where
  pub row : r < p.rows
  pub column : c < unknowns p
  pub positive : pos 0 <ℤ t.entry r c
  pub least : (i : ℕ) → i < p.rows → pos 0 <ℤ t.entry i c → (t.entry r (unknowns p) *ℤ t.entry i c) ≤ℤ (t.entry i (unknowns p) *ℤ t.entry r c)

-- a scale after the pivot is above 0
positive_after : (p : LinearProgram) (t : Tableau) (r c i : ℕ) → IsTableauOf p t → IsPivot p t r c → i < p.rows + 3 → (i ≡ r) ⊎ (i ≢ r)
    → pos 0 <ℤ (pivot t r c).scale i
positive_after p t r c i h k l (inl e) =
    subst (λ (m : ℕ). pos 0 <ℤ (pivot t r c).scale m) (sym e) (subst (λ (z : ℤ). pos 0 <ℤ z) (sym (pivot-scale t r c)) k.positive)
positive_after p t r c i h k l (inr d) =
    subst (λ (z : ℤ). pos 0 <ℤ z) (sym (pivot-other_scale t r c i d)) (mul-positive_ℤ _ _ (h.positive i l) k.positive)

-- a column of the basis after the pivot is in the table
basic_after : (p : LinearProgram) (t : Tableau) (r c i : ℕ) → IsTableauOf p t → IsPivot p t r c → i < p.rows → (i ≡ r) ⊎ (i ≢ r)
    → (pivot t r c).basis i < unknowns p
basic_after p t r c i h k l (inl e) = let b = ap (λ (m : ℕ). (pivot t r c).basis m) e ∙ pivot-basis t r c in omega (arith, b, k.column)
basic_after p t r c i h k l (inr d) = let b = pivot-other_basis t r c i d in omega (arith, b, h.basic i l)

-- a row's own column after the pivot has the row's scale
own_after : (p : LinearProgram) (t : Tableau) (r c i : ℕ) → IsTableauOf p t → IsPivot p t r c → i < p.rows → (i ≡ r) ⊎ (i ≢ r)
    → (pivot t r c).entry i ((pivot t r c).basis i) ≡ (pivot t r c).scale i
own_after p t r c i h k l (inl e) =
    subst (λ (m : ℕ). (pivot t r c).entry m ((pivot t r c).basis m) ≡ (pivot t r c).scale m) (sym e)
    (ap (λ (j : ℕ). (pivot t r c).entry r j) (pivot-basis t r c) ∙ (pivot-row t r c c ∙ sym (pivot-scale t r c)))
own_after p t r c i h k l (inr d) =
    ap (λ (j : ℕ). (pivot t r c).entry i j) (pivot-other_basis t r c i d)
    ∙ (pivot-other t r c i (t.basis i) d
    ∙ (keeps _ _ _ (h.own i l) (h.other r i (let m = k.row in omega arith) l (λ e. d (sym e)))
    ∙ sym (pivot-other_scale t r c i d)))
  where
    keeps : (a b s : ℤ) → a ≡ s → b ≡ pos 0 → a *ℤ t.entry r c -ℤ t.entry i c *ℤ b ≡ s *ℤ t.entry r c
    keeps a b s e f = omega (arith, ints, ap (λ (z : ℤ). z *ℤ t.entry r c) e, ap (λ (z : ℤ). t.entry i c *ℤ z) f)

-- the other rows' columns after the pivot are 0 in a row
other_after : (p : LinearProgram) (t : Tableau) (r c i k : ℕ) → IsTableauOf p t → IsPivot p t r c → i < p.rows + 3 → k < p.rows → i ≢ k
    → (i ≡ r) ⊎ (i ≢ r) → (k ≡ r) ⊎ (k ≢ r) → (pivot t r c).entry i ((pivot t r c).basis k) ≡ pos 0
other_after p t r c i k h v l m d (inl e) (inl f) = absurd (d (e ∙ sym f))
other_after p t r c i k h v l m d (inl e) (inr f) =
    ap (λ (n : ℕ). (pivot t r c).entry n ((pivot t r c).basis k)) e
    ∙ (ap (λ (j : ℕ). (pivot t r c).entry r j) (pivot-other_basis t r c k f)
    ∙ (pivot-row t r c (t.basis k) ∙ h.other r k (let n = v.row in omega arith) m (λ g. f (sym g))))
other_after p t r c i k h v l m d (inr e) (inl f) =
    ap (λ (j : ℕ). (pivot t r c).entry i j) (ap (λ (n : ℕ). (pivot t r c).basis n) f ∙ pivot-basis t r c)
    ∙ (pivot-other t r c i c e ∙ no_difference (t.entry i c *ℤ t.entry r c))
  where
    no_difference : (a : ℤ) → a -ℤ a ≡ pos 0
    no_difference a = omega (arith, ints)
other_after p t r c i k h v l m d (inr e) (inr f) =
    ap (λ (j : ℕ). (pivot t r c).entry i j) (pivot-other_basis t r c k f)
    ∙ (pivot-other t r c i (t.basis k) e
    ∙ both_zero _ _ (h.other i k l m d) (h.other r k (let n = v.row in omega arith) m (λ g. f (sym g))))
  where
    both_zero : (a b : ℤ) → a ≡ pos 0 → b ≡ pos 0 → a *ℤ t.entry r c -ℤ t.entry i c *ℤ b ≡ pos 0
    both_zero a b e f = omega (arith, ints, ap (λ (z : ℤ). z *ℤ t.entry r c) e, ap (λ (z : ℤ). t.entry i c *ℤ z) f)

-- a right side is at least 0 after the pivot
right_after : (p : LinearProgram) (t : Tableau) (r c i : ℕ) → IsTableauOf p t → IsPivot p t r c → i < p.rows → (i ≡ r) ⊎ (i ≢ r)
    → pos 0 ≤ℤ (pivot t r c).entry i (unknowns p)
right_after p t r c i h k l (inl e) =
    subst (λ (m : ℕ). pos 0 ≤ℤ (pivot t r c).entry m (unknowns p)) (sym e)
    (subst (λ (z : ℤ). pos 0 ≤ℤ z) (sym (pivot-row t r c (unknowns p))) (h.right r k.row))
right_after p t r c i h k l (inr d) =
    subst (λ (z : ℤ). pos 0 ≤ℤ z) (sym (pivot-other t r c i (unknowns p) d))
    (by_lt_z (pos 0) (t.entry i c)
    (λ above. least (t.entry i (unknowns p)) (t.entry r (unknowns p)) (t.entry r c) (t.entry i c) (k.least i l above))
    (λ below. lower (t.entry i (unknowns p)) (t.entry r (unknowns p)) (t.entry r c) (t.entry i c) (h.right i l) (h.right r k.row) k.positive below))
  where
    least : (a b e x : ℤ) → (b *ℤ x) ≤ℤ (a *ℤ e) → pos 0 ≤ℤ (a *ℤ e -ℤ x *ℤ b)
    least a b e x f = omega (arith, ints)

    lower : (a b e x : ℤ) → pos 0 ≤ℤ a → pos 0 ≤ℤ b → pos 0 <ℤ e → x ≤ℤ pos 0 → pos 0 ≤ℤ (a *ℤ e -ℤ x *ℤ b)
    lower a b e x f g v w =
        let one = mul-nonneg_ℤ a e f (omega (arith, ints)) in
        let two = mul-nonneg_ℤ (pos 0 -ℤ x) b (omega (arith, ints)) g in
        let three = identity (x ∷ b ∷ []) ((constant (pos 0) ⊖ variable 0) ⊗ variable 1) (constant (pos 0) ⊖ variable 0 ⊗ variable 1) refl in
        sum (a *ℤ e) (x *ℤ b) one (subst (λ (z : ℤ). pos 0 ≤ℤ z) three two)
      where
        sum : (v w : ℤ) → pos 0 ≤ℤ v → pos 0 ≤ℤ (pos 0 -ℤ w) → pos 0 ≤ℤ (v -ℤ w)
        sum v w a b = omega (arith, ints)

-- a row after the pivot is a sum of multiples of the equations
rows_after : (p : LinearProgram) (t : Tableau) (r c i j : ℕ) → IsTableauOf p t → IsPivot p t r c → i < p.rows → j < unknowns p → (i ≡ r) ⊎ (i ≢ r)
    → (pivot t r c).entry i j ≡ sum_to p.rows (λ k. (pivot t r c).entry i (artificial p k) *ℤ equation p k j)
rows_after p t r c i j h v l m (inl e) =
    subst (λ (n : ℕ). (pivot t r c).entry n j ≡ sum_to p.rows (λ k. (pivot t r c).entry n (artificial p k) *ℤ equation p k j)) (sym e)
    (pivot-row t r c j
    ∙ (h.rows_are r j v.row m
    ∙ sum_to-same p.rows (λ k. t.entry r (artificial p k) *ℤ equation p k j) (λ k. (pivot t r c).entry r (artificial p k) *ℤ equation p k j)
    (λ k n. ap (λ (z : ℤ). z *ℤ equation p k j) (sym (pivot-row t r c (artificial p k))))))
rows_after p t r c i j h v l m (inr d) =
    pivot-other t r c i j d
    ∙ (combined _ _ _ _ (h.rows_are i j l m) (h.rows_are r j v.row m)
    ∙ (sym (sum_to-combine p.rows (λ k. t.entry i (artificial p k)) (λ k. t.entry r (artificial p k)) (λ k. equation p k j) (t.entry r c) (t.entry i c))
    ∙ sum_to-same p.rows (λ k. (t.entry i (artificial p k) *ℤ t.entry r c -ℤ t.entry i c *ℤ t.entry r (artificial p k)) *ℤ equation p k j)
    (λ k. (pivot t r c).entry i (artificial p k) *ℤ equation p k j)
    (λ k n. ap (λ (z : ℤ). z *ℤ equation p k j) (sym (pivot-other t r c i (artificial p k) d)))))
  where
    combined : (a b v w : ℤ) → a ≡ v → b ≡ w → a *ℤ t.entry r c -ℤ t.entry i c *ℤ b ≡ v *ℤ t.entry r c -ℤ t.entry i c *ℤ w
    combined a b v w e f = ap (λ (z : ℤ). z *ℤ t.entry r c -ℤ t.entry i c *ℤ b) e ∙ ap (λ (z : ℤ). v *ℤ t.entry r c -ℤ t.entry i c *ℤ z) f

-- a cost row's multipliers after the pivot
weight_after : (p : LinearProgram) (t : Tableau) (r c q k : ℕ) → r < p.rows
    → weight p (pivot t r c) q k ≡ weight p t q k *ℤ t.entry r c -ℤ t.entry (cost_row p q) c *ℤ t.entry r (artificial p k)
weight_after p t r c q k l =
    let apart : cost_row p q ≢ r = omega arith in
    ap (λ (z : ℤ). z -ℤ (pivot t r c).scale (cost_row p q) *ℤ cost p q (artificial p k)) (pivot-other t r c (cost_row p q) (artificial p k) apart)
    ∙ (ap (λ (z : ℤ). (t.entry (cost_row p q) (artificial p k) *ℤ t.entry r c -ℤ t.entry (cost_row p q) c *ℤ t.entry r (artificial p k)) -ℤ z *ℤ cost p q (artificial p k))
    (pivot-other_scale t r c (cost_row p q) apart)
    ∙ regroup (t.entry (cost_row p q) (artificial p k)) (t.entry r c) (t.entry (cost_row p q) c) (t.entry r (artificial p k)) (t.scale (cost_row p q)) (cost p q (artificial p k)))
  where
    regroup : (a e x b s o : ℤ) → (a *ℤ e -ℤ x *ℤ b) -ℤ (s *ℤ e) *ℤ o ≡ (a -ℤ s *ℤ o) *ℤ e -ℤ x *ℤ b
    regroup a e x b s o = identity (a ∷ e ∷ x ∷ b ∷ s ∷ o ∷ [])
        ((variable 0 ⊗ variable 1 ⊖ variable 2 ⊗ variable 3) ⊖ (variable 4 ⊗ variable 1) ⊗ variable 5)
        ((variable 0 ⊖ variable 4 ⊗ variable 5) ⊗ variable 1 ⊖ variable 2 ⊗ variable 3) refl

-- a cost row after the pivot is its costs plus a sum of multiples of the equations
costs_after : (p : LinearProgram) (t : Tableau) (r c q j : ℕ) → IsTableauOf p t → IsPivot p t r c → q < 3 → j < unknowns p
    → (pivot t r c).entry (cost_row p q) j
    ≡ (pivot t r c).scale (cost_row p q) *ℤ cost p q j +ℤ sum_to p.rows (λ k. weight p (pivot t r c) q k *ℤ equation p k j)
costs_after p t r c q j h v l m =
    let apart : cost_row p q ≢ r = let n = v.row in omega arith in
    pivot-other t r c (cost_row p q) j apart
    ∙ (combined (t.entry (cost_row p q) j) (t.entry r j) (t.entry r c) (t.entry (cost_row p q) c) (t.scale (cost_row p q)) (cost p q j) _ _ (h.costs_are q j l m) (h.rows_are r j v.row m)
    ∙ parts _ _ _ _ (sym (pivot-other_scale t r c (cost_row p q) apart))
    (sym (sum_to-combine p.rows (λ k. weight p t q k) (λ k. t.entry r (artificial p k)) (λ k. equation p k j) (t.entry r c) (t.entry (cost_row p q) c))
    ∙ sum_to-same p.rows (λ k. (weight p t q k *ℤ t.entry r c -ℤ t.entry (cost_row p q) c *ℤ t.entry r (artificial p k)) *ℤ equation p k j)
    (λ k. weight p (pivot t r c) q k *ℤ equation p k j)
    (λ k n. ap (λ (z : ℤ). z *ℤ equation p k j) (sym (weight_after p t r c q k v.row)))))
  where
    combined : (a b e x s o v w : ℤ) → a ≡ s *ℤ o +ℤ v → b ≡ w → a *ℤ e -ℤ x *ℤ b ≡ (s *ℤ e) *ℤ o +ℤ (v *ℤ e -ℤ x *ℤ w)
    combined a b e x s o v w f g =
        ap (λ (z : ℤ). z *ℤ e -ℤ x *ℤ b) f
        ∙ (ap (λ (z : ℤ). (s *ℤ o +ℤ v) *ℤ e -ℤ x *ℤ z) g
        ∙ identity (e ∷ x ∷ s ∷ o ∷ v ∷ w ∷ [])
        ((variable 2 ⊗ variable 3 ⊕ variable 4) ⊗ variable 0 ⊖ variable 1 ⊗ variable 5)
        ((variable 2 ⊗ variable 0) ⊗ variable 3 ⊕ (variable 4 ⊗ variable 0 ⊖ variable 1 ⊗ variable 5)) refl)

    parts : (s s' y y' : ℤ) → s ≡ s' → y ≡ y' → s *ℤ cost p q j +ℤ y ≡ s' *ℤ cost p q j +ℤ y'
    parts s s' y y' e f = ap (λ (z : ℤ). z *ℤ cost p q j +ℤ y) e ∙ ap (λ (z : ℤ). s' *ℤ cost p q j +ℤ z) f

-- each solution of the rows after the pivot solves the rows before it
rows_before : (p : LinearProgram) (t : Tableau) (r c : ℕ) (x : ℕ → ℤ) (d : ℤ) → IsPivot p t r c → SolvesRows p (pivot t r c) x d → SolvesRows p t x d
rows_before p t r c x d v h i l = go (same_or_other i r)
  where
    at_row : dot (unknowns p) (t.entry r) x ≡ t.entry r (unknowns p) *ℤ d
    at_row =
        sum_to-same (unknowns p) (λ j. t.entry r j *ℤ x j) (λ j. (pivot t r c).entry r j *ℤ x j) (λ j _. ap (λ (z : ℤ). z *ℤ x j) (sym (pivot-row t r c j)))
        ∙ (h r v.row ∙ ap (λ (z : ℤ). z *ℤ d) (pivot-row t r c (unknowns p)))

    go : (i ≡ r) ⊎ (i ≢ r) → dot (unknowns p) (t.entry i) x ≡ t.entry i (unknowns p) *ℤ d
    go (inl e) = subst (λ (k : ℕ). dot (unknowns p) (t.entry k) x ≡ t.entry k (unknowns p) *ℤ d) (sym e) at_row
    go (inr a) =
        mul-cancel_ℤ (t.entry r c) _ _ v.positive
        (clear (t.entry r c) (t.entry i c) _ _ _ _ d at_row
        (sym (sum_to-combine (unknowns p) (t.entry i) (t.entry r) x (t.entry r c) (t.entry i c))
        ∙ (sum_to-same (unknowns p) (λ j. (t.entry i j *ℤ t.entry r c -ℤ t.entry i c *ℤ t.entry r j) *ℤ x j) (λ j. (pivot t r c).entry i j *ℤ x j)
        (λ j _. ap (λ (z : ℤ). z *ℤ x j) (sym (pivot-other t r c i j a)))
        ∙ (h i l ∙ ap (λ (z : ℤ). z *ℤ d) (pivot-other t r c i (unknowns p) a)))))
      where
        clear : (e y a b f g d : ℤ) → b ≡ g *ℤ d → a *ℤ e -ℤ y *ℤ b ≡ (f *ℤ e -ℤ y *ℤ g) *ℤ d → e *ℤ a ≡ e *ℤ (f *ℤ d)
        clear e y a b f g d m n =
            identity_by_two (e ∷ y ∷ a ∷ b ∷ f ∷ g ∷ d ∷ [])
            (variable 0 ⊗ variable 2) (variable 0 ⊗ (variable 4 ⊗ variable 6))
            (variable 1) (variable 3) (variable 5 ⊗ variable 6)
            (constant (pos 1)) (variable 2 ⊗ variable 0 ⊖ variable 1 ⊗ variable 3) ((variable 4 ⊗ variable 0 ⊖ variable 1 ⊗ variable 5) ⊗ variable 6)
            m n refl

-- a pivot leads to a tableau of the program
pub pivot-is_tableau : (p : LinearProgram) (t : Tableau) (r c : ℕ) → IsTableauOf p t → IsPivot p t r c → IsTableauOf p (pivot t r c)
pivot-is_tableau p t r c h v = record {
  positive = λ i l. positive_after p t r c i h v l (same_or_other i r);
  basic = λ i l. basic_after p t r c i h v l (same_or_other i r);
  own = λ i l. own_after p t r c i h v l (same_or_other i r);
  other = λ i k l m d. other_after p t r c i k h v l m d (same_or_other i r) (same_or_other k r);
  right = λ i l. right_after p t r c i h v l (same_or_other i r);
  rows_are = λ i j l m. rows_after p t r c i j h v l m (same_or_other i r);
  costs_are = λ q j l m. costs_after p t r c q j h v l m;
  back = λ x d s. h.back x d (rows_before p t r c x d v s);
}
