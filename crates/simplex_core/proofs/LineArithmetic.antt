-- Sums of fractions within the limit, as a pivot computes them from lines.
use Rattle.std.proofs.Common.{◌≡◌, ℕ, ◌<◌, ap, arith, refl, sym, ◌∙◌, subst, inl, inr, [], ◌∷◌, Ok, Err}
use Rattle.std.specs.Prelude.{ℤ, pos, ◌+ℤ◌, ◌-ℤ◌, ◌*ℤ◌, ◌<ℤ◌, ◌^◌, unsigned_abs, List, Result, MatchResult, IfOk, IfErr}
use Rattle.std.proofs.lemmas.Int.{ints}
use Rattle.frac128.specs.declared.frac.Frac.{Frac}
use Rattle.frac128.specs.Fraction.{IsFraction}
use Rattle.frac128.specs.Narrow.{IsNarrow}
use Rattle.frac128.specs.Zero.{zero, zero-num, zero-den}
use Rattle.int_laws.specs.Polynomial.{variable, constant, ◌⊕◌, ◌⊖◌, ◌⊗◌}
use Rattle.int_laws.proofs.Identities.{identity_by_one}
use Rattle.int_laws.proofs.OrderLaws.{mul-cancel_ℤ, mul-positive_ℤ}
use Rattle.std.specs.declared.alloc.AllocError.{AllocError}
use Rattle.sparse_rows.specs.declared.row.SparseError.{SparseError}
use Rattle.sparse_rows.specs.declared.row.SparseError.TheVariants.{Range, Memory}
use Rattle.sparse_rows.specs.Entries.{IsPlusMultiple, IsBeyond}
use Rattle.sparse_rows.specs.Rows.{fraction_at}
use Rattle.sparse_rows.specs.Multiples.{IsRowPlusMultiple, IsRefusal}
use Rattle.simplex_core.specs.Lines.{IsBounded, IsLineBelow, IsLineDivided}
use Rattle.simplex_core.specs.Sizes.{IsBelow}
use Rattle.simplex_core.specs.Cells.{IsLessMultiple}
use Rattle.simplex_core.proofs.FractionSizes.{product-below, fraction-below}

-- 0 is below the limit
pub zero-below : (bits : ℕ) → 1 < 2 ^ bits → IsBelow bits zero
zero-below bits l = record {
  num = subst (λ (z : ℤ). unsigned_abs z < 2 ^ bits) (sym zero-num) (omega arith);
  den = subst (λ (z : ℤ). unsigned_abs z < 2 ^ bits) (sym zero-den) (omega arith);
}

-- if the numbers of a product are below 2^93, neither it nor its sum with a number below 2^31 exceeds 127 bits
pub none-beyond : (here by there : Frac) → IsBelow 31 here → unsigned_abs (by.num *ℤ there.num) < 2 ^ 93 → unsigned_abs (by.den *ℤ there.den) < 2 ^ 93
    → IsBeyond here by there → ⊥
none-beyond here by there small over under (inl wide) = wide (omega arith, (omega arith, tt))
none-beyond here by there small over under (inr (p, is, wide)) =
    wide (first, (second, (sum (here.num *ℤ p.den) (p.num *ℤ here.den) first_small second_small, (omega (arith, product-below here.den p.den (2 ^ 31) (2 ^ 93) small.den parts.1), tt))))
  where
    parts : (unsigned_abs p.num < 2 ^ 93) × (unsigned_abs p.den < 2 ^ 93)
    parts = fraction-below p.num p.den (by.num *ℤ there.num) (by.den *ℤ there.den) (2 ^ 93) p.lowest (mul-positive_ℤ by.den there.den by.positive there.positive) is over under

    first_small : unsigned_abs (here.num *ℤ p.den) < 2 ^ 124
    first_small = product-below here.num p.den (2 ^ 31) (2 ^ 93) small.num parts.1

    second_small : unsigned_abs (p.num *ℤ here.den) < 2 ^ 124
    second_small = product-below p.num here.den (2 ^ 93) (2 ^ 31) parts.0 small.den

    first : IsNarrow (here.num *ℤ p.den)
    first = omega (arith, first_small)

    second : IsNarrow (p.num *ℤ here.den)
    second = omega (arith, second_small)

    sum : (a b : ℤ) → unsigned_abs a < 2 ^ 124 → unsigned_abs b < 2 ^ 124 → IsNarrow (a +ℤ b)
    sum a b l m = omega (arith, ints, l, m)

-- m/e is 0 plus i/k times n/d, where i/k is c/b: hence m/e = (n/d) / (b/c)
divide-shows : (m e n d b c i k z o : ℤ) → z ≡ pos 0 → o ≡ pos 1 → pos 0 <ℤ k → i *ℤ b ≡ c *ℤ k
    → m *ℤ (o *ℤ (k *ℤ d)) ≡ (z *ℤ (k *ℤ d) +ℤ (i *ℤ n) *ℤ o) *ℤ e → m *ℤ (d *ℤ b) ≡ (n *ℤ c) *ℤ e
divide-shows m e n d b c i k z o none one positive inverse value =
    mul-cancel_ℤ k (m *ℤ (d *ℤ b)) ((n *ℤ c) *ℤ e) positive
    (identity_by_one (m ∷ e ∷ n ∷ d ∷ b ∷ i ∷ k ∷ [])
    (variable 6 ⊗ (variable 0 ⊗ (variable 3 ⊗ variable 4)))
    (variable 4 ⊗ ((constant (pos 0) ⊗ (variable 6 ⊗ variable 3) ⊕ (variable 5 ⊗ variable 2) ⊗ constant (pos 1)) ⊗ variable 1))
    (variable 4) (variable 0 ⊗ (constant (pos 1) ⊗ (variable 6 ⊗ variable 3)))
    ((constant (pos 0) ⊗ (variable 6 ⊗ variable 3) ⊕ (variable 5 ⊗ variable 2) ⊗ constant (pos 1)) ⊗ variable 1) plain refl
    ∙ identity_by_one (e ∷ n ∷ d ∷ b ∷ c ∷ i ∷ k ∷ [])
    (variable 3 ⊗ ((constant (pos 0) ⊗ (variable 6 ⊗ variable 2) ⊕ (variable 5 ⊗ variable 1) ⊗ constant (pos 1)) ⊗ variable 0))
    (variable 6 ⊗ ((variable 1 ⊗ variable 4) ⊗ variable 0))
    (variable 1 ⊗ variable 0) (variable 5 ⊗ variable 3) (variable 4 ⊗ variable 6) inverse refl)
  where
    plain : m *ℤ (pos 1 *ℤ (k *ℤ d)) ≡ (pos 0 *ℤ (k *ℤ d) +ℤ (i *ℤ n) *ℤ pos 1) *ℤ e
    plain =
        subst (λ (x : ℤ). m *ℤ (pos 1 *ℤ (k *ℤ d)) ≡ (x *ℤ (k *ℤ d) +ℤ (i *ℤ n) *ℤ pos 1) *ℤ e) none
        (subst (λ (y : ℤ). m *ℤ (y *ℤ (k *ℤ d)) ≡ (z *ℤ (k *ℤ d) +ℤ (i *ℤ n) *ℤ y) *ℤ e) one value)

-- multiplying by the inverse of a number is dividing by it
pub divided-is : (by inverse f made : Frac) → inverse.num *ℤ by.num ≡ by.den *ℤ inverse.den → IsPlusMultiple zero inverse f made
    → IsFraction made (f.num *ℤ by.den) (f.den *ℤ by.num)
divided-is by inverse f made inverted value =
    divide-shows made.num made.den f.num f.den by.num by.den inverse.num inverse.den zero.num zero.den zero-num zero-den inverse.positive inverted value

-- a quotient of numbers below 2^31 is below 2^62
pub divided-below : (by f made : Frac) → IsBelow 31 by → IsBelow 31 f → pos 0 <ℤ by.num → IsFraction made (f.num *ℤ by.den) (f.den *ℤ by.num)
    → IsBelow 62 made
divided-below by f made by_small f_small positive is =
    let parts = fraction-below made.num made.den (f.num *ℤ by.den) (f.den *ℤ by.num) (2 ^ 62) made.lowest (mul-positive_ℤ f.den by.num f.positive positive) is
    (product-below f.num by.den (2 ^ 31) (2 ^ 31) f_small.num by_small.den) (product-below f.den by.num (2 ^ 31) (2 ^ 31) f_small.den by_small.num) in
    record { num = parts.0; den = parts.1 }

-- the computed inverse is the one of the formula
pub inverse-is : (by inverse one : Frac) → one.num ≡ pos 1 → one.den ≡ pos 1 → IsFraction inverse (one.num *ℤ by.den) (one.den *ℤ by.num)
    → inverse.num *ℤ by.num ≡ by.den *ℤ inverse.den
inverse-is by inverse one n d is =
    from inverse.num by.num by.den inverse.den
    (subst (λ (x : ℤ). inverse.num *ℤ (pos 1 *ℤ by.num) ≡ (x *ℤ by.den) *ℤ inverse.den) n
    (subst (λ (y : ℤ). inverse.num *ℤ (y *ℤ by.num) ≡ (one.num *ℤ by.den) *ℤ inverse.den) d is))
  where
    from : (i b c k : ℤ) → i *ℤ (pos 1 *ℤ b) ≡ (pos 1 *ℤ c) *ℤ k → i *ℤ b ≡ c *ℤ k
    from i b c k e =
        identity_by_one (i ∷ b ∷ c ∷ k ∷ []) (variable 0 ⊗ variable 1) (variable 2 ⊗ variable 3) (constant (pos 1))
        (variable 0 ⊗ (constant (pos 1) ⊗ variable 1)) ((constant (pos 1) ⊗ variable 2) ⊗ variable 3) e refl

-- m/e is h/k plus i/j times t/u, where i/j is 0 less f/g: hence m/e = h/k - f/g * t/u
clear-shows : (m e h k i j t u f g : ℤ) → pos 0 <ℤ j → i *ℤ g ≡ (pos 0 -ℤ f) *ℤ j
    → m *ℤ (k *ℤ (j *ℤ u)) ≡ (h *ℤ (j *ℤ u) +ℤ (i *ℤ t) *ℤ k) *ℤ e
    → m *ℤ ((k *ℤ g) *ℤ u) ≡ ((h *ℤ g) *ℤ u -ℤ (f *ℤ t) *ℤ k) *ℤ e
clear-shows m e h k i j t u f g positive opposite value =
    mul-cancel_ℤ j (m *ℤ ((k *ℤ g) *ℤ u)) (((h *ℤ g) *ℤ u -ℤ (f *ℤ t) *ℤ k) *ℤ e) positive
    (identity_by_one (m ∷ e ∷ h ∷ k ∷ i ∷ j ∷ t ∷ u ∷ g ∷ [])
    (variable 5 ⊗ (variable 0 ⊗ ((variable 3 ⊗ variable 8) ⊗ variable 7)))
    (variable 8 ⊗ ((variable 2 ⊗ (variable 5 ⊗ variable 7) ⊕ (variable 4 ⊗ variable 6) ⊗ variable 3) ⊗ variable 1))
    (variable 8) (variable 0 ⊗ (variable 3 ⊗ (variable 5 ⊗ variable 7)))
    ((variable 2 ⊗ (variable 5 ⊗ variable 7) ⊕ (variable 4 ⊗ variable 6) ⊗ variable 3) ⊗ variable 1) value refl
    ∙ identity_by_one (e ∷ h ∷ k ∷ i ∷ j ∷ t ∷ u ∷ f ∷ g ∷ [])
    (variable 8 ⊗ ((variable 1 ⊗ (variable 4 ⊗ variable 6) ⊕ (variable 3 ⊗ variable 5) ⊗ variable 2) ⊗ variable 0))
    (variable 4 ⊗ (((variable 1 ⊗ variable 8) ⊗ variable 6 ⊖ (variable 7 ⊗ variable 5) ⊗ variable 2) ⊗ variable 0))
    (variable 5 ⊗ variable 2 ⊗ variable 0) (variable 3 ⊗ variable 8) ((constant (pos 0) ⊖ variable 7) ⊗ variable 4) opposite refl)

-- adding a multiple by the negated factor is subtracting the multiple by the factor
pub cleared-is : (here factor by there made : Frac) → by.num *ℤ factor.den ≡ (pos 0 -ℤ factor.num) *ℤ by.den → IsPlusMultiple here by there made
    → IsLessMultiple here factor there made
cleared-is here factor by there made opposite value =
    clear-shows made.num made.den here.num here.den by.num by.den there.num there.den factor.num factor.den by.positive opposite value

-- the computed negation is the one of the formula
pub opposite-is : (factor by none : Frac) → none.num ≡ pos 0 → none.den ≡ pos 1
    → IsFraction by (none.num *ℤ factor.den -ℤ factor.num *ℤ none.den) (none.den *ℤ factor.den)
    → by.num *ℤ factor.den ≡ (pos 0 -ℤ factor.num) *ℤ by.den
opposite-is factor by none n d is =
    from by.num factor.den factor.num by.den
    (subst (λ (x : ℤ). by.num *ℤ (pos 1 *ℤ factor.den) ≡ (x *ℤ factor.den -ℤ factor.num *ℤ pos 1) *ℤ by.den) n
    (subst (λ (y : ℤ). by.num *ℤ (y *ℤ factor.den) ≡ (none.num *ℤ factor.den -ℤ factor.num *ℤ y) *ℤ by.den) d is))
  where
    from : (i g f j : ℤ) → i *ℤ (pos 1 *ℤ g) ≡ (pos 0 *ℤ g -ℤ f *ℤ pos 1) *ℤ j → i *ℤ g ≡ (pos 0 -ℤ f) *ℤ j
    from i g f j e =
        identity_by_one (i ∷ g ∷ f ∷ j ∷ []) (variable 0 ⊗ variable 1) ((constant (pos 0) ⊖ variable 2) ⊗ variable 3) (constant (pos 1))
        (variable 0 ⊗ (constant (pos 1) ⊗ variable 1)) ((constant (pos 0) ⊗ variable 1 ⊖ variable 2 ⊗ constant (pos 1)) ⊗ variable 3) e refl

-- the negation of a number below 2^31 is below 2^31
pub opposite-below : (factor by : Frac) → IsBelow 31 factor → by.num *ℤ factor.den ≡ (pos 0 -ℤ factor.num) *ℤ by.den → IsBelow 31 by
opposite-below factor by small is =
    let parts = fraction-below by.num by.den (pos 0 -ℤ factor.num) factor.den (2 ^ 31) by.lowest factor.positive is (size factor.num small.num) small.den in
    record { num = parts.0; den = parts.1 }
  where
    size : (z : ℤ) → unsigned_abs z < 2 ^ 31 → unsigned_abs (pos 0 -ℤ z) < 2 ^ 31
    size z l = omega (arith, ints, l)

-- a sum of rows in which no number exceeds 127 bits fails only if memory runs out
pub no-range : (here : List (ℕ × Frac)) (by : Frac) (there : List (ℕ × Frac)) (sum : Result (List (ℕ × Frac)) SparseError)
    → MatchResult sum (IsRowPlusMultiple here by there) (IsRefusal here by there)
    → ((j : ℕ) → IsBeyond (fraction_at here j) by (fraction_at there j) → ⊥) → IfErr sum (λ e. e ≡ Memory)
no-range here by there (Ok row) says none = tt
no-range here by there (Err (Range col)) says none = absurd (none col says.beyond)
no-range here by there (Err Memory) says none = refl

-- the line that a sum of rows gives is the sum
pub summed : (here : List (ℕ × Frac)) (by : Frac) (there : List (ℕ × Frac)) (sum : Result (List (ℕ × Frac)) SparseError)
    (line : List (ℕ × Frac)) → MatchResult sum (IsRowPlusMultiple here by there) (IsRefusal here by there) → sum ≡ Ok line
    → IsRowPlusMultiple here by there line
summed here by there sum line says is =
    subst (λ (s : Result (List (ℕ × Frac)) SparseError). MatchResult s (IsRowPlusMultiple here by there) (IsRefusal here by there)) is says

-- a consequence of what is known of a resulting line holds of it
pub where-ok : (P Q : List (ℕ × Frac) → Type 0) (result : Result (List (ℕ × Frac)) AllocError) → ((line : List (ℕ × Frac)) → P line → Q line)
    → IfOk result P → IfOk result Q
where-ok P Q (Ok line) follows h = follows line h
where-ok P Q (Err e) follows h = tt

module _ (zeros line : List (ℕ × Frac)) (by inverse one : Frac) (empty : zeros ≡ []) (n : one.num ≡ pos 1) (d : one.den ≡ pos 1)
    (is : IsFraction inverse (one.num *ℤ by.den) (one.den *ℤ by.num)) (small : IsLineBelow 31 line) (by_small : IsBelow 31 by)
    (inverse_small : IsBelow 62 inverse) (positive : pos 0 <ℤ by.num) where
  -- a row of zeros is 0 at each column
  zero_at : (j : ℕ) → fraction_at zeros j ≡ zero
  zero_at j = ap (λ (xs : List (ℕ × Frac)). fraction_at xs j) empty

  -- when a line is divided, no number exceeds 127 bits
  pub divide-within : (j : ℕ) → IsBeyond (fraction_at zeros j) inverse (fraction_at line j) → ⊥
  divide-within j =
      none-beyond (fraction_at zeros j) inverse (fraction_at line j)
      (subst (λ (f : Frac). IsBelow 31 f) (sym (zero_at j)) (zero-below 31 (omega arith)))
      (product-below inverse.num (fraction_at line j).num (2 ^ 62) (2 ^ 31) inverse_small.num (small.each j).num)
      (product-below inverse.den (fraction_at line j).den (2 ^ 62) (2 ^ 31) inverse_small.den (small.each j).den)

  -- the multiple of a line by the inverse is the line divided
  pub line-divided : (new : List (ℕ × Frac)) → IsRowPlusMultiple zeros inverse line new → IsLineDivided line by new
  line-divided new sum = record {
    each = λ j.
        divided-is by inverse (fraction_at line j) (fraction_at new j) (inverse-is by inverse one n d is)
        (subst (λ (f : Frac). IsPlusMultiple f inverse (fraction_at line j) (fraction_at new j)) (zero_at j) (sum.value j));
  }

  -- a divided line is below 2^62
  pub line-divided-below : (new : List (ℕ × Frac)) → IsRowPlusMultiple zeros inverse line new → IsLineBelow 62 new
  line-divided-below new sum = record {
    each = λ j. divided-below by (fraction_at line j) (fraction_at new j) by_small (small.each j) positive ((line-divided new sum).each j);
  }

module _ (line other : List (ℕ × Frac)) (factor by none : Frac) (n : none.num ≡ pos 0) (d : none.den ≡ pos 1)
    (is : IsFraction by (none.num *ℤ factor.den -ℤ factor.num *ℤ none.den) (none.den *ℤ factor.den)) (small : IsLineBelow 31 line)
    (factor_small : IsBelow 31 factor) (bounded : IsLineBelow 62 other) where
  -- the negated factor is below 2^31
  by_small : IsBelow 31 by
  by_small = opposite-below factor by factor_small (opposite-is factor by none n d is)

  -- when a line is cleared, no number exceeds 127 bits
  pub clear-within : (j : ℕ) → IsBeyond (fraction_at line j) by (fraction_at other j) → ⊥
  clear-within j =
      none-beyond (fraction_at line j) by (fraction_at other j) (small.each j)
      (product-below by.num (fraction_at other j).num (2 ^ 31) (2 ^ 62) by_small.num (bounded.each j).num)
      (product-below by.den (fraction_at other j).den (2 ^ 31) (2 ^ 62) by_small.den (bounded.each j).den)

  -- adding the multiple by the negated factor clears the line
  pub line-cleared : (new : List (ℕ × Frac)) → IsRowPlusMultiple line by other new
      → (j : ℕ) → IsLessMultiple (fraction_at line j) factor (fraction_at other j) (fraction_at new j)
  line-cleared new sum j =
      cleared-is (fraction_at line j) factor by (fraction_at other j) (fraction_at new j) (opposite-is factor by none n d is) (sum.value j)

-- 0 less a multiple of 0 is 0
zero-cleared : (m e h k t u f g : ℤ) → h ≡ pos 0 → t ≡ pos 0 → pos 0 <ℤ k → pos 0 <ℤ g → pos 0 <ℤ u
    → m *ℤ ((k *ℤ g) *ℤ u) ≡ ((h *ℤ g) *ℤ u -ℤ (f *ℤ t) *ℤ k) *ℤ e → m ≡ pos 0
zero-cleared m e h k t u f g h_none t_none pk pg pu value =
    mul-cancel_ℤ ((k *ℤ g) *ℤ u) m (pos 0) (mul-positive_ℤ (k *ℤ g) u (mul-positive_ℤ k g pk pg) pu)
    (identity_by_one (m ∷ e ∷ k ∷ u ∷ f ∷ g ∷ []) (((variable 2 ⊗ variable 5) ⊗ variable 3) ⊗ variable 0)
    (((variable 2 ⊗ variable 5) ⊗ variable 3) ⊗ constant (pos 0)) (constant (pos 1)) (variable 0 ⊗ ((variable 2 ⊗ variable 5) ⊗ variable 3))
    (((constant (pos 0) ⊗ variable 5) ⊗ variable 3 ⊖ (variable 4 ⊗ constant (pos 0)) ⊗ variable 2) ⊗ variable 1)
    (subst (λ (x : ℤ). m *ℤ ((k *ℤ g) *ℤ u) ≡ ((pos 0 *ℤ g) *ℤ u -ℤ (f *ℤ x) *ℤ k) *ℤ e) t_none
    (subst (λ (x : ℤ). m *ℤ ((k *ℤ g) *ℤ u) ≡ ((x *ℤ g) *ℤ u -ℤ (f *ℤ t) *ℤ k) *ℤ e) h_none value)) refl)

-- from where a line and another one are 0, the line less a multiple of the other is 0
pub cleared-bounded : (line other new : List (ℕ × Frac)) (factor : Frac) (m : ℕ) → IsBounded line m → IsBounded other m
    → ((j : ℕ) → IsLessMultiple (fraction_at line j) factor (fraction_at other j) (fraction_at new j)) → IsBounded new m
cleared-bounded line other new factor m a b value = record {
  each = λ j l.
      let f = fraction_at line j in
      let t = fraction_at other j in
      let g = fraction_at new j in
      zero-cleared g.num g.den f.num f.den t.num t.den factor.num factor.den (a.each j l) (b.each j l) f.positive factor.positive t.positive (value j);
}

-- 0 divided by a number is 0
zero-divided : (m e n d b c : ℤ) → n ≡ pos 0 → pos 0 <ℤ d → pos 0 <ℤ b → m *ℤ (d *ℤ b) ≡ (n *ℤ c) *ℤ e → m ≡ pos 0
zero-divided m e n d b c none pd pb value =
    mul-cancel_ℤ (d *ℤ b) m (pos 0) (mul-positive_ℤ d b pd pb)
    (identity_by_one (m ∷ e ∷ d ∷ b ∷ c ∷ []) ((variable 2 ⊗ variable 3) ⊗ variable 0) ((variable 2 ⊗ variable 3) ⊗ constant (pos 0))
    (constant (pos 1)) (variable 0 ⊗ (variable 2 ⊗ variable 3)) ((constant (pos 0) ⊗ variable 4) ⊗ variable 1)
    (subst (λ (x : ℤ). m *ℤ (d *ℤ b) ≡ (x *ℤ c) *ℤ e) none value) refl)

-- from where a line is 0, the divided line is 0
pub divided-bounded : (line new : List (ℕ × Frac)) (by : Frac) (m : ℕ) → IsBounded line m → pos 0 <ℤ by.num → IsLineDivided line by new → IsBounded new m
divided-bounded line new by m a positive divided = record {
  each = λ j l.
      let f = fraction_at line j in
      let g = fraction_at new j in
      zero-divided g.num g.den f.num f.den by.num by.den (a.each j l) f.positive positive (divided.each j);
}
