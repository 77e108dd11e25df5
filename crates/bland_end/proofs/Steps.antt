-- A step of the sequence: which cost row chooses its column, and what its pivot preserves.
use Rattle.std.proofs.Common.{◌≡◌, ◌≢◌, ℕ, ◌<◌, ◌≤◌, ap, arith, refl, sym, ◌∙◌, subst, ◌⊎◌, inl, inr}
use Rattle.std.proofs.Common.{Bool, true, false, Option, Some, None}
use Rattle.std.specs.Prelude.{ℤ, pos, ◌-ℤ◌, ◌*ℤ◌, ◌≤ℤ◌, ◌<ℤ◌, not, ◌&&◌}
use Rattle.std.proofs.lemmas.Int.{ints}
use Rattle.int_laws.specs.NormalForm.{is_zero}
use Rattle.int_laws.proofs.ZeroLaws.{is_zero-true}
use Rattle.int_laws.proofs.RingLaws.{zero-mul_ℤ, mul_comm_ℤ}
use Rattle.int_laws.proofs.OrderLaws.{mul-nonneg_ℤ, mul-cancel_ℤ}
use Rattle.linear_forms.specs.LinearProgram.{LinearProgram}
use Rattle.simplex_core.specs.Search.{or_else, least}
use Rattle.simplex_core.specs.Tableau.{Tableau, unknowns, cost_row, pivot}
use Rattle.simplex_core.specs.Bland.{may_enter, entering, goes_before, is_candidate, leaving, next}
use Rattle.simplex_core.proofs.Searches.{and-both, second_fails, every-each, each-every, least-found, least-none}
use Rattle.simplex_core.proofs.Searches.{least-before, last_or_before}
use Rattle.simplex_core.proofs.Regions.{pivot-row, pivot-other, pivot-basis, pivot-other_basis}
use Rattle.simplex_core.proofs.Invariant.{IsTableauOf, same_or_other}
use Rattle.simplex_core.proofs.Choices.{IsBefore, ratio, int_lt-true, int_lt-false, lt-int_lt, goes_before-false}
use Rattle.simplex_core.proofs.Choices.{candidate-positive, not-true}
use Rattle.simplex_core.proofs.SequenceLaws.{next-is}
use Rattle.bland_end.specs.Bases.{IsBasic}

-- the reduced costs of column j are 0 in the cost rows before row q
abbrev pub AreZeroBefore : LinearProgram → Tableau → ℕ → ℕ → Type 0
AreZeroBefore p t q j = (l : ℕ) → l < q → t.entry (cost_row p l) j ≡ pos 0

-- no column may enter by cost row l
abbrev pub IsBlocked : LinearProgram → Tableau → ℕ → Type 0
IsBlocked p t l = (j : ℕ) → j < p.columns → AreZeroBefore p t l j → pos 0 ≤ℤ t.entry (cost_row p l) j

-- a row that is solved for column j has the right side 0
abbrev pub HasZeroSide : LinearProgram → Tableau → ℕ → Type 0
HasZeroSide p t j = (i : ℕ) → i < p.rows → t.basis i ≡ j → t.entry i (unknowns p) ≡ pos 0

-- a step: cost row q chooses column c, and row r leaves
pub record Step (p : LinearProgram) (t : Tableau) (c r q : ℕ) : Type 0 where
  pub column : c < p.columns
  pub row : r < p.rows
  pub few : q < 3
  pub positive : pos 0 <ℤ t.entry r c
  pub negative : t.entry (cost_row p q) c <ℤ pos 0
  pub before : AreZeroBefore p t q c
  pub blocked : (l : ℕ) → l < q → IsBlocked p t l
  pub least : (j : ℕ) → j < c → AreZeroBefore p t q j → pos 0 ≤ℤ t.entry (cost_row p q) j
  pub best : (i : ℕ) → i < p.rows → pos 0 <ℤ t.entry i c → ¬ IsBefore (ratio p t c i) (ratio p t c r)

-- a column that may enter has a negative reduced cost, and 0 in the earlier cost rows
may_enter-true : (p : LinearProgram) (t : Tableau) (q j : ℕ) → may_enter p t q j ≡ true
    → (t.entry (cost_row p q) j <ℤ pos 0) × AreZeroBefore p t q j
may_enter-true p t q j h =
    let parts = and-both _ _ h in
    (int_lt-true _ _ parts.0, λ l m. is_zero-true _ (every-each q (λ k. is_zero (t.entry (cost_row p k) j)) parts.1 l m))

-- a column that may not enter, although its earlier costs are 0, has no negative reduced cost
may_enter-false : (p : LinearProgram) (t : Tableau) (q j : ℕ) → may_enter p t q j ≡ false → AreZeroBefore p t q j
    → pos 0 ≤ℤ t.entry (cost_row p q) j
may_enter-false p t q j h zeros =
    int_lt-false _ _ (first_fails _ _ h (each-every q (λ k. is_zero (t.entry (cost_row p k) j)) (λ l m. ap is_zero (zeros l m))))
  where
    first_fails : (a b : Bool) → (a && b) ≡ false → b ≡ true → a ≡ false
    first_fails true true e f = e
    first_fails true false e f = cc
    first_fails false b e f = refl

-- the number of the first of three cost rows that has a column
abbrev pub first_there : Option ℕ → Option ℕ → ℕ
first_there (Some j) b = 0
first_there None (Some j) = 1
first_there None None = 2

-- the cost row that chooses the entering column
abbrev pub chooser_of : LinearProgram → Tableau → ℕ
chooser_of p t = first_there (least p.columns (may_enter p t 0)) (least p.columns (may_enter p t 1))

-- cost row q is the first one that has a column, and c is its least one
record IsChosen (p : LinearProgram) (t : Tableau) (c q : ℕ) : Type 0 where
  few : q < 3
  there : least p.columns (may_enter p t q) ≡ Some c
  none : (l : ℕ) → l < q → least p.columns (may_enter p t l) ≡ None

-- the entering column is chosen by the first cost row that has one
entering-chosen : (p : LinearProgram) (t : Tableau) (c : ℕ) → entering p t ≡ Some c → IsChosen p t c (chooser_of p t)
entering-chosen p t c h = go (least p.columns (may_enter p t 0)) (least p.columns (may_enter p t 1)) refl refl h
  where
    at_zero : (l : ℕ) → l < 1 → least p.columns (may_enter p t 0) ≡ None → least p.columns (may_enter p t l) ≡ None
    at_zero l m e = let z : 0 ≡ l = omega arith in subst (λ (k : ℕ). least p.columns (may_enter p t k) ≡ None) z e

    at_one : (l : ℕ) → (l ≡ 1) ⊎ (l < 1) → least p.columns (may_enter p t 0) ≡ None → least p.columns (may_enter p t 1) ≡ None
        → least p.columns (may_enter p t l) ≡ None
    at_one l (inl z) e f = subst (λ (k : ℕ). least p.columns (may_enter p t k) ≡ None) (sym z) f
    at_one l (inr m) e f = at_zero l m e

    go : (a b : Option ℕ) → least p.columns (may_enter p t 0) ≡ a → least p.columns (may_enter p t 1) ≡ b
        → or_else a (or_else b (least p.columns (may_enter p t 2))) ≡ Some c → IsChosen p t c (first_there a b)
    go (Some j) b ea eb e = record { few = omega arith; there = ea ∙ e; none = λ l m. absurd (omega arith) }
    go None (Some j) ea eb e = record { few = omega arith; there = eb ∙ e; none = λ l m. at_zero l m ea }
    go None None ea eb e = record { few = omega arith; there = e; none = λ l m. at_one l (last_or_before 1 l m) ea eb }

-- the optional number, or 0
abbrev pub number_in : Option ℕ → ℕ
number_in None = 0
number_in (Some n) = n

-- the entering column, if there is one
abbrev pub column_of : LinearProgram → Tableau → ℕ
column_of p t = number_in (entering p t)

-- the leaving row, if there is one
abbrev pub row_of : LinearProgram → Tableau → ℕ
row_of p t = number_in (leaving p t (column_of p t))

-- an entering column and a leaving row make a step
chosen-step : (p : LinearProgram) (t : Tableau) (c r : ℕ) → entering p t ≡ Some c → leaving p t c ≡ Some r → Step p t c r (chooser_of p t)
chosen-step p t c r enters leaves =
    let chosen = entering-chosen p t c enters in
    let column = least-found p.columns (may_enter p t (chooser_of p t)) c chosen.there in
    let enter = may_enter-true p t (chooser_of p t) c column.1 in
    let row = least-found p.rows _ r leaves in
    let parts = and-both _ _ row.1 in
    record {
      column = column.0;
      row = row.0;
      few = chosen.few;
      positive = candidate-positive t c r parts.0;
      negative = enter.0;
      before = enter.1;
      blocked = λ l m j n. may_enter-false p t l j (least-none p.columns (may_enter p t l) (chosen.none l m) j n);
      least = λ j m. may_enter-false p t (chooser_of p t) j (least-before p.columns (may_enter p t (chooser_of p t)) c chosen.there j m);
      best = λ i m above.
          goes_before-false p t c i r
          (second_fails (is_candidate t c i) (goes_before p t c i r)
          (not-true _ (every-each p.rows (λ k. not (is_candidate t c k && goes_before p t c k r)) parts.1 i m)) (lt-int_lt _ _ above));
    }

-- the next tableau is reached by a step
pub next-step : (p : LinearProgram) (t u : Tableau) → next p t ≡ Some u
    → Step p t (column_of p t) (row_of p t) (chooser_of p t) × (u ≡ pivot t (row_of p t) (column_of p t))
next-step p t u h =
    let n = next-is p t u h in
    let column : column_of p t ≡ n.column = ap number_in n.enters in
    let row : row_of p t ≡ n.row = ap (λ (c : ℕ). number_in (leaving p t c)) column ∙ ap number_in n.leaves in
    go n.column n.row column row (chosen-step p t n.column n.row n.enters n.leaves) (sym n.pivoted)
  where
    go : (c r : ℕ) → column_of p t ≡ c → row_of p t ≡ r → Step p t c r (chooser_of p t) → u ≡ pivot t r c
        → Step p t (column_of p t) (row_of p t) (chooser_of p t) × (u ≡ pivot t (row_of p t) (column_of p t))
    go c r e f step pivoted = (
      subst (λ (k : ℕ). Step p t k (row_of p t) (chooser_of p t)) (sym e) (subst (λ (k : ℕ). Step p t c k (chooser_of p t)) (sym f) step),
      pivoted ∙ (ap (λ (k : ℕ). pivot t k c) (sym f) ∙ ap (λ (k : ℕ). pivot t (row_of p t) k) (sym e)),
    )

-- if a product with a number above 0 is 0, the other factor is 0
pub factor_zero : (z e : ℤ) → pos 0 <ℤ e → z *ℤ e ≡ pos 0 → z ≡ pos 0
factor_zero z e positive h = mul-cancel_ℤ e z (pos 0) positive (mul_comm_ℤ e z ∙ (h ∙ times_zero))
  where
    times_zero : pos 0 ≡ e *ℤ pos 0
    times_zero = omega (arith, ints)

-- a number above 0 is at least 0
pub weaker : (z : ℤ) → pos 0 <ℤ z → pos 0 ≤ℤ z
weaker z h = omega (arith, ints)

module _ (p : LinearProgram) (t : Tableau) (c r q : ℕ) (h : Step p t c r q) where
  -- a step multiplies the cost rows before the choosing one by its entry
  cost-kept : (l j : ℕ) → l < q → (pivot t r c).entry (cost_row p l) j ≡ t.entry (cost_row p l) j *ℤ t.entry r c
  cost-kept l j m =
      pivot-other t r c (cost_row p l) j (let n = h.row in omega arith)
      ∙ drop (t.entry (cost_row p l) j *ℤ t.entry r c) (t.entry (cost_row p l) c) (t.entry r j) (h.before l m)
    where
      drop : (a y b : ℤ) → y ≡ pos 0 → a -ℤ y *ℤ b ≡ a
      drop a y b e = omega (arith, ints, ap (λ (z : ℤ). z *ℤ b) e)

  -- costs that are 0 before row l are still 0 after a step
  pub zeros-after : (l j : ℕ) → l ≤ q → AreZeroBefore p t l j → AreZeroBefore p (pivot t r c) l j
  zeros-after l j m zeros k n = cost-kept k j (omega arith) ∙ zero-mul_ℤ _ _ (zeros k n)

  -- costs that are 0 before row l after a step were 0 before it
  pub zeros-before : (l j : ℕ) → l ≤ q → AreZeroBefore p (pivot t r c) l j → AreZeroBefore p t l j
  zeros-before l j m zeros k n = factor_zero _ _ h.positive (sym (cost-kept k j (omega arith)) ∙ zeros k n)

  -- a blocked row before the choosing one is still blocked after the step
  pub blocked-after : (l : ℕ) → l < q → IsBlocked p t l → IsBlocked p (pivot t r c) l
  blocked-after l m blocked j n zeros =
      subst (λ (z : ℤ). pos 0 ≤ℤ z) (sym (cost-kept l j m))
      (mul-nonneg_ℤ _ _ (blocked j n (zeros-before l j (omega arith) zeros)) (weaker _ h.positive))

  -- the choosing row isn't blocked
  pub not-blocked : ¬ IsBlocked p t q
  not-blocked blocked = clash _ (blocked c h.column h.before) h.negative
    where
      clash : (z : ℤ) → pos 0 ≤ℤ z → z <ℤ pos 0 → ⊥
      clash z a b = omega (arith, ints)

  -- a basic column that doesn't leave is still basic after the step
  pub basic-after : (j : ℕ) → t.basis r ≢ j → IsBasic p t j → IsBasic p (pivot t r c) j
  basic-after j d (i, l, e) =
      (i, l, pivot-other_basis t r c i (λ f. d (ap (λ (k : ℕ). t.basis k) (sym f) ∙ e)) ∙ e)

  -- a basic column that hasn't entered was basic before the step
  pub basic-before : (j : ℕ) → c ≢ j → IsBasic p (pivot t r c) j → IsBasic p t j
  basic-before j d (i, l, e) = go (same_or_other i r)
    where
      go : (i ≡ r) ⊎ (i ≢ r) → IsBasic p t j
      go (inl f) = absurd (d (sym (pivot-basis t r c) ∙ (ap (λ (k : ℕ). (pivot t r c).basis k) (sym f) ∙ e)))
      go (inr f) = (i, l, sym (pivot-other_basis t r c i f) ∙ e)

  -- the column that enters is basic after the step
  pub basic-entered : IsBasic p (pivot t r c) c
  basic-entered = (r, h.row, pivot-basis t r c)

  -- the column that enters isn't basic before the step
  pub not-basic : IsTableauOf p t → ¬ IsBasic p t c
  not-basic is (i, l, e) =
      clash _ (ap (λ (k : ℕ). t.entry (cost_row p q) k) (sym e) ∙ is.other (cost_row p q) i (let m = h.few in omega arith) l (omega arith)) h.negative
    where
      clash : (z : ℤ) → z ≡ pos 0 → z <ℤ pos 0 → ⊥
      clash z a b = omega (arith, ints)

  -- a right side of 0 is still 0 after the step, if that of the leaving row is 0
  pub side-after : (j : ℕ) → t.entry r (unknowns p) ≡ pos 0 → HasZeroSide p t j → HasZeroSide p (pivot t r c) j
  side-after j flat sides i l e = go (same_or_other i r)
    where
      both_zero : (a b : ℤ) → a ≡ pos 0 → b ≡ pos 0 → a *ℤ t.entry r c -ℤ t.entry i c *ℤ b ≡ pos 0
      both_zero a b f g = omega (arith, ints, ap (λ (z : ℤ). z *ℤ t.entry r c) f, ap (λ (z : ℤ). t.entry i c *ℤ z) g)

      go : (i ≡ r) ⊎ (i ≢ r) → (pivot t r c).entry i (unknowns p) ≡ pos 0
      go (inl f) = ap (λ (k : ℕ). (pivot t r c).entry k (unknowns p)) f ∙ (pivot-row t r c (unknowns p) ∙ flat)
      go (inr f) =
          pivot-other t r c i (unknowns p) f
          ∙ both_zero _ _ (sides i l (sym (pivot-other_basis t r c i f) ∙ e)) flat

  -- a right side of 0 after such a step was 0 before it
  pub side-before : (j : ℕ) → t.entry r (unknowns p) ≡ pos 0 → HasZeroSide p (pivot t r c) j → HasZeroSide p t j
  side-before j flat sides i l e = go (same_or_other i r)
    where
      only : (a b : ℤ) → b ≡ pos 0 → a *ℤ t.entry r c -ℤ t.entry i c *ℤ b ≡ pos 0 → a *ℤ t.entry r c ≡ pos 0
      only a b f g = omega (arith, ints, g, ap (λ (z : ℤ). t.entry i c *ℤ z) f)

      go : (i ≡ r) ⊎ (i ≢ r) → t.entry i (unknowns p) ≡ pos 0
      go (inl f) = ap (λ (k : ℕ). t.entry k (unknowns p)) f ∙ flat
      go (inr f) =
          factor_zero _ _ h.positive
          (only _ _ flat (sym (pivot-other t r c i (unknowns p) f) ∙ sides i l (pivot-other_basis t r c i f ∙ e)))
