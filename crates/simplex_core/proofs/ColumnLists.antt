-- Lists of columns of integers, while they are built.
use Rattle.std.proofs.Common.{◌≡◌, ◌≢◌, ℕ, ◌+◌, ◌-◌, ◌<◌, ◌≤◌, ap, arith, refl, sym, ◌∙◌, subst, ◌⊎◌, inl, inr, List, [], ◌∷◌, ◌++◌, Some, length-append}
use Rattle.std.specs.Prelude.{ℤ, pos, ◌+ℤ◌, ◌*ℤ◌, slice_get, slice_set, slice_index_or, nat_lt, if◌then◌else◌}
use Rattle.std.proofs.lemmas.Int.{ints}
use Rattle.std.proofs.lemmas.Bool.{cases_lt}
use Rattle.std.proofs.lemmas.List.{length-set}
use Rattle.std.proofs.lemmas.Option.{slice_get_within, same_Some}
use Rattle.int_laws.specs.Sums.{sum_to}
use Rattle.int_laws.proofs.SumLaws.{sum_to-same}
use Rattle.sparse_columns.specs.declared.column.Column.{Column}
use Rattle.sparse_columns.specs.Numbers.{alone}
use Rattle.sparse_columns.specs.Columns.{numerator, PutsNumerator}
use Rattle.simplex_core.specs.declared.problem.Entry.{Entry}
use Rattle.simplex_core.specs.Tableau.{sign_of}
use Rattle.simplex_core.specs.ColumnBuilding.{AreColumns, HasSides, with_entry, entries_at, with_units, with_cost_columns, costs_at, IsCosted}
use Rattle.sparse_columns.proofs.Lookups.{alone-here, alone-other}
use Rattle.simplex_core.proofs.Searches.{last_or_before}
use Rattle.simplex_core.proofs.Invariant.{same_or_other}
use Rattle.simplex_core.proofs.Positions.{slice_get-set_same, slice_get-set_other}
use Rattle.simplex_core.proofs.Extraction.{slice_get-last, slice_get-before}
use Rattle.simplex_core.proofs.Regions.{choose-below, choose-above, choose-same, choose-other}

-- the columns have the numbers h if g and h are equal on them
pub columns-same : (xs : List Column) (n m : ℕ) (g h : ℕ → ℕ → ℤ) → n ≡ m → ((i j : ℕ) → j < n → g i j ≡ h i j) → AreColumns xs n g → AreColumns xs m h
columns-same xs n m g h e same are = record {
  length_is = are.length_is ∙ e;
  numbers = λ i j x is. are.numbers i j x is ∙ same i j (let l = slice_get_within xs j x is in let k = are.length_is in omega arith);
  dens = are.dens;
}

-- after one more column is appended, there is one column more
pub columns-pushed : (xs : List Column) (n : ℕ) (g : ℕ → ℕ → ℤ) (x : Column) → AreColumns xs n g → ((i : ℕ) → numerator x i ≡ g i n) → x.den ≡ pos 1
    → AreColumns (xs ++ (x ∷ [])) (n + 1) g
columns-pushed xs n g x are here den = record {
  length_is = let e = are.length_is in omega (arith, e, length-append {A = Column} xs (x ∷ []));
  numbers = λ i j y is. (at j y is (place j y is)).0 i;
  dens = λ j y is. (at j y is (place j y is)).1;
}
  where
    place : (j : ℕ) (y : Column) → slice_get (xs ++ (x ∷ [])) j ≡ Some y → (j ≡ n) ⊎ (j < n)
    place j y is = last_or_before n j (let l = slice_get_within (xs ++ (x ∷ [])) j y is in let e = are.length_is in omega (arith, l, e, length-append {A = Column} xs (x ∷ [])))

    at : (j : ℕ) (y : Column) → slice_get (xs ++ (x ∷ [])) j ≡ Some y → (j ≡ n) ⊎ (j < n) → ((i : ℕ) → numerator y i ≡ g i j) × (y.den ≡ pos 1)
    at j y is (inl e) =
        let read = ap (λ (k : ℕ). slice_get (xs ++ (x ∷ [])) k) (e ∙ sym are.length_is) ∙ slice_get-last xs x in
        let same : x ≡ y = same_Some x y (sym read ∙ is) in
        (λ i. ap (λ (z : Column). numerator z i) (sym same) ∙ (here i ∙ ap (λ (k : ℕ). g i k) (sym e)), ap (λ (z : Column). z.den) (sym same) ∙ den)
    at j y is (inr l) =
        let before = sym (slice_get-before xs x j (let e = are.length_is in omega arith)) ∙ is in
        (λ i. are.numbers i j y before, are.dens j y before)

-- after one column is replaced, the columns have the numbers changed in it
pub columns-changed : (xs : List Column) (n c : ℕ) (g h : ℕ → ℕ → ℤ) (x y : Column) → AreColumns xs n g → slice_get xs c ≡ Some x → y.den ≡ x.den
    → ((i : ℕ) → numerator y i ≡ h i c) → ((i j : ℕ) → j ≢ c → h i j ≡ g i j) → AreColumns (slice_set xs c y) n h
columns-changed xs n c g h x y are is den here others = record {
  length_is = length-set xs c y ∙ are.length_is;
  numbers = λ i j z read. (at j z read (same_or_other j c)).0 i;
  dens = λ j z read. (at j z read (same_or_other j c)).1;
}
  where
    at : (j : ℕ) (z : Column) → slice_get (slice_set xs c y) j ≡ Some z → (j ≡ c) ⊎ (j ≢ c) → ((i : ℕ) → numerator z i ≡ h i j) × (z.den ≡ pos 1)
    at j z read (inl e) =
        let written = ap (λ (k : ℕ). slice_get (slice_set xs c y) k) e ∙ slice_get-set_same xs c y (slice_get_within xs c x is) in
        let same : y ≡ z = same_Some y z (sym written ∙ read) in
        (λ i. ap (λ (w : Column). numerator w i) (sym same) ∙ (here i ∙ ap (λ (k : ℕ). h i k) (sym e)), ap (λ (w : Column). w.den) (sym same) ∙ (den ∙ are.dens c x is))
    at j z read (inr d) =
        let before = sym (slice_get-set_other xs c j y d) ∙ read in
        (λ i. are.numbers i j z before ∙ sym (others i j d), are.dens j z before)

-- after an entry is put into its column, its number is added there
pub entry-put : (xs : List Column) (n : ℕ) (g : ℕ → ℕ → ℤ) (e : Entry) (z : ℤ) (x y : Column) → slice_get xs e.col ≡ Some x → PutsNumerator x y e.row z → AreColumns xs n g
    → AreColumns (slice_set xs e.col y) n (with_entry e z g)
entry-put xs n g e z x y is puts are =
    columns-changed xs n e.col g (with_entry e z g) x y are is puts.den
    (λ i. puts.numbers i ∙ (ap (λ (w : ℤ). w +ℤ alone e.row z i) (are.numbers i e.col x is) ∙ ap (λ (w : ℤ). g i e.col +ℤ w) (sym (choose-same e.col e.col (alone e.row z i) (pos 0) refl))))
    (λ i j d. nothing (g i j) _ (choose-other j e.col (alone e.row z i) (pos 0) d))
  where
    nothing : (v w : ℤ) → w ≡ pos 0 → v +ℤ w ≡ v
    nothing v w e = omega (arith, ints)

-- one more entry adds its number
pub entries_at-append : (es : List Entry) (e : Entry) (right : List ℤ) (i j : ℕ)
    → entries_at (es ++ (e ∷ [])) right i j ≡ with_entry e (sign_of (slice_index_or right e.row (pos 0)) *ℤ e.value) (entries_at es right) i j
entries_at-append [] e right i j = omega (arith, ints)
entries_at-append (d ∷ ds) e right i j = let more = entries_at-append ds e right i j in omega (arith, ints, more)

-- before any artificial unknown's column is appended
pub units-none : (xs : List Column) (n : ℕ) (g : ℕ → ℕ → ℤ) → AreColumns xs n g → AreColumns xs (n + 0) (with_units n g)
units-none xs n g are = columns-same xs n (n + 0) g (with_units n g) (omega arith) (λ i j l. sym (choose-below j n (g i j) (alone (j - n) (pos 1) i) l)) are

-- after one more artificial unknown's column is appended
pub units-more : (xs : List Column) (n k : ℕ) (g : ℕ → ℕ → ℤ) (x : Column) → AreColumns xs (n + k) (with_units n g) → ((i : ℕ) → numerator x i ≡ alone k (pos 1) i) → x.den ≡ pos 1
    → AreColumns (xs ++ (x ∷ [])) (n + (k + 1)) (with_units n g)
units-more xs n k g x are here den =
    columns-same _ (n + k + 1) (n + (k + 1)) (with_units n g) (with_units n g) (omega arith) (λ i j l. refl)
    (columns-pushed xs (n + k) (with_units n g) x are
    (λ i. here i ∙ (ap (λ (r : ℕ). alone r (pos 1) i) (position n k) ∙ sym (choose-above (n + k) n (g i (n + k)) (alone ((n + k) - n) (pos 1) i) (omega arith)))) den)
  where
    position : (n k : ℕ) → k ≡ (n + k) - n
    position n k = omega arith

-- before any costs are put
pub costs-none : (xs : List Column) (n m : ℕ) (g : ℕ → ℕ → ℤ) (first second : List ℤ) → AreColumns xs n g → AreColumns xs n (with_cost_columns m g first second 0)
costs-none xs n m g first second are = columns-same xs n n g _ refl (λ i j l. sym (nothing (g i j) _ (choose-above j 0 _ (pos 0) (omega arith)))) are
  where
    nothing : (v w : ℤ) → w ≡ pos 0 → v +ℤ w ≡ v
    nothing v w e = omega (arith, ints)

-- after the costs of one more column are put
pub costs-more : (xs : List Column) (n m c : ℕ) (g : ℕ → ℕ → ℤ) (first second : List ℤ) (x y : Column) → AreColumns xs n (with_cost_columns m g first second c)
    → ((i j : ℕ) → m ≤ i → g i j ≡ pos 0) → slice_get xs c ≡ Some x → IsCosted x y m (slice_index_or first c (pos 0)) (slice_index_or second c (pos 0))
    → AreColumns (slice_set xs c y) n (with_cost_columns m g first second (c + 1))
costs-more xs n m c g first second x y are outside is costed =
    columns-changed xs n c (with_cost_columns m g first second c) (with_cost_columns m g first second (c + 1)) x y are is costed.den here others
  where
    f : ℤ
    f = slice_index_or first c (pos 0)

    s : ℤ
    s = slice_index_or second c (pos 0)

    nothing : (v w : ℤ) → w ≡ pos 0 → v +ℤ w ≡ v
    nothing v w e = omega (arith, ints)

    old : (i : ℕ) → numerator x i ≡ g i c
    old i = are.numbers i c x is ∙ nothing (g i c) _ (choose-above c c (costs_at m (sum_to m (λ r. g r c)) f s i) (pos 0) (omega arith))

    here : (i : ℕ) → numerator y i ≡ with_cost_columns m g first second (c + 1) i c
    here i =
        costed.numbers (λ k l. old k ∙ outside k c l) i
        ∙ (ap (λ (w : ℤ). w +ℤ costs_at m (sum_to m (numerator x)) f s i) (old i)
        ∙ ap (λ (w : ℤ). g i c +ℤ w)
        (ap (λ (w : ℤ). costs_at m w f s i) (sum_to-same m (numerator x) (λ r. g r c) (λ k l. old k))
        ∙ sym (choose-below c (c + 1) (costs_at m (sum_to m (λ r. g r c)) f s i) (pos 0) (omega arith))))

    others : (i j : ℕ) → j ≢ c → with_cost_columns m g first second (c + 1) i j ≡ with_cost_columns m g first second c i j
    others i j d = ap (λ (w : ℤ). g i j +ℤ w) (go (cases_lt j c))
      where
        go : (j < c) ⊎ (c ≤ j) → (if nat_lt j (c + 1) then costs_at m (sum_to m (λ r. g r j)) (slice_index_or first j (pos 0)) (slice_index_or second j (pos 0)) i else pos 0)
            ≡ (if nat_lt j c then costs_at m (sum_to m (λ r. g r j)) (slice_index_or first j (pos 0)) (slice_index_or second j (pos 0)) i else pos 0)
        go (inl l) = choose-below j (c + 1) _ (pos 0) (omega arith) ∙ sym (choose-below j c _ (pos 0) l)
        go (inr l) = choose-above j (c + 1) _ (pos 0) (omega arith) ∙ sym (choose-above j c _ (pos 0) l)

-- after one more right side is put
pub sides-more : (x y : Column) (right : List ℤ) (k : ℕ) → HasSides x right k → PutsNumerator x y k (sign_of (slice_index_or right k (pos 0)) *ℤ slice_index_or right k (pos 0))
    → HasSides y right (k + 1)
sides-more x y right k sides puts = record {
  numbers = λ i l. go i (last_or_before k i (omega arith));
  others = λ i l.
      let old = sides.others i (omega arith) in
      let put = puts.numbers i in
      let none = alone-other k i side (λ e. omega arith) in
      omega (arith, ints, old, put, none);
  den = puts.den ∙ sides.den;
}
  where
    side : ℤ
    side = sign_of (slice_index_or right k (pos 0)) *ℤ slice_index_or right k (pos 0)

    go : (i : ℕ) → (i ≡ k) ⊎ (i < k) → numerator y i ≡ sign_of (slice_index_or right i (pos 0)) *ℤ slice_index_or right i (pos 0)
    go i (inl e) =
        subst (λ (m : ℕ). numerator y m ≡ sign_of (slice_index_or right m (pos 0)) *ℤ slice_index_or right m (pos 0)) (sym e)
        (at_k (numerator y k) (numerator x k) (alone k side k) side (puts.numbers k) (sides.others k (omega arith)) (alone-here k k side refl))
      where
        at_k : (y x a s : ℤ) → y ≡ x +ℤ a → x ≡ pos 0 → a ≡ s → y ≡ s
        at_k y x a s e f h = omega (arith, ints)
    go i (inr l) = kept (numerator y i) (numerator x i) (alone k side i) _ (puts.numbers i) (alone-other k i side (λ e. omega arith)) (sides.numbers i l)
      where
        kept : (y x a s : ℤ) → y ≡ x +ℤ a → a ≡ pos 0 → x ≡ s → y ≡ s
        kept y x a s e f h = omega (arith, ints)
