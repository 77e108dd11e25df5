-- The element at a place after a value was written.
use Rattle.std.proofs.Common.{◌≡◌, ◌≢◌, ◌⊎◌, inl, inr, true, false, eqb, ℕ, zero, suc, ◌<◌, ◌≤◌, List, [], ◌∷◌}
use Rattle.std.proofs.Common.{length, map, Option, Some, None, option_map, refl, sym, ◌∙◌, ap, subst, arith}
use Rattle.std.proofs.lemmas.Bool.{cases_lt}
use Rattle.std.proofs.lemmas.Bool.Decides.{eqb_tells}
use Rattle.size_bounds.specs.Tables.{entry_at, row_at}
use Rattle.bound_derivations.specs.ByKey.{or_value, put_entry, put_place}
use Rattle.bound_derivations.proofs.Entries.{entry_other, entry_past}
use Rattle.time_bounds.specs.SizeSaid.{placed}
use Rattle.model.proofs.Cases.{none_some}
pub use Rattle.bound_derivations.proofs.Entries.{place_long}

or_known : {A : Type 0} (o : Option A) (a b : A) → o ≡ Some b → or_value o a ≡ Some b
or_known None a b e = absurd (none_some b e)
or_known (Some c) a b e = e

-- an element at a position stays there
pub entry_known : {A : Type 0} (os : List (Option A)) (n m : ℕ) (a b : A) → entry_at os m ≡ Some b → entry_at (put_entry os n a) m ≡ Some b
entry_known [] n m a b e = e
entry_known (o ∷ os) zero zero a b e = or_known o a b e
entry_known (o ∷ os) zero (suc m) a b e = e
entry_known (o ∷ os) (suc n) zero a b e = e
entry_known (o ∷ os) (suc n) (suc m) a b e = entry_known os n m a b e

-- after a value is written at a free position, the position has it
pub entry_here : {A : Type 0} (os : List (Option A)) (n : ℕ) (a : A) → n < length os → entry_at os n ≡ None → entry_at (put_entry os n a) n ≡ Some a
entry_here [] n a l e = absurd (omega (arith, l))
entry_here (None ∷ os) zero a l e = refl
entry_here (Some b ∷ os) zero a l e = absurd (none_some b (sym e))
entry_here (o ∷ os) (suc n) a l e = entry_here os n a (omega (arith, l)) e

or_map : {A B : Type 0} (f : A → B) (o : Option A) (a : A) → option_map f (or_value o a) ≡ or_value (option_map f o) (f a)
or_map f None a = refl
or_map f (Some b) a = refl

-- mapping and writing can be exchanged
pub entry_map : {A B : Type 0} (f : A → B) (os : List (Option A)) (n : ℕ) (a : A)
    → map (λ o. option_map f o) (put_entry os n a) ≡ put_entry (map (λ o. option_map f o) os) n (f a)
entry_map f [] n a = refl
entry_map f (o ∷ os) zero a = ap (λ x. x ∷ map (λ o. option_map f o) os) (or_map f o a)
entry_map f (o ∷ os) (suc n) a = ap (λ rest. option_map f o ∷ rest) (entry_map f os n a)

-- an element at a place stays there
pub place_known : {A : Type 0} (rows : List (List (Option A))) (u j t i : ℕ) (a b : A) → placed rows t i ≡ Some b
    → placed (put_place rows u j a) t i ≡ Some b
place_known rows u j t zero a b e = absurd (none_some b e)
place_known [] u j t (suc i) a b e = e
place_known (row ∷ rows) zero zero t (suc i) a b e = e
place_known (row ∷ rows) zero (suc j) zero (suc i) a b e = entry_known row j i a b e
place_known (row ∷ rows) zero (suc j) (suc t) (suc i) a b e = e
place_known (row ∷ rows) (suc u) j zero (suc i) a b e = e
place_known (row ∷ rows) (suc u) j (suc t) (suc i) a b e = place_known rows u j t (suc i) a b e

-- at other places nothing changes
pub place_other : {A : Type 0} (rows : List (List (Option A))) (u j t i : ℕ) (a : A) → (u ≡ t → j ≡ i → ⊥)
    → placed (put_place rows u j a) t i ≡ placed rows t i
place_other rows u j t zero a h = refl
place_other [] u j t (suc i) a h = refl
place_other (row ∷ rows) zero zero t (suc i) a h = refl
place_other (row ∷ rows) zero (suc j) zero (suc i) a h = entry_other row j i a (λ e. h refl (ap (λ (k : ℕ). suc k) e))
place_other (row ∷ rows) zero (suc j) (suc t) (suc i) a h = refl
place_other (row ∷ rows) (suc u) j zero (suc i) a h = refl
place_other (row ∷ rows) (suc u) j (suc t) (suc i) a h = place_other rows u j t (suc i) a (λ e. h (ap (λ (k : ℕ). suc k) e))

-- after a value is written at a free place, the place has it
pub place_here : {A : Type 0} (rows : List (List (Option A))) (t i : ℕ) (a : A) → 1 ≤ i → i ≤ length (row_at rows t) → placed rows t i ≡ None
    → placed (put_place rows t i a) t i ≡ Some a
place_here rows t zero a l m e = absurd (omega (arith, l))
place_here [] t (suc i) a l m e = absurd (omega (arith, m))
place_here (row ∷ rows) zero (suc i) a l m e = entry_here row i a (omega (arith, m)) e
place_here (row ∷ rows) (suc t) (suc i) a l m e = place_here rows t (suc i) a l m e

-- past the end nothing changes
pub place_past : {A : Type 0} (rows : List (List (Option A))) (t i : ℕ) (a : A) → length (row_at rows t) < i
    → placed (put_place rows t i a) t i ≡ placed rows t i
place_past rows t zero a l = refl
place_past [] t (suc i) a l = refl
place_past (row ∷ rows) zero (suc i) a l = ap (λ (r : List (Option _)). entry_at r i) (entry_past row i a (omega (arith, l)))
place_past (row ∷ rows) (suc t) (suc i) a l = place_past rows t (suc i) a l

-- mapping and writing can be exchanged, in rows
pub place_map : {A B : Type 0} (f : A → B) (rows : List (List (Option A))) (t i : ℕ) (a : A)
    → map (λ row. map (λ o. option_map f o) row) (put_place rows t i a) ≡ put_place (map (λ row. map (λ o. option_map f o) row) rows) t i (f a)
place_map f [] t i a = refl
place_map f (row ∷ rows) zero zero a = refl
place_map f (row ∷ rows) zero (suc i) a = ap (λ r. r ∷ map (λ row. map (λ o. option_map f o) row) rows) (entry_map f row i a)
place_map f (row ∷ rows) (suc t) i a = ap (λ rs. map (λ o. option_map f o) row ∷ rs) (place_map f rows t i a)

-- the element at a position after a value was written: the earlier one, or the value
pub record Wrote {A : Type 0} (rows : List (List (Option A))) (u j t i : ℕ) (a b : A) : Type 0 where
  pub rule : u ≡ t
  pub place : j ≡ i
  pub none : placed rows t i ≡ None
  pub value : b ≡ a

-- the element at a place after a value was written is the earlier one, or the value where there was none
pub place_cases : {A : Type 0} (rows : List (List (Option A))) (u j t i : ℕ) (a b : A) → placed (put_place rows u j a) t i ≡ Some b
    → (placed rows t i ≡ Some b) ⊎ Wrote rows u j t i a b
place_cases {A} rows u j t i a b e = go (placed rows t i) refl
  where
    some_same : (x y : A) → Some x ≡ Some y → x ≡ y
    some_same x y h = cc

    here : placed rows t i ≡ None → ((u ≡ t) × (j ≡ i)) ⊎ ((u ≡ t → j ≡ i → ⊥)) → (placed rows t i ≡ Some b) ⊎ Wrote rows u j t i a b
    here q (inr apart) = absurd (none_some b (sym q ∙ (sym (place_other rows u j t i a apart) ∙ e)))
    here q (inl (x, y)) = inr record { rule = x; place = y; none = q; value = value x y (or_past (order i)) }
      where
        order : (n : ℕ) → (1 ≤ n) ⊎ (n ≡ 0)
        order zero = inr refl
        order (suc n) = inl (omega arith)

        value_in : u ≡ t → j ≡ i → placed (put_place rows t i a) t i ≡ Some b
        value_in x y = ap (λ (m : ℕ). placed (put_place rows m i a) t i) (sym x) ∙ (ap (λ (m : ℕ). placed (put_place rows u m a) t i) (sym y) ∙ e)

        value : u ≡ t → j ≡ i → (placed (put_place rows t i a) t i ≡ Some a) ⊎ (placed (put_place rows t i a) t i ≡ placed rows t i) → b ≡ a
        value x y (inl k) = some_same b a (sym (value_in x y) ∙ k)
        value x y (inr k) = absurd (none_some b (sym q ∙ (sym k ∙ value_in x y)))

        or_past : (1 ≤ i) ⊎ (i ≡ 0) → (placed (put_place rows t i a) t i ≡ Some a) ⊎ (placed (put_place rows t i a) t i ≡ placed rows t i)
        or_past (inr z) = inr (subst (λ (n : ℕ). placed (put_place rows t n a) t n ≡ placed rows t n) (sym z) refl)
        or_past (inl l) = by (cases_lt (length (row_at rows t)) i)
          where
            by : (length (row_at rows t) < i) ⊎ (i ≤ length (row_at rows t))
                → (placed (put_place rows t i a) t i ≡ Some a) ⊎ (placed (put_place rows t i a) t i ≡ placed rows t i)
            by (inr m) = inl (place_here rows t i a l m q)
            by (inl m) = inr (place_past rows t i a m)

    decide : (m n : ℕ) → (m ≡ n) ⊎ (m ≡ n → ⊥)
    decide m n = by (eqb_tells m n)
      where
        by : ((eqb m n ≡ true) × (m ≡ n)) ⊎ ((eqb m n ≡ false) × (m ≢ n)) → (m ≡ n) ⊎ (m ≡ n → ⊥)
        by (inl h) = inl h.1
        by (inr h) = inr h.1

    both : (u ≡ t) ⊎ (u ≡ t → ⊥) → (j ≡ i) ⊎ (j ≡ i → ⊥) → ((u ≡ t) × (j ≡ i)) ⊎ ((u ≡ t → j ≡ i → ⊥))
    both (inl x) (inl y) = inl (x, y)
    both (inl x) (inr y) = inr (λ p q. y q)
    both (inr x) k = inr (λ p q. x p)

    go : (o : Option A) → placed rows t i ≡ o → (placed rows t i ≡ Some b) ⊎ Wrote rows u j t i a b
    go (Some c) q = inl (q ∙ ap (λ (x : A). Some x) (some_same c b (sym (place_known rows u j t i a c q) ∙ e)))
    go None q = here q (both (decide u t) (decide j i))

-- the length of a row, by those of all rows
pub row_long : {A B : Type 0} (xs : List (List A)) (ys : List (List B)) (t : ℕ)
    → map (λ (row : List A). length row) xs ≡ map (λ (row : List B). length row) ys → length (row_at xs t) ≡ length (row_at ys t)
row_long [] [] t e = refl
row_long [] (y ∷ ys) t e = absurd (let f : ⊥ = cc in f)
row_long (x ∷ xs) [] t e = absurd (let f : ⊥ = cc in f)
row_long (x ∷ xs) (y ∷ ys) zero e = let h : length x ≡ length y = cc in h
row_long {A} {B} (x ∷ xs) (y ∷ ys) (suc t) e =
    let h : map (λ (row : List A). length row) xs ≡ map (λ (row : List B). length row) ys = cc in row_long xs ys t h
