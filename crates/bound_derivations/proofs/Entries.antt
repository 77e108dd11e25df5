-- The entries at a position, and at a place after a rule, after a value was put where there was none.
use Rattle.std.proofs.Common.{◌≡◌, get_or, true, false, cond, ℕ, zero, suc, ◌<◌, ◌≤◌, List, [], ◌∷◌, length, map}
use Rattle.std.proofs.Common.{Option, Some, None, refl, sym, ◌∙◌, ap, arith}
use Rattle.std.specs.Prelude.{slice_set, is_some}
use Rattle.model.proofs.Cases.{none_some}
use Rattle.model.proofs.Membership.{no_is_not_yes}
use Rattle.size_bounds.specs.Tables.{entry_at, row_at}
use Rattle.bound_derivations.specs.ByKey.{put_entry, put_time, put_place, is_free_at}

-- after a value is put at a position without one, the position has it
pub entry_own : {A : Type 0} (os : List (Option A)) (n : ℕ) (a : A)
    → entry_at (put_entry os n a) n ≡ cond (is_free_at os n) (Some a) (entry_at os n)
entry_own [] n a = refl
entry_own (None ∷ os) zero a = refl
entry_own (Some b ∷ os) zero a = refl
entry_own (o ∷ os) (suc n) a = entry_own os n a

-- a position isn't free after a value is put there
pub entry_filled_own : {A : Type 0} (os : List (Option A)) (n : ℕ) (a : A) → is_free_at (put_entry os n a) n ≡ false
entry_filled_own [] n a = refl
entry_filled_own (None ∷ os) zero a = refl
entry_filled_own (Some b ∷ os) zero a = refl
entry_filled_own (o ∷ os) (suc n) a = entry_filled_own os n a

-- the entries at other positions are unchanged
pub entry_other : {A : Type 0} (os : List (Option A)) (n m : ℕ) (a : A) → (n ≡ m → ⊥)
    → entry_at (put_entry os n a) m ≡ entry_at os m
entry_other [] n m a h = refl
entry_other (o ∷ os) zero zero a h = absurd (h refl)
entry_other (o ∷ os) zero (suc m) a h = refl
entry_other (o ∷ os) (suc n) zero a h = refl
entry_other (o ∷ os) (suc n) (suc m) a h = entry_other os n m a (λ e. h (ap (λ (k : ℕ). suc k) e))

-- other positions stay free if they were
pub free_other : {A : Type 0} (os : List (Option A)) (n m : ℕ) (a : A) → (n ≡ m → ⊥)
    → is_free_at (put_entry os n a) m ≡ is_free_at os m
free_other [] n m a h = refl
free_other (o ∷ os) zero zero a h = absurd (h refl)
free_other (o ∷ os) zero (suc m) a h = refl
free_other (o ∷ os) (suc n) zero a h = refl
free_other (o ∷ os) (suc n) (suc m) a h = free_other os n m a (λ e. h (ap (λ (k : ℕ). suc k) e))

-- putting a value leaves the length of the list unchanged
pub entry_long : {A : Type 0} (os : List (Option A)) (n : ℕ) (a : A) → length (put_entry os n a) ≡ length os
entry_long [] n a = refl
entry_long (o ∷ os) zero a = refl
entry_long (o ∷ os) (suc n) a = ap (λ (k : ℕ). suc k) (entry_long os n a)

-- a position within the list at which nothing is read is free
pub free_within : {A : Type 0} (os : List (Option A)) (n : ℕ) → n < length os → entry_at os n ≡ None
    → is_free_at os n ≡ true
free_within [] n l e = absurd (omega (arith, l))
free_within (None ∷ os) zero l e = refl
free_within (Some b ∷ os) zero l e = absurd (none_some b (sym e))
free_within (o ∷ os) (suc n) l e = free_within os n (omega (arith, l)) e

-- among times, the entries at other keys are unchanged
pub time_other : {A B : Type 0} (f : List (Option A) → ℕ → B)
    → ((os : List (Option A)) (n m : ℕ) (a : A) → (n ≡ m → ⊥) → f (put_entry os n a) m ≡ f os m)
    → (os : List (Option A)) (u j t : ℕ) (a : A) → (u ≡ t → j ≡ 0 → ⊥) → f (put_time os u j a) t ≡ f os t
time_other f h os u zero t a n = h os u t a (λ e. n e refl)
time_other f h os u (suc j) t a n = refl

-- putting a value leaves the number of times unchanged
pub time_long : {A : Type 0} (os : List (Option A)) (u j : ℕ) (a : A) → length (put_time os u j a) ≡ length os
time_long os u zero a = entry_long os u a
time_long os u (suc j) a = refl

-- after a value is put at a place without one, the place has it
pub place_own : {A : Type 0} (rows : List (List (Option A))) (t i : ℕ) (a : A)
    → entry_at (row_at (put_place rows t (suc i) a) t) i
    ≡ cond (is_free_at (row_at rows t) i) (Some a) (entry_at (row_at rows t) i)
place_own [] t i a = refl
place_own (row ∷ rows) zero i a = entry_own row i a
place_own (row ∷ rows) (suc t) i a = place_own rows t i a

-- the place isn't free after a value is put there
pub place_filled_own : {A : Type 0} (rows : List (List (Option A))) (t i : ℕ) (a : A)
    → is_free_at (row_at (put_place rows t (suc i) a) t) i ≡ false
place_filled_own [] t i a = refl
place_filled_own (row ∷ rows) zero i a = entry_filled_own row i a
place_filled_own (row ∷ rows) (suc t) i a = place_filled_own rows t i a

-- the entries at other places are unchanged
pub place_other : {A B : Type 0} (f : List (Option A) → ℕ → B)
    → ((os : List (Option A)) (n m : ℕ) (a : A) → (n ≡ m → ⊥) → f (put_entry os n a) m ≡ f os m)
    → (rows : List (List (Option A))) (u j t i : ℕ) (a : A) → (u ≡ t → j ≡ suc i → ⊥)
    → f (row_at (put_place rows u j a) t) i ≡ f (row_at rows t) i
place_other f h [] u j t i a n = refl
place_other f h (row ∷ rows) zero zero t i a n = refl
place_other f h (row ∷ rows) zero (suc j) zero i a n = h row j i a (λ e. n refl (ap (λ (k : ℕ). suc k) e))
place_other f h (row ∷ rows) zero (suc j) (suc t) i a n = refl
place_other f h (row ∷ rows) (suc u) j zero i a n = refl
place_other f h (row ∷ rows) (suc u) j (suc t) i a n =
    place_other f h rows u j t i a (λ e. n (ap (λ (k : ℕ). suc k) e))

-- putting a value leaves the lengths of the rows unchanged
pub place_long : {A : Type 0} (rows : List (List (Option A))) (t i : ℕ) (a : A)
    → map (λ (row : List (Option A)). length row) (put_place rows t i a)
    ≡ map (λ (row : List (Option A)). length row) rows
place_long [] t i a = refl
place_long (row ∷ rows) zero zero a = refl
place_long (row ∷ rows) zero (suc i) a =
    ap (λ (n : ℕ). n ∷ map (λ (r : List (Option _)). length r) rows) (entry_long row i a)
place_long (row ∷ rows) (suc t) i a = ap (λ (ns : List ℕ). length row ∷ ns) (place_long rows t i a)

-- past the end nothing is written
pub entry_past : {A : Type 0} (os : List (Option A)) (n : ℕ) (a : A) → length os ≤ n → put_entry os n a ≡ os
entry_past [] n a l = refl
entry_past (o ∷ os) zero a l = absurd (omega (arith, l))
entry_past (o ∷ os) (suc n) a l =
    ap (λ (rest : List (Option _)). o ∷ rest) (entry_past os n a (omega (arith, l)))

-- writing to a position that isn't free leaves the list unchanged
pub entry_filled : {A : Type 0} (os : List (Option A)) (n : ℕ) (a : A) (o : Option A) → n < length os
    → o ≡ get_or os n o → is_some o ≡ true → os ≡ put_entry os n a
entry_filled [] n a o l e h = absurd (omega (arith, l))
entry_filled (Some b ∷ os) zero a o l e h = refl
entry_filled (None ∷ os) zero a o l e h = absurd (no_is_not_yes true (sym h ∙ ap is_some e) refl)
entry_filled (x ∷ os) (suc n) a o l e h =
    ap (λ (rest : List (Option _)). x ∷ rest) (entry_filled os n a o (omega (arith, l)) e h)

-- where nothing is read at a position, setting the value there writes it
pub entry_set : {A : Type 0} (os : List (Option A)) (n : ℕ) (a : A) (o : Option A) → n < length os
    → o ≡ get_or os n o → is_some o ≡ false → slice_set os n (Some a) ≡ put_entry os n a
entry_set [] n a o l e h = absurd (omega (arith, l))
entry_set (None ∷ os) zero a o l e h = refl
entry_set (Some b ∷ os) zero a o l e h = absurd (no_is_not_yes true (sym (ap is_some e) ∙ h) refl)
entry_set (x ∷ os) (suc n) a o l e h =
    ap (λ (rest : List (Option _)). x ∷ rest) (entry_set os n a o (omega (arith, l)) e h)

-- a row that is written at a place in a list of rows
pub place_set : {A R : Type 0} (items : R → List (Option A)) (rows : List R) (t i : ℕ) (a : A) (row new : R)
    → t < length rows → row ≡ get_or rows t row → items new ≡ put_entry (items row) i a
    → map items (slice_set rows t new) ≡ put_place (map items rows) t (suc i) a
place_set items [] t i a row new l e h = absurd (omega (arith, l))
place_set items (r ∷ rows) zero i a row new l e h =
    ap (λ x. x ∷ map items rows) (h ∙ ap (λ x. put_entry (items x) i a) e)
place_set items (r ∷ rows) (suc t) i a row new l e h =
    ap (λ rest. items r ∷ rest) (place_set items rows t i a row new (omega (arith, l)) e h)

-- where there is no such row, nothing is written
pub place_none : {A R : Type 0} (items : R → List (Option A)) (rows : List R) (t i : ℕ) (a : A) → length rows ≤ t
    → map items rows ≡ put_place (map items rows) t i a
place_none items [] t i a l = refl
place_none items (r ∷ rows) zero i a l = absurd (omega (arith, l))
place_none items (r ∷ rows) (suc t) i a l =
    ap (λ rest. items r ∷ rest) (place_none items rows t i a (omega (arith, l)))

-- at place 0 nothing is written among rows of sizes
pub place_zero : {A : Type 0} (rows : List (List (Option A))) (t : ℕ) (a : A) → rows ≡ put_place rows t 0 a
place_zero [] t a = refl
place_zero (r ∷ rows) zero a = refl
place_zero (r ∷ rows) (suc t) a = ap (λ (rest : List (List (Option _))). r ∷ rest) (place_zero rows t a)
