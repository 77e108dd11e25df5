-- Entries of sizes carry the numbers of their lemmas.
use Rattle.std.proofs.Common.{◌≡◌, ◌⊎◌, inl, inr, ℕ, zero, suc, ◌+◌, ◌<◌, List, [], ◌∷◌, ◌++◌, length, map, get_or, Vec}
use Rattle.std.proofs.Common.{Option, Some, None, option_map, refl, sym, ◌∙◌, ap, subst, arith}
use Rattle.std.specs.List.{remove}
use Rattle.std.specs.declared.alloc.Global.{Global}
use Rattle.std.proofs.lemmas.List.{map-append, length-map}
use Rattle.outcome.specs.Reports.{NoSize, Unsized}
use Rattle.outcome.specs.Views.{size_of}
use Rattle.outcome.specs.declared.entry.Stored.{Stored}
use Rattle.outcome.specs.declared.entry.SizeEntry.{SizeEntry}
use Rattle.outcome.specs.declared.entry.SizeEntry.TheVariants as entries
use Rattle.size_bounds.specs.declared.table.Table.{Table}
use Rattle.size_bounds.specs.Tables.{entry_at, row_at, lemma_stored, number_at}
use Rattle.time_bounds.specs.AnalysisLemmas.{CarriesSize, CarriesSizes}
use Rattle.time_bounds.specs.Numbered.{EachNumbered, size_stored, CarriesNumber}
use Rattle.bound_derivations.specs.ByKey.{put_entry, put_place}
use Rattle.time_bounds.specs.SizeSaid.{placed, CarriesIfThere, CarryRow, CarryPlaces, KeepPlaces, IsReason}
use Rattle.model.proofs.Cases.{none_some as no_entry, some_same}

-- the element at a position after one more was pushed
entry_pushed : {A : Type 0} (xs : List (Option A)) (x : Option A) (i : ℕ) (a : A) → entry_at (xs ++ x ∷ []) i ≡ Some a
    → (entry_at xs i ≡ Some a) ⊎ ((i ≡ length xs) × (x ≡ Some a))
entry_pushed [] x zero a e = inr (refl, e)
entry_pushed [] x (suc i) a e = absurd (no_entry a e)
entry_pushed (y ∷ xs) x zero a e = inl e
entry_pushed (y ∷ xs) x (suc i) a e = go (entry_pushed xs x i a e)
  where
    go : (entry_at xs i ≡ Some a) ⊎ ((i ≡ length xs) × (x ≡ Some a)) → (entry_at xs i ≡ Some a) ⊎ ((suc i ≡ suc (length xs)) × (x ≡ Some a))
    go (inl h) = inl h
    go (inr h) = inr (ap suc h.0, h.1)

place_pushed : {A : Type 0} (rows : List (List (Option A))) (r : List (Option A)) (t i : ℕ) (a : A) → placed (rows ++ r ∷ []) t i ≡ Some a
    → (placed rows t i ≡ Some a) ⊎ ((t ≡ length rows) × (placed (r ∷ []) 0 i ≡ Some a))
place_pushed rows r t zero a e = absurd (no_entry a e)
place_pushed [] r zero (suc i) a e = inr (refl, e)
place_pushed [] r (suc t) (suc i) a e = absurd (no_entry a e)
place_pushed (y ∷ rows) r zero (suc i) a e = inl e
place_pushed {A} (y ∷ rows) r (suc t) (suc i) a e = go (place_pushed rows r t (suc i) a e)
  where
    go : (placed rows t (suc i) ≡ Some a) ⊎ ((t ≡ length rows) × (placed (r ∷ []) 0 (suc i) ≡ Some a))
        → (placed (y ∷ rows) (suc t) (suc i) ≡ Some a) ⊎ ((suc t ≡ suc (length rows)) × (placed (r ∷ []) 0 (suc i) ≡ Some a))
    go (inl h) = inl h
    go (inr h) = inr (ap suc h.0, h.1)

-- the element at a position after one was written
entry_put : {A : Type 0} (xs : List (Option A)) (n : ℕ) (x : A) (i : ℕ) (a : A) → entry_at (put_entry xs n x) i ≡ Some a
    → (entry_at xs i ≡ Some a) ⊎ (x ≡ a)
entry_put [] n x i a e = inl e
entry_put (None ∷ xs) zero x zero a e = inr (some_same x a e)
entry_put (Some y ∷ xs) zero x zero a e = inl e
entry_put (o ∷ xs) zero x (suc i) a e = inl e
entry_put (o ∷ xs) (suc n) x zero a e = inl e
entry_put (o ∷ xs) (suc n) x (suc i) a e = entry_put xs n x i a e

place_put : {A : Type 0} (rows : List (List (Option A))) (u j : ℕ) (x : A) (t i : ℕ) (a : A) → placed (put_place rows u j x) t i ≡ Some a
    → (placed rows t i ≡ Some a) ⊎ (x ≡ a)
place_put rows u j x t zero a e = absurd (no_entry a e)
place_put [] u j x t (suc i) a e = inl e
place_put (row ∷ rows) zero zero x t (suc i) a e = inl e
place_put (row ∷ rows) zero (suc j) x zero (suc i) a e = entry_put row j x i a e
place_put (row ∷ rows) zero (suc j) x (suc t) (suc i) a e = inl e
place_put (row ∷ rows) (suc u) j x zero (suc i) a e = inl e
place_put (row ∷ rows) (suc u) j x (suc t) (suc i) a e = place_put rows u j x t (suc i) a e

-- a row without entries carries its numbers
pub row_nothing : (row : List (Option Stored)) (said : List (Option SizeEntry)) → said ≡ [] → CarryRow row said
row_nothing row said none = record {
  each = λ i e there. absurd (no_entry e (sym (ap (λ (os : List (Option SizeEntry)). entry_at os i) none) ∙ there));
}

-- rows without entries carry the numbers of the table
pub places_nothing : (tab : Table) (said : List (Vec (Option SizeEntry) Global)) → said ≡ [] → CarryPlaces tab (map (λ row. row.items) said)
places_nothing tab said none = record {
  each = λ t i e there. absurd (nowhere t i e (sym (ap (λ (vs : List (Vec (Option SizeEntry) Global)). placed (map (λ row. row.items) vs) t i) none) ∙ there));
}
  where
    nowhere : (t i : ℕ) (e : SizeEntry) → placed [] t i ≡ Some e → ⊥
    nowhere t zero e h = no_entry e h
    nowhere t (suc i) e h = no_entry e h

-- the entry that was read at a position is the stored one
stored_at : (row : List (Option Stored)) (i : ℕ) (o : Option Stored) → i < length row → o ≡ get_or row i o → entry_at row i ≡ o
stored_at [] i o l e = absurd (omega (arith, l))
stored_at (x ∷ row) zero o l e = sym e
stored_at (x ∷ row) (suc i) o l e = stored_at row i o (omega (arith, l)) e

row_there : (rows : List (Vec (Option Stored) Global)) (t : ℕ) (r : Vec (Option Stored) Global) → t < length rows → r ≡ get_or rows t r
    → row_at (map (λ row. row.items) rows) t ≡ r.items
row_there [] t r l e = absurd (omega (arith, l))
row_there (x ∷ rows) zero r l e = ap (λ (v : Vec (Option Stored) Global). v.items) (sym e)
row_there (x ∷ rows) (suc t) r l e = row_there rows t r (omega (arith, l)) e

-- a row with one entry more carries its numbers
pub row_carried : (row : List (Option Stored)) (said new : List (Option SizeEntry)) (x : Option SizeEntry) (i : ℕ) (o : Option Stored)
    → CarryRow row said → new ≡ said ++ x ∷ [] → length said ≡ i → i < length row → o ≡ get_or row i o → CarriesIfThere (lemma_stored o) x
    → CarryRow row new
row_carried row said new x i o h is long low read k = record { each = each }
  where
    each : (j : ℕ) (e : SizeEntry) → entry_at new j ≡ Some e → CarriesNumber (lemma_stored (entry_at row j)) (size_stored e)
    each j e there = go (entry_pushed said x j e (sym (ap (λ (os : List (Option SizeEntry)). entry_at os j) is) ∙ there))
      where
        go : (entry_at said j ≡ Some e) ⊎ ((j ≡ length said) × (x ≡ Some e)) → CarriesNumber (lemma_stored (entry_at row j)) (size_stored e)
        go (inl old) = h.each j e old
        go (inr last) =
            subst (λ (n : ℕ). CarriesNumber n (size_stored e))
            (ap lemma_stored (sym (stored_at row i o low read)) ∙ ap (λ (m : ℕ). lemma_stored (entry_at row m)) (sym (last.0 ∙ long)))
            (subst (λ (y : Option SizeEntry). CarriesIfThere (lemma_stored o) y) last.1 k)

-- rows with one row more carry their numbers
pub rows_carried : (tab : Table) (said new : List (Vec (Option SizeEntry) Global)) (r : Vec (Option SizeEntry) Global) (t : ℕ)
    (row : Vec (Option Stored) Global) → CarryPlaces tab (map (λ row. row.items) said) → new ≡ said ++ r ∷ [] → length said ≡ t
    → t < length tab.sizes.items → row ≡ get_or tab.sizes.items t row → CarryRow row.items r.items → CarryPlaces tab (map (λ row. row.items) new)
rows_carried tab said new r t row h is long low read k = record { each = each }
  where
    lists : map (λ (v : Vec (Option SizeEntry) Global). v.items) new ≡ map (λ (v : Vec (Option SizeEntry) Global). v.items) said ++ r.items ∷ []
    lists = ap (map (λ (v : Vec (Option SizeEntry) Global). v.items)) is ∙ map-append (λ (v : Vec (Option SizeEntry) Global). v.items) said (r ∷ [])

    last : (i : ℕ) (e : SizeEntry) → placed (r.items ∷ []) 0 i ≡ Some e → CarriesNumber (number_at tab t i) (size_stored e)
    last zero e there = absurd (no_entry e there)
    last (suc i) e there =
        subst (λ (n : ℕ). CarriesNumber n (size_stored e))
        (ap (λ (os : List (Option Stored)). lemma_stored (entry_at os i)) (sym (row_there tab.sizes.items t row low read))) (k.each i e there)

    each : (u i : ℕ) (e : SizeEntry) → placed (map (λ row. row.items) new) u i ≡ Some e → CarriesNumber (number_at tab u i) (size_stored e)
    each u i e there =
        go (place_pushed (map (λ row. row.items) said) r.items u i e
        (sym (ap (λ (rows : List (List (Option SizeEntry))). placed rows u i) lists) ∙ there))
      where
        go : (placed (map (λ row. row.items) said) u i ≡ Some e)
            ⊎ ((u ≡ length (map (λ (v : Vec (Option SizeEntry) Global). v.items) said)) × (placed (r.items ∷ []) 0 i ≡ Some e))
            → CarriesNumber (number_at tab u i) (size_stored e)
        go (inl old) = h.each u i e old
        go (inr new_one) =
            subst (λ (n : ℕ). CarriesNumber (number_at tab n i) (size_stored e))
            (sym (new_one.0 ∙ (length-map said (λ (v : Vec (Option SizeEntry) Global). v.items) ∙ long))) (last i e new_one.1)

-- a reason carries any number
reason_carries : (x : SizeEntry) → IsReason (Some x) → (n : ℕ) → CarriesNumber n (size_stored x)
reason_carries (entries.Known s) h n = absurd (known h.why h.is_why)
  where
    known : (o : Option NoSize) → option_map size_of (Some (entries.Known s)) ≡ option_map Unsized o → ⊥
    known None e = cc
    known (Some w) e = cc
reason_carries (entries.UnboundedSide l) h n = tt
reason_carries (entries.OutOfLimits t) h n = tt
reason_carries (entries.Missing m) h n = tt
reason_carries (entries.Nonlinear m) h n = tt
reason_carries (entries.Untimed r) h n = tt
reason_carries (entries.Large k) h n = tt

-- rows keep their numbers when a reason is written
pub reason_kept : (old new : List (List (Option SizeEntry))) (u j : ℕ) (x : SizeEntry) → new ≡ put_place old u j x → IsReason (Some x) → KeepPlaces old new
reason_kept old new u j x is reason = record { each = λ tab h. record { each = each tab h } }
  where
    each : (tab : Table) → CarryPlaces tab old → (t i : ℕ) (e : SizeEntry) → placed new t i ≡ Some e → CarriesNumber (number_at tab t i) (size_stored e)
    each tab h t i e there = go (place_put old u j x t i e (sym (ap (λ (rows : List (List (Option SizeEntry))). placed rows t i) is) ∙ there))
      where
        go : (placed old t i ≡ Some e) ⊎ (x ≡ e) → CarriesNumber (number_at tab t i) (size_stored e)
        go (inl h2) = h.each t i e h2
        go (inr same) = subst (λ (y : SizeEntry). CarriesNumber (number_at tab t i) (size_stored y)) same (reason_carries x reason (number_at tab t i))

-- rows keep their own numbers
pub kept_all : (rows : List (List (Option SizeEntry))) → KeepPlaces rows rows
kept_all rows = record { each = λ tab h. h }

-- if second rows keep the numbers of first ones, and third rows those of second ones, the third keep those of the first
pub kept_on : (a b c : List (List (Option SizeEntry))) → KeepPlaces a b → KeepPlaces b c → KeepPlaces a c
kept_on a b c h k = record { each = λ tab x. k.each tab (h.each tab x) }

-- rows that are equal to those that carry numbers carry them
sizes_carried : (ns : ℕ → ℕ → ℕ) (t i : ℕ) (row : List SizeEntry)
    → ((j : ℕ) (e : SizeEntry) → entry_at (map (λ x. Some x) row) j ≡ Some e → CarriesNumber (ns t (i + j)) (size_stored e)) → EachNumbered (CarriesSize ns t) i row
sizes_carried ns t i [] h = tt
sizes_carried ns t i (x ∷ row) h = (
  subst (λ (n : ℕ). CarriesNumber (ns t n) (size_stored x)) (let z : i + 0 ≡ i = omega arith in z) (h 0 x refl),
  sizes_carried ns t (suc i) row
      (λ j e there. subst (λ (n : ℕ). CarriesNumber (ns t n) (size_stored e)) (let z : i + suc j ≡ suc i + j = omega arith in z) (h (suc j) e there)),
)

rows_all : (ns : ℕ → ℕ → ℕ) (t : ℕ) (rows : List (List SizeEntry))
    → ((u j : ℕ) (e : SizeEntry) → entry_at (row_at (map (λ row. map (λ x. Some x) row) rows) u) j ≡ Some e → CarriesNumber (ns (t + u) (suc j)) (size_stored e))
    → EachNumbered (CarriesSizes ns) t rows
rows_all ns t [] h = tt
rows_all ns t (row ∷ rows) h = (
  sizes_carried ns t 1 row
      (λ j e there. subst (λ (n : ℕ). CarriesNumber (ns t n) (size_stored e)) (let z : suc j ≡ 1 + j = omega arith in z)
      (subst (λ (n : ℕ). CarriesNumber (ns n (suc j)) (size_stored e)) (let z : t + 0 ≡ t = omega arith in z) (h 0 j e there))),
  rows_all ns (suc t) rows
      (λ u j e there. subst (λ (n : ℕ). CarriesNumber (ns n (suc j)) (size_stored e)) (let z : t + suc u ≡ suc t + u = omega arith in z) (h (suc u) j e there)),
)

-- rows in which all entries exist carry the numbers of the table, rule by rule
pub all_carried : (tab : Table) (rows : List (Vec SizeEntry Global)) (said : List (List (Option SizeEntry)))
    → map (λ row. map (λ x. Some x) row.items) rows ≡ said → CarryPlaces tab said → EachNumbered (CarriesSizes (number_at tab)) 0 (map (λ row. row.items) rows)
all_carried tab rows said same h =
    rows_all (number_at tab) 0 (map (λ row. row.items) rows)
    (λ u j e there. subst (λ (n : ℕ). CarriesNumber (number_at tab n (suc j)) (size_stored e)) (let z : u ≡ 0 + u = omega arith in z)
    (h.each u (suc j) e (sym (ap (λ (rs : List (List (Option SizeEntry))). entry_at (row_at rs u) j) (sym (fused rows) ∙ same)) ∙ there)))
  where
    fused : (rs : List (Vec SizeEntry Global)) → map (λ row. map (λ x. Some x) row.items) rs
        ≡ map (λ row. map (λ x. Some x) row) (map (λ (row : Vec SizeEntry Global). row.items) rs)
    fused [] = refl
    fused (r ∷ rs) = ap (λ (xs : List (List (Option SizeEntry))). map (λ x. Some x) r.items ∷ xs) (fused rs)

-- rows without the first one carry their numbers
pub rows_left : (ns : ℕ → ℕ → ℕ) (sizes left : List (Vec SizeEntry Global)) → left ≡ remove sizes 0
    → EachNumbered (CarriesSizes ns) 0 (map (λ row. row.items) sizes) → EachNumbered (CarriesSizes ns) 1 (map (λ row. row.items) left)
rows_left ns [] left e h = subst (λ (rows : List (Vec SizeEntry Global)). EachNumbered (CarriesSizes ns) 1 (map (λ row. row.items) rows)) (sym e) tt
rows_left ns (row ∷ rows) left e h = subst (λ (rs : List (Vec SizeEntry Global)). EachNumbered (CarriesSizes ns) 1 (map (λ row. row.items) rs)) (sym e) h.1
