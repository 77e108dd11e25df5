-- Cells by their index in a list.
use Rattle.std.proofs.Common.{◌≡◌, ◌≢◌, ℕ, zero, suc, ◌+◌, ◌<◌, ◌≤◌, ap, arith, refl, sym, ◌∙◌, subst, ◌⊎◌, inl, inr}
use Rattle.std.proofs.Common.{List, [], ◌∷◌, Some, None}
use Rattle.std.specs.Prelude.{slice_get}
use Rattle.sparse_merge.specs.Listing.{listed, Ascends, IsListing, LiesWithin, LiesAt}
use Rattle.std.proofs.lemmas.Bool.{cases_lt}
use Rattle.sparse_merge.proofs.Listings.{order_cases, same_or_other, listed-here, listed-there}

module _ {C : Type 0} (place_of : C → ℕ) where
  -- if no cell of the list is at a place, the list has none there
  pub listed-none : (cs : List C) (i : ℕ) → ((k : ℕ) (c : C) → slice_get cs k ≡ Some c → place_of c ≢ i)
      → listed place_of cs i ≡ None
  listed-none [] i apart = refl
  listed-none (c ∷ cs) i apart =
      listed-there place_of c cs i (apart 0 c refl) ∙ listed-none cs i (λ k d is. apart (suc k) d is)

  -- a cell that a list has at a place is at some index of the list
  pub index-of : (cs : List C) (i : ℕ) (c : C) → listed place_of cs i ≡ Some c → (k : ℕ) × (slice_get cs k ≡ Some c) × (place_of c ≡ i)
  index-of [] i c e = cc
  index-of (d ∷ cs) i c e = go (index-of cs i c) (same_or_other (place_of d) i)
    where
      go : (listed place_of cs i ≡ Some c → (k : ℕ) × (slice_get cs k ≡ Some c) × (place_of c ≡ i)) → (place_of d ≡ i) ⊎ (place_of d ≢ i)
          → (k : ℕ) × (slice_get (d ∷ cs) k ≡ Some c) × (place_of c ≡ i)
      go more (inl s) =
          let same : Some d ≡ Some c = sym (listed-here place_of d cs i s) ∙ e in
          let one : d ≡ c = cc in
          (0, same, ap place_of (sym one) ∙ s)
      go more (inr s) = let found = more (sym (listed-there place_of d cs i s) ∙ e) in (suc found.0, found.1, found.2)

  module _ (fits : C → Type 0) where
    -- a cell of a list that ascends from a place is at or above it
    pub index-from : (from : ℕ) (cs : List C) (k : ℕ) (c : C) → Ascends place_of fits from cs → slice_get cs k ≡ Some c
        → from ≤ place_of c
    index-from from [] k c a is = cc
    index-from from (d ∷ cs) zero c a is = let e : d ≡ c = cc in subst (λ (x : C). from ≤ place_of x) e a.0
    index-from from (d ∷ cs) (suc k) c a is = let more = index-from (suc (place_of d)) cs k c a.2 is in let le = a.0 in omega arith

    -- of two cells, the one with the lesser index has the lesser place
    pub index-order : (from : ℕ) (cs : List C) (k l : ℕ) (c d : C) → Ascends place_of fits from cs → slice_get cs k ≡ Some c
        → slice_get cs l ≡ Some d → k < l → place_of c < place_of d
    index-order from [] k l c d a is js m = cc
    index-order from (x ∷ cs) zero zero c d a is js m = absurd (omega arith)
    index-order from (x ∷ cs) zero (suc l) c d a is js m =
        let e : x ≡ c = cc in subst (λ (y : C). place_of y < place_of d) e (let more = index-from (suc (place_of x)) cs l d a.2 js in omega arith)
    index-order from (x ∷ cs) (suc k) zero c d a is js m = absurd (omega arith)
    index-order from (x ∷ cs) (suc k) (suc l) c d a is js m = index-order (suc (place_of x)) cs k l c d a.2 is js (omega arith)

    -- a list that ascends has the cell of each index at that cell's place
    pub listed-index : (from : ℕ) (cs : List C) (k : ℕ) (c : C) → Ascends place_of fits from cs → slice_get cs k ≡ Some c
        → listed place_of cs (place_of c) ≡ Some c
    listed-index from [] k c a is = cc
    listed-index from (d ∷ cs) zero c a is = let e : d ≡ c = cc in listed-here place_of d cs (place_of c) (ap place_of e) ∙ is
    listed-index from (d ∷ cs) (suc k) c a is =
        let more = index-from (suc (place_of d)) cs k c a.2 is in
        listed-there place_of d cs (place_of c) (λ e. absurd (omega arith)) ∙ listed-index (suc (place_of d)) cs k c a.2 is

    -- if a cell's place is below i, the range can begin after it
    pub lies-behind : (cs : List C) (i low high m : ℕ) (x : C) → IsListing place_of fits cs → LiesWithin place_of cs i low high
        → m < high → slice_get cs m ≡ Some x → place_of x < i → LiesWithin place_of cs i (m + 1) high
    lies-behind cs i low high m x listing lies inside is less = record {
      order = omega arith;
      within = lies.within;
      before = λ k c at l. go k c at l (order_cases k m);
      behind = lies.behind;
    }
      where
        go : (k : ℕ) (c : C) → slice_get cs k ≡ Some c → k < m + 1 → (k < m) ⊎ ((k ≡ m) ⊎ (m < k)) → place_of c < i
        go k c at l (inl b) = let order = index-order 0 cs k m c x listing.ascends at is b in omega arith
        go k c at l (inr (inl e)) =
            let same : Some c ≡ Some x = sym at ∙ (ap (slice_get cs) e ∙ is) in
            let one : c ≡ x = cc in subst (λ (y : C). place_of y < i) (sym one) less
        go k c at l (inr (inr b)) = absurd (omega arith)

    -- if a cell's place is above i, the range can end before it
    pub lies-before : (cs : List C) (i low high m : ℕ) (x : C) → IsListing place_of fits cs → LiesWithin place_of cs i low high
        → low ≤ m → m < high → slice_get cs m ≡ Some x → i < place_of x → LiesWithin place_of cs i low m
    lies-before cs i low high m x listing lies above within is more = record {
      order = above;
      within = let w = lies.within in omega arith;
      before = lies.before;
      behind = λ k c at l. go k c at l (order_cases k m);
    }
      where
        go : (k : ℕ) (c : C) → slice_get cs k ≡ Some c → m ≤ k → (k < m) ⊎ ((k ≡ m) ⊎ (m < k)) → i < place_of c
        go k c at l (inl b) = absurd (omega arith)
        go k c at l (inr (inl e)) =
            let same : Some c ≡ Some x = sym at ∙ (ap (slice_get cs) e ∙ is) in
            let one : c ≡ x = cc in subst (λ (y : C). i < place_of y) (sym one) more
        go k c at l (inr (inr b)) = let order = index-order 0 cs m k x c listing.ascends is at b in omega arith

    -- looking up a cell's place in a listing gives that cell
    pub found-is : (cs : List C) (i m : ℕ) (x : C) → IsListing place_of fits cs → slice_get cs m ≡ Some x → place_of x ≡ i
        → Some x ≡ listed place_of cs i
    found-is cs i m x listing is at =
        sym (listed-index 0 cs m x listing.ascends is) ∙ ap (listed place_of cs) at

  -- when the range is empty, its bound is where a cell at place i would be inserted
  pub lies-at : (cs : List C) (i low high : ℕ) → LiesWithin place_of cs i low high → high ≤ low → LiesAt place_of cs i low
  lies-at cs i low high lies l = record {
    order = omega arith;
    within = let w = lies.within in let o = lies.order in omega arith;
    before = lies.before;
    behind = λ k c is m. lies.behind k c is (let o = lies.order in omega arith);
  }

  -- when the range is empty, the list has no cell at place i
  pub none-lies : (cs : List C) (i low high : ℕ) → LiesWithin place_of cs i low high → high ≤ low → None ≡ listed place_of cs i
  none-lies cs i low high lies l = sym (listed-none cs i (λ k c is e. go k c is e (cases_lt k low)))
    where
      go : (k : ℕ) (c : C) → slice_get cs k ≡ Some c → place_of c ≡ i → (k < low) ⊎ (low ≤ k) → ⊥
      go k c is e (inl b) = absurd (let less = lies.before k c is b in omega arith)
      go k c is e (inr b) = absurd (let more = lies.behind k c is (omega arith) in omega arith)
