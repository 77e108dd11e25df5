-- Inserting a cell into a list.
use Rattle.std.proofs.Common.{◌≡◌, ◌≢◌, ℕ, zero, suc, ◌<◌, ◌≤◌, ap, arith, refl, sym, ◌∙◌, ◌⊎◌, inl, inr, length}
use Rattle.std.proofs.Common.{List, [], ◌∷◌, Option, Some, None}
use Rattle.std.specs.Prelude.{slice_get, nat_eq, if◌then◌else◌}
use Rattle.std.specs.List.{insert}
use Rattle.sparse_merge.specs.Listing.{listed, Ascends, IsListing, LiesAt}
use Rattle.sparse_merge.proofs.Listings.{same_or_other, listed-here, listed-there}

module _ {C : Type 0} (place_of : C → ℕ) where
  -- after a cell is inserted, the list has the same cell as before at each other place
  pub listed-other_insert : (cs : List C) (k : ℕ) (x : C) (i : ℕ) → k ≤ length cs → place_of x ≢ i
      → listed place_of (insert cs k x) i ≡ listed place_of cs i
  listed-other_insert [] zero x i l d = listed-there place_of x [] i d
  listed-other_insert [] (suc k) x i l d = absurd (omega arith)
  listed-other_insert (c ∷ cs) zero x i l d = listed-there place_of x (c ∷ cs) i d
  listed-other_insert (c ∷ cs) (suc k) x i l d =
      ap (λ (o : Option C). if nat_eq (place_of c) i then Some c else o) (listed-other_insert cs k x i (omega arith) d)

  -- after a cell is inserted, the list has it at its place, if it had none there
  pub listed-insert : (cs : List C) (k : ℕ) (x : C) (i : ℕ) → k ≤ length cs → place_of x ≡ i → listed place_of cs i ≡ None
      → listed place_of (insert cs k x) i ≡ Some x
  listed-insert [] zero x i l e none = listed-here place_of x [] i e
  listed-insert [] (suc k) x i l e none = absurd (omega arith)
  listed-insert (c ∷ cs) zero x i l e none = listed-here place_of x (c ∷ cs) i e
  listed-insert (c ∷ cs) (suc k) x i l e none = go (listed-insert cs k x i (omega arith) e) (same_or_other (place_of c) i)
    where
      go : (listed place_of cs i ≡ None → listed place_of (insert cs k x) i ≡ Some x) → (place_of c ≡ i) ⊎ (place_of c ≢ i)
          → listed place_of (c ∷ insert cs k x) i ≡ Some x
      go more (inl s) = absurd (let some = listed-here place_of c cs i s in cc)
      go more (inr s) = listed-there place_of c (insert cs k x) i s ∙ more (sym (listed-there place_of c cs i s) ∙ none)

  module _ (fits : C → Type 0) where
    -- after a cell is inserted where it belongs, the list still ascends
    insert-ascends : (from : ℕ) (cs : List C) (k : ℕ) (x : C) → Ascends place_of fits from cs → from ≤ place_of x → fits x → k ≤ length cs
        → ((m : ℕ) (c : C) → slice_get cs m ≡ Some c → m < k → place_of c < place_of x)
        → ((m : ℕ) (c : C) → slice_get cs m ≡ Some c → k ≤ m → place_of x < place_of c)
        → Ascends place_of fits from (insert cs k x)
    insert-ascends from [] zero x a l f n before behind = (l, f, tt)
    insert-ascends from [] (suc k) x a l f n before behind = absurd (omega arith)
    insert-ascends from (c ∷ cs) zero x a l f n before behind = (l, f, (omega (arith, behind 0 c refl (omega arith)), a.1, a.2))
    insert-ascends from (c ∷ cs) (suc k) x a l f n before behind = (
      a.0,
      a.1,
      insert-ascends (suc (place_of c)) cs k x a.2 (before 0 c refl (omega arith)) f (omega arith)
          (λ m d is b. before (suc m) d is (omega arith)) (λ m d is b. behind (suc m) d is (omega arith)),
    )

    -- after a cell is inserted where it belongs, the list is still a listing
    pub insert-listing : (cs : List C) (k : ℕ) (x : C) → IsListing place_of fits cs → LiesAt place_of cs (place_of x) k → fits x
        → IsListing place_of fits (insert cs k x)
    insert-listing cs k x listing lies f = record {
      ascends = insert-ascends 0 cs k x listing.ascends (omega arith) f lies.within lies.before lies.behind;
    }
