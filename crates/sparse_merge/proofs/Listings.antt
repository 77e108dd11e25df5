-- The cell of a list at a place.
use Rattle.std.proofs.Common.{◌≡◌, ◌≢◌, ℕ, suc, ◌<◌, ◌≤◌, ap, arith, refl, sym, ◌∙◌, Bool, true, false, ◌⊎◌, inl, inr}
use Rattle.std.proofs.Common.{List, [], ◌∷◌, ◌++◌, Option, Some, None}
use Rattle.std.specs.Prelude.{nat_eq, if◌then◌else◌}
use Rattle.std.proofs.lemmas.Bool.{eq-eqb, ne_eqb, cases_lt}
use Rattle.std.proofs.lemmas.Bool.Decides.{eqb_tells}
use Rattle.sparse_merge.specs.Listing.{listed, Ascends}
use Rattle.sparse_merge.specs.Merging.{BeginsFrom}

-- Two numbers are equal, or they aren't.
pub same_or_other : (i k : ℕ) → (i ≡ k) ⊎ (i ≢ k)
same_or_other i k = go (eqb_tells i k)
  where
    go : ((nat_eq i k ≡ true) × (i ≡ k)) ⊎ ((nat_eq i k ≡ false) × (i ≢ k)) → (i ≡ k) ⊎ (i ≢ k)
    go (inl e) = inl e.1
    go (inr d) = inr d.1

-- a number is below, the same as, or above another
pub order_cases : (i k : ℕ) → (i < k) ⊎ ((i ≡ k) ⊎ (k < i))
order_cases i k = grind arith

module _ {C : Type 0} (place_of : C → ℕ) where
  -- a list has its first cell at that cell's place
  pub listed-here : (c : C) (cs : List C) (i : ℕ) → place_of c ≡ i → listed place_of (c ∷ cs) i ≡ Some c
  listed-here c cs i e = ap (λ (b : Bool). if b then Some c else listed place_of cs i) (eq-eqb (place_of c) i e)

  -- at each other place a list has the same cell as its rest
  pub listed-there : (c : C) (cs : List C) (i : ℕ) → place_of c ≢ i → listed place_of (c ∷ cs) i ≡ listed place_of cs i
  listed-there c cs i d = ap (λ (b : Bool). if b then Some c else listed place_of cs i) (ne_eqb (place_of c) i d)

  -- a list that ascends from a place has no cell below it
  pub listed-before : (fits : C → Type 0) (from i : ℕ) (cs : List C) → Ascends place_of fits from cs → i < from
      → listed place_of cs i ≡ None
  listed-before fits from i [] a l = refl
  listed-before fits from i (c ∷ cs) a l =
      let le = a.0 in
      listed-there c cs i (λ e. absurd (omega arith)) ∙ listed-before fits (suc (place_of c)) i cs a.2 (omega arith)

  -- a list that ascends from a place ascends from each one at or below its first cell
  pub ascends-from : (fits : C → Type 0) (from k : ℕ) (cs : List C) → Ascends place_of fits from cs → BeginsFrom place_of k cs
      → Ascends place_of fits k cs
  ascends-from fits from k [] a b = tt
  ascends-from fits from k (c ∷ cs) a b = (b, a.1, a.2)

  -- if a list has a first cell, but none from place k on, its first cell is below k, and its rest has none from k on
  pub ends-first : (c : C) (cs : List C) (k : ℕ) → ((i : ℕ) → k ≤ i → listed place_of (c ∷ cs) i ≡ None) → place_of c < k
  ends-first c cs k none = go (cases_lt (place_of c) k)
    where
      go : (place_of c < k) ⊎ (k ≤ place_of c) → place_of c < k
      go (inl l) = l
      go (inr l) = absurd (let none_here = none (place_of c) l in let some = listed-here c cs (place_of c) refl in cc)

  -- if a list has no cell from place k on, neither has its rest
  pub ends-rest : (c : C) (cs : List C) (k : ℕ) → ((i : ℕ) → k ≤ i → listed place_of (c ∷ cs) i ≡ None)
      → (i : ℕ) → k ≤ i → listed place_of cs i ≡ None
  ends-rest c cs k none i l =
      let before = ends-first c cs k none in
      sym (listed-there c cs i (λ e. absurd (omega arith))) ∙ none i l

  -- if a list ascends and has no cell from place k on, it still ascends with a cell from k on appended
  pub ascends-put : (fits : C → Type 0) (from k : ℕ) (cs : List C) (d : C) → Ascends place_of fits from cs
      → ((i : ℕ) → k ≤ i → listed place_of cs i ≡ None) → from ≤ place_of d → k ≤ place_of d → fits d
      → Ascends place_of fits from (cs ++ (d ∷ []))
  ascends-put fits from k [] d a none l m f = (l, f, tt)
  ascends-put fits from k (c ∷ cs) d a none l m f =
      let before = ends-first c cs k none in
      (a.0, a.1, ascends-put fits (suc (place_of c)) k cs d a.2 (ends-rest c cs k none) (omega arith) m f)

  -- after a cell is appended, the list has the same cell as before at each other place
  pub listed-other_put : (cs : List C) (d : C) (i : ℕ) → place_of d ≢ i → listed place_of (cs ++ (d ∷ [])) i ≡ listed place_of cs i
  listed-other_put [] d i apart = listed-there d [] i apart
  listed-other_put (c ∷ cs) d i apart = ap (λ (o : Option C). if nat_eq (place_of c) i then Some c else o) (listed-other_put cs d i apart)

  -- after a cell is appended, the list has it at its place, if it had none there
  pub listed-put : (cs : List C) (d : C) (i : ℕ) → place_of d ≡ i → listed place_of cs i ≡ None
      → listed place_of (cs ++ (d ∷ [])) i ≡ Some d
  listed-put [] d i e none = listed-here d [] i e
  listed-put (c ∷ cs) d i e none = go (listed-put cs d i e) (same_or_other (place_of c) i)
    where
      go : (listed place_of cs i ≡ None → listed place_of (cs ++ (d ∷ [])) i ≡ Some d) → (place_of c ≡ i) ⊎ (place_of c ≢ i)
          → listed place_of ((c ∷ cs) ++ (d ∷ [])) i ≡ Some d
      go more (inl s) = absurd (let some = listed-here c cs i s in cc)
      go more (inr s) = listed-there c (cs ++ (d ∷ [])) i s ∙ more (sym (listed-there c cs i s) ∙ none)
