-- Elements of lists.
use Rattle.std.proofs.Common.{◌≡◌, ◌≢◌, ◌⊎◌, inl, inr, ℕ, zero, suc, List, [], ◌∷◌, Contains, refl, sym, arith, true}
use Rattle.std.proofs.Common.{false, ◌==◌}
use Rattle.std.proofs.lemmas.Bool.Decides.{eqb_tells}

-- an element of a list is its first or one of the others
pub Contains-cons_cases : (b : ℕ) (bs : List ℕ) (x : ℕ) → Contains (b ∷ bs) x → (x ≡ b) ⊎ Contains bs x
Contains-cons_cases b bs x (zero, low, e) = inl (sym e)
Contains-cons_cases b bs x (suc k, low, e) = inr (k, omega arith, e)

-- the first of a list is one of its elements
pub Contains-first : (b : ℕ) (bs : List ℕ) → Contains (b ∷ bs) b
Contains-first b bs = (zero, omega arith, refl)

-- an element of the others is one of the list
pub Contains-later : (b : ℕ) (bs : List ℕ) (x : ℕ) → Contains bs x → Contains (b ∷ bs) x
Contains-later b bs x (k, low, e) = (suc k, omega arith, e)

-- nothing is an element of the empty list
pub none_in_empty : {A : Type 0} (x : A) → Contains [] x → ⊥
none_in_empty x (k, low, e) = omega arith

-- the only element of a list of one
pub only_element : (b x : ℕ) → Contains (b ∷ []) x → x ≡ b
only_element b x h = go (Contains-cons_cases b [] x h)
  where
    go : (x ≡ b) ⊎ Contains [] x → x ≡ b
    go (inl e) = e
    go (inr none) = absurd (none_in_empty x none)

-- Two numbers are equal or not, as the test says.
abbrev pub Decided : ℕ → ℕ → Type 0
Decided x b = ((x == b) ≡ true) × (x ≡ b) ⊎ ((x == b) ≡ false) × (x ≢ b)

-- Two numbers are equal, or they aren't.
pub decided : (x b : ℕ) → Decided x b
decided x b = eqb_tells x b
