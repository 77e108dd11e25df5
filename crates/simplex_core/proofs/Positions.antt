-- Reading a list after an element was written.
use Rattle.std.proofs.Common.{◌≡◌, ◌≢◌, ℕ, zero, suc, ◌<◌, ap, arith, refl, List, []}
use Rattle.std.proofs.Common.{◌∷◌, length, Some}
use Rattle.std.specs.Prelude.{slice_get, slice_set}

-- the element at the written position
pub slice_get-set_same : {X : Type 0} (xs : List X) (i : ℕ) (x : X) → i < length xs → slice_get (slice_set xs i x) i ≡ Some x
slice_get-set_same [] i x l = absurd (omega arith)
slice_get-set_same (y ∷ ys) zero x l = refl
slice_get-set_same (y ∷ ys) (suc i) x l = slice_get-set_same ys i x (omega arith)

-- the element at another position
pub slice_get-set_other : {X : Type 0} (xs : List X) (i j : ℕ) (x : X) → j ≢ i → slice_get (slice_set xs i x) j ≡ slice_get xs j
slice_get-set_other [] i j x d = refl
slice_get-set_other (y ∷ ys) zero zero x d = absurd (d refl)
slice_get-set_other (y ∷ ys) zero (suc j) x d = refl
slice_get-set_other (y ∷ ys) (suc i) zero x d = refl
slice_get-set_other (y ∷ ys) (suc i) (suc j) x d = slice_get-set_other ys i j x (λ e. d (ap suc e))

-- a list has an element at each position below its length
pub slice_get-there : {X : Type 0} (xs : List X) (i : ℕ) → i < length xs → (x : X) × (slice_get xs i ≡ Some x)
slice_get-there [] i l = absurd (omega arith)
slice_get-there (y ∷ ys) zero l = (y, refl)
slice_get-there (y ∷ ys) (suc i) l = slice_get-there ys i (omega arith)
