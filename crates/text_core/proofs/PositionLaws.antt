-- A name's position among names that all differ.
use Rattle.std.proofs.Common.{◌≡◌, ℕ, zero, suc, ◌+◌, ◌<◌, Bool, true, false, not, cond, ◌||◌, List, [], ◌∷◌, length}
use Rattle.std.proofs.Common.{slice_index_or, refl, sym, ap, ◌∙◌, arith}
use Rattle.std.specs.List.{list_any}
use Rattle.model.specs.Programs.{Name}
use Rattle.text_core.specs.Names.{IsName, is_same, position_of, AreDistinct, AreNames}
use Rattle.text_core.proofs.NameLaws.{same_equal, equal_same, is_same_self}

-- the name at the position of a listed name is that name
pub at_position : (names : List Name) (w : Name) → position_of w names < length names → slice_index_or names (position_of w names) [] ≡ w
at_position [] w h = absurd (omega arith)
at_position (n ∷ names) w h = go (is_same w n) refl (λ k. at_position names w k)
  where
    go : (v : Bool) → is_same w n ≡ v → (position_of w names < length names → slice_index_or names (position_of w names) [] ≡ w) → slice_index_or (n ∷ names) (position_of w (n ∷ names)) [] ≡ w
    go true e ih = ap (λ (v : Bool). slice_index_or (n ∷ names) (cond (not v) (1 + position_of w names) 0) []) e ∙ sym (same_equal w n e)
    go false e ih =
        let p : position_of w (n ∷ names) ≡ suc (position_of w names) = ap (λ (v : Bool). cond (not v) (1 + position_of w names) 0) e ∙ omega arith in
        ap (λ (k : ℕ). slice_index_or (n ∷ names) k []) p ∙ ih (omega (arith, h, p))

-- a listed name is a name
pub listed_name : (names : List Name) (i : ℕ) → AreNames names → i < length names → IsName (slice_index_or names i [])
listed_name [] i are h = absurd (omega arith)
listed_name (n ∷ names) zero are h = are.0
listed_name (n ∷ names) (suc i) are h = listed_name names i are.2 (omega (arith, h))

-- a name that isn't among the others isn't equal to one of them
not_among : (names : List Name) (n : Name) (i : ℕ) → list_any (is_same n) names ≡ false → i < length names → is_same (slice_index_or names i []) n ≡ false
not_among [] n i h k = absurd (omega arith)
not_among (m ∷ names) n zero h k = go (is_same n m) (is_same m n) refl refl h
  where
    go : (v u : Bool) → is_same n m ≡ v → is_same m n ≡ u → v || list_any (is_same n) names ≡ false → is_same m n ≡ false
    go true u e f h = cc
    go false true e f h = let same = equal_same n m (sym (same_equal m n f)) in cc
    go false false e f h = f
not_among (m ∷ names) n (suc i) h k = not_among names n i (behind (is_same n m) h) (omega (arith, k))
  where
    behind : (v : Bool) → v || list_any (is_same n) names ≡ false → list_any (is_same n) names ≡ false
    behind true h = cc
    behind false h = h

-- the position of the name at index i is i
pub position_at : (names : List Name) (i : ℕ) → AreNames names → i < length names → position_of (slice_index_or names i []) names ≡ i
position_at [] i are h = absurd (omega arith)
position_at (n ∷ names) zero are h = ap (λ (v : Bool). cond (not v) (1 + position_of n names) 0) (is_same_self n)
position_at (n ∷ names) (suc i) are h =
    ap (λ (v : Bool). cond (not v) (1 + position_of (slice_index_or names i []) names) 0) (not_among names n i are.1 (omega (arith, h)))
    ∙ (let p = position_at names i are.2 (omega (arith, h)) in omega (arith, p))

-- well-formed names without repetition are distinct
pub names_distinct : (names : List Name) → AreNames names → AreDistinct names
names_distinct [] are = tt
names_distinct (n ∷ names) are = (are.1, names_distinct names are.2)
