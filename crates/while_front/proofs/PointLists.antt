-- The points of moves: none occurs twice, each has a property that all ends of moves have, and there are at most two
-- per move.
use Rattle.std.proofs.Common.{◌≡◌, ◌≢◌, ◌⊎◌, inl, inr, ℕ, suc, ◌+◌, ◌*◌, ◌<◌, ◌≤◌, ◌==◌, ◌||◌, Bool, true, false, List, []}
use Rattle.std.proofs.Common.{◌∷◌, ◌++◌, length, refl, sym, subst, arith, length-append}
use Rattle.std.specs.Prelude.{⊤}
use Rattle.std.specs.List.{AllByRecursion, list_any}
use Rattle.std.proofs.lemmas.Bool.{true≢false}
use Rattle.std.proofs.lemmas.Bool.Decides.{eqb_tells}
use Rattle.while_model.specs.Moves.{Move}
use Rattle.while_model.specs.Translation.{with_point, with_points, number_in}
use Rattle.while_model.proofs.Members.{IsIn, is_in-append}
use Rattle.while_model.proofs.Numbers.{with_point-has, with_points-keeps}

-- No point occurs twice.
abbrev pub AreApart : List ℕ → Type 0
AreApart [] = ⊤
AreApart (x ∷ xs) = ¬ (IsIn x xs) × AreApart xs

-- A point that the test by `list_any` doesn't find isn't in the list.
not_in : (k : ℕ) (points : List ℕ) → list_any (λ x. x == k) points ≡ false → ¬ (IsIn k points)
not_in k [] h i = i
not_in k (x ∷ points) h i = go (eqb_tells x k) (not_in k points) i
  where
    go : ((x == k) ≡ true) × (x ≡ k) ⊎ ((x == k) ≡ false) × (x ≢ k)
        → (list_any (λ y. y == k) points ≡ false → ¬ (IsIn k points)) → ¬ ((k ≡ x) ⊎ IsIn k points)
    go (inl (test, e)) later j = true≢false (rw test at h)
    go (inr (test, other)) later (inl e) = other (sym e)
    go (inr (test, other)) later (inr there) = later (rw test at h) there

-- If no point occurs twice, neither does one after a new point is appended.
apart_append : (points : List ℕ) (k : ℕ) → AreApart points → ¬ (IsIn k points) → AreApart (points ++ k ∷ [])
apart_append [] k h new = ((λ i. i), tt)
apart_append (x ∷ points) k (absent, h) new = (
  (λ i. go (is_in-append x points (k ∷ []) i)),
  apart_append points k h (λ i. new (inr i)),
)
  where
    go : IsIn x points ⊎ IsIn x (k ∷ []) → ⊥
    go (inl there) = absent there
    go (inr (inl e)) = new (inl (sym e))
    go (inr (inr nowhere)) = nowhere

apart_point : (points : List ℕ) (k : ℕ) → AreApart points → AreApart (with_point points k)
apart_point points k h = go (list_any (λ x. x == k) points) refl
  where
    go : (v : Bool) → list_any (λ x. x == k) points ≡ v → AreApart (with_point points k)
    go true e = rw e h
    go false e = rw e (apart_append points k h (not_in k points e))

-- None of the points of moves occurs twice.
pub apart_points : (points : List ℕ) (ms : List Move) → AreApart points → AreApart (with_points points ms)
apart_points points [] h = h
apart_points points (m ∷ ms) h =
    apart_points (with_point (with_point points m.from) m.to) ms
    (apart_point (with_point points m.from) m.to (apart_point points m.from h))

-- A predicate that holds of all elements and of one more holds of the list with that one appended.
pub all_append : {X : Type 0} (P : X → Type 0) (xs : List X) (y : X) → AllByRecursion P xs → P y
    → AllByRecursion P (xs ++ y ∷ [])
all_append P [] y h p = (p, tt)
all_append P (x ∷ xs) y h p = (h.0, all_append P xs y h.1 p)

all_point : (P : ℕ → Type 0) (points : List ℕ) (k : ℕ) → AllByRecursion P points → P k
    → AllByRecursion P (with_point points k)
all_point P points k h p = go (list_any (λ x. x == k) points) refl
  where
    go : (v : Bool) → list_any (λ x. x == k) points ≡ v → AllByRecursion P (with_point points k)
    go true e = rw e h
    go false e = rw e (all_append P points k h p)

-- A predicate that holds of both ends of each move holds of each point.
pub all_points : (P : ℕ → Type 0) (points : List ℕ) (ms : List Move) → AllByRecursion P points
    → ((m : Move) → IsIn m ms → P m.from × P m.to) → AllByRecursion P (with_points points ms)
all_points P points [] h each = h
all_points P points (m ∷ ms) h each =
    all_points P (with_point (with_point points m.from) m.to) ms
    (all_point P (with_point points m.from) m.to (all_point P points m.from h (each m (inl refl)).0) (each m (inl refl)).1)
    (λ n i. each n (inr i))

-- The point that a move reaches is among the points.
pub to_among : (points : List ℕ) (ms : List Move) (m : Move) → IsIn m ms → IsIn m.to (with_points points ms)
to_among points [] m h = absurd h
to_among points (n ∷ ms) m (inl e) =
    subst (λ (x : Move). IsIn x.to (with_points points (n ∷ ms))) (sym e)
    (with_points-keeps (with_point (with_point points n.from) n.to) ms n.to
    (with_point-has (with_point points n.from) n.to))
to_among points (n ∷ ms) m (inr h) = to_among (with_point (with_point points n.from) n.to) ms m h

-- The number of a point is below the number of points.
pub number_below : (points : List ℕ) (k : ℕ) → IsIn k points → number_in points k < length points
number_below [] k h = absurd h
number_below (x ∷ points) k h = go (number_below points k) (eqb_tells x k) h
  where
    go : (IsIn k points → number_in points k < length points)
        → ((x == k) ≡ true) × (x ≡ k) ⊎ ((x == k) ≡ false) × (x ≢ k) → (k ≡ x) ⊎ IsIn k points
        → number_in (x ∷ points) k < suc (length points)
    go later (inl (test, e)) i = rw test (omega arith)
    go later (inr (test, other)) (inl e) = absurd (other (sym e))
    go later (inr (test, other)) (inr there) = let low = later there in rw test (omega (arith, low))

length_point : (points : List ℕ) (k : ℕ) → length (with_point points k) ≤ length points + 1
length_point points k = go (list_any (λ x. x == k) points) refl
  where
    go : (v : Bool) → list_any (λ x. x == k) points ≡ v → length (with_point points k) ≤ length points + 1
    go true e = rw e (omega arith)
    go false e = rw e (omega (arith, length-append points (k ∷ [])))

-- There are at most two points per move.
pub length_points : (points : List ℕ) (ms : List Move)
    → length (with_points points ms) ≤ length points + 2 * length ms
length_points points [] = omega arith
length_points points (m ∷ ms) =
    let one = length_point points m.from in
    let two = length_point (with_point points m.from) m.to in
    let later = length_points (with_point (with_point points m.from) m.to) ms in omega (arith, one, two, later)
