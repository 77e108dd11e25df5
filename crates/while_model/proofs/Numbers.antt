-- Points of moves in the order of their first occurrence, and their numbers.
use Rattle.std.proofs.Common.{◌≡◌, ◌≢◌, ◌⊎◌, inl, inr, ℕ, suc, ◌==◌, Bool, true, false, List, [], ◌∷◌}
use Rattle.std.proofs.Common.{Some, refl, sym, ◌∙◌, ap, subst, arith, slice_get}
use Rattle.std.specs.List.{list_any}
use Rattle.std.proofs.lemmas.Bool.Decides.{eqb_tells}
use Rattle.model.proofs.Membership.{no_is_not_yes}
use Rattle.while_model.specs.Moves.{Move}
use Rattle.while_model.specs.Translation.{with_point, with_points, number_in}
use Rattle.while_model.proofs.Members.{IsIn, is_in-left, is_in-right}

-- A point that the test by `list_any` finds is in the list.
any_is_in : (k : ℕ) (points : List ℕ) → list_any (λ x. x == k) points ≡ true → IsIn k points
any_is_in k [] h = absurd (no_is_not_yes false refl h)
any_is_in k (x ∷ points) h = go (eqb_tells x k) (any_is_in k points)
  where
    go : ((x == k) ≡ true) × (x ≡ k) ⊎ ((x == k) ≡ false) × (x ≢ k)
        → (list_any (λ y. y == k) points ≡ true → IsIn k points) → (k ≡ x) ⊎ IsIn k points
    go (inl (test, e)) later = inl (sym e)
    go (inr (test, other)) later = inr (later (rw test at h))

-- An added point is in the list, and so is each point that was in it.
pub with_point-has : (points : List ℕ) (k : ℕ) → IsIn k (with_point points k)
with_point-has points k = go (list_any (λ x. x == k) points) refl
  where
    go : (v : Bool) → list_any (λ x. x == k) points ≡ v → IsIn k (with_point points k)
    go true e = rw e (any_is_in k points e)
    go false e = rw e (is_in-right k points (k ∷ []) (inl refl))

pub with_point-keeps : (points : List ℕ) (k j : ℕ) → IsIn j points → IsIn j (with_point points k)
with_point-keeps points k j h = go (list_any (λ x. x == k) points) refl
  where
    go : (v : Bool) → list_any (λ x. x == k) points ≡ v → IsIn j (with_point points k)
    go true e = rw e h
    go false e = rw e (is_in-left j points (k ∷ []) h)

pub with_points-keeps : (points : List ℕ) (ms : List Move) (j : ℕ) → IsIn j points → IsIn j (with_points points ms)
with_points-keeps points [] j h = h
with_points-keeps points (m ∷ ms) j h =
    with_points-keeps (with_point (with_point points m.from) m.to) ms j
    (with_point-keeps (with_point points m.from) m.to j (with_point-keeps points m.from j h))

-- The point that a move leaves is among the points.
pub from_among : (points : List ℕ) (ms : List Move) (m : Move) → IsIn m ms → IsIn m.from (with_points points ms)
from_among points [] m h = absurd h
from_among points (n ∷ ms) m (inl e) =
    subst (λ (x : Move). IsIn x.from (with_points points (n ∷ ms))) (sym e)
    (with_points-keeps (with_point (with_point points n.from) n.to) ms n.from
    (with_point-keeps (with_point points n.from) n.to n.from (with_point-has points n.from)))
from_among points (n ∷ ms) m (inr h) = from_among (with_point (with_point points n.from) n.to) ms m h

-- Two points with the same number are the same, if one of them is among the points.
pub number_in-unique : (points : List ℕ) (k j : ℕ) → IsIn j points → number_in points k ≡ number_in points j → k ≡ j
number_in-unique [] k j h same = absurd h
number_in-unique (x ∷ points) k j h same = go (number_in-unique points k j) (eqb_tells x k) (eqb_tells x j)
  where
    go : (IsIn j points → number_in points k ≡ number_in points j → k ≡ j)
        → ((x == k) ≡ true) × (x ≡ k) ⊎ ((x == k) ≡ false) × (x ≢ k)
        → ((x == j) ≡ true) × (x ≡ j) ⊎ ((x == j) ≡ false) × (x ≢ j) → k ≡ j
    go further (inl (tk, ek)) (inl (tj, ej)) = sym ek ∙ ej
    go further (inl (tk, ek)) (inr (tj, nj)) = absurd (omega (arith, numbers))
      where
        numbers : 0 ≡ suc (number_in points j)
        numbers = rw tj at (rw tk at same)
    go further (inr (tk, nk)) (inl (tj, ej)) = absurd (omega (arith, numbers))
      where
        numbers : suc (number_in points k) ≡ 0
        numbers = rw tj at (rw tk at same)
    go further (inr (tk, nk)) (inr (tj, nj)) = later h
      where
        numbers : suc (number_in points k) ≡ suc (number_in points j)
        numbers = rw tj at (rw tk at same)

        later : (j ≡ x) ⊎ IsIn j points → k ≡ j
        later (inl e) = absurd (nj (sym e))
        later (inr there) = further there (omega (arith, numbers))

-- The point at a point's number is that point.
pub point_at : (points : List ℕ) (k : ℕ) → IsIn k points → slice_get points (number_in points k) ≡ Some k
point_at [] k h = absurd h
point_at (x ∷ points) k h = go (point_at points k) (eqb_tells x k)
  where
    go : (IsIn k points → slice_get points (number_in points k) ≡ Some k)
        → ((x == k) ≡ true) × (x ≡ k) ⊎ ((x == k) ≡ false) × (x ≢ k)
        → slice_get (x ∷ points) (number_in (x ∷ points) k) ≡ Some k
    go further (inl (test, e)) = rw test (ap (λ z. Some z) e)
    go further (inr (test, other)) = later h
      where
        later : (k ≡ x) ⊎ IsIn k points → slice_get (x ∷ points) (number_in (x ∷ points) k) ≡ Some k
        later (inl e) = absurd (other (sym e))
        later (inr there) = rw test (further there)
