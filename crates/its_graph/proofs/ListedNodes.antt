-- Nodes in small lists of components.
use Rattle.std.proofs.Common.{◌≡◌, ◌⊎◌, inl, inr, ℕ, zero, suc, ◌<◌, List, [], ◌∷◌, Contains, refl, sym, subst, arith}
use Rattle.std.specs.List.Sorted.{IsStrictlyIncreasing}
use Rattle.its_graph.specs.Components.{IsListed}
use Rattle.its_graph.specs.WorkedComponents.{zero_alone}
use Rattle.its_graph.proofs.Elements.{Contains-cons_cases, only_element}

-- The number is 0, 1 or 2.
abbrev pub Below : ℕ → Type 0
Below a = (a ≡ 0) ⊎ ((a ≡ 1) ⊎ (a ≡ 2))

-- Each number below three is 0, 1 or 2.
pub below-three : (a : ℕ) → a < 3 → Below a
below-three zero low = inl refl
below-three (suc zero) low = inr (inl refl)
below-three (suc (suc zero)) low = inr (inr refl)
below-three (suc (suc (suc a))) low = absurd (omega (arith, low))

-- The node 0 is in its own component.
pub in-first : IsListed zero_alone 0
in-first = record { component = 0 ∷ []; listed = (0, omega arith, refl); member = (0, omega arith, refl) }

-- An element of a list of one is that one.
pub in-one : (x b : ℕ) → Contains (x ∷ []) b → b ≡ x
in-one x b h = only_element x b h

-- An element of a list of two is the one or the other.
pub in-two : (x y b : ℕ) → Contains (x ∷ y ∷ []) b → (b ≡ x) ⊎ (b ≡ y)
in-two x y b h = go (Contains-cons_cases x (y ∷ []) b h)
  where
    go : (b ≡ x) ⊎ Contains (y ∷ []) b → (b ≡ x) ⊎ (b ≡ y)
    go (inl e) = inl e
    go (inr k) = inr (only_element y b k)

-- A node in a list with one component of one node is that node.
pub alone : (x a : ℕ) → IsListed ((x ∷ []) ∷ []) a → a ≡ x
alone x a l = in-one x a (subst (λ (c : List ℕ). Contains c a) (only l.component l.listed) l.member)
  where
    only : (c : List ℕ) → Contains ((x ∷ []) ∷ []) c → c ≡ x ∷ []
    only c (zero, low, e) = sym e
    only c (suc k, low, e) = absurd (omega (arith, low))

-- A list with a first element isn't empty.
pub in-cons : {A : Type 0} (x : A) (xs : List A) → [] ≡ x ∷ xs → ⊥
in-cons x xs e = cc

-- A list of one number ascends.
pub increasing-one : (x : ℕ) → IsStrictlyIncreasing (x ∷ [])
increasing-one x k low = absurd (omega (arith, low))

-- A list of a number and a greater one ascends.
pub increasing-two : (x y : ℕ) → x < y → IsStrictlyIncreasing (x ∷ y ∷ [])
increasing-two x y l zero low = l
increasing-two x y l (suc k) low = absurd (omega (arith, low))
