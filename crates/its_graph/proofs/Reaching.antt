-- Floods through all nodes, and paths by the same edges.
use Rattle.std.proofs.Common.{◌≡◌, ◌↔◌, ◌⊎◌, inl, inr, ℕ, zero, suc, ◌<◌, ◌≤◌, List, [], ◌∷◌, length, map, Contains}
use Rattle.std.proofs.Common.{Vec, true, false, ◌==◌, get_or, replicate, sym, ◌∙◌, arith}
use Rattle.std.specs.declared.alloc.Global.{Global}
use Rattle.std.proofs.lemmas.Bool.{cases_lt}
use Rattle.std.proofs.lemmas.List.{length-replicate, get_or-replicate, get_or_past}
use Rattle.model.specs.Paths.{Path}
use Rattle.its_graph.specs.Groups.{Joins}
use Rattle.its_graph.specs.Floods.{EdgeTo, Fills}
use Rattle.its_graph.proofs.Elements.{Decided, decided}
use Rattle.its_graph.proofs.Routes.{path-map, turned}

-- The flag of a node is true exactly if the node is known.
known-flag : (colors : List ℕ) (b : ℕ) → (get_or (map (λ color. color == 2) colors) b false ≡ true) ↔ (get_or colors b 0 ≡ 2)
known-flag [] b = (λ h. absurd (different h), λ h. absurd (omega (arith, h)))
  where
    different : false ≡ true → ⊥
    different x = cc
known-flag (c ∷ colors) zero = go (decided c 2)
  where
    go : Decided c 2 → ((c == 2) ≡ true) ↔ (c ≡ 2)
    go (inl (test, same)) = (λ h. same, λ h. test)
    go (inr (test, other)) = (λ h. absurd (different (sym test ∙ h)), λ h. absurd (other h))
      where
        different : false ≡ true → ⊥
        different x = cc
known-flag (c ∷ colors) (suc b) = known-flag colors b

-- A flood through all nodes finds exactly the reached nodes.
pub flood-reaches : (next : List (Vec ℕ Global)) (n start : ℕ) (after found : List ℕ) → Fills (Joins next) (replicate n 0) after start 0 2 found
    → (b : ℕ) → (get_or (map (λ color. color == 2) after) b false ≡ true) ↔ Path (Joins next) start b
flood-reaches next n start after found f b = (
  λ h. path-map (EdgeTo (Joins next) (replicate n 0) 0) (Joins next) (λ x y e. e.0) start b ((f.reached b).0 (is_found ((known-flag after b).0 h))),
  λ p. (known-flag after b).1 (f.are b ((f.reached b).1 (path-map (Joins next) (EdgeTo (Joins next) (replicate n 0) 0) (λ x y e. (e, no_color y)) start b p))),
)
  where
    no_color : (y : ℕ) → ◌≡◌ {A = ℕ} (get_or (replicate n 0) y 0) 0
    no_color y = go (cases_lt y n)
      where
        go : (y < n) ⊎ (n ≤ y) → ◌≡◌ {A = ℕ} (get_or (replicate n 0) y 0) 0
        go (inl low) = get_or-replicate n y 0 0 low
        go (inr high) = get_or_past (replicate n 0) y 0 (long high)
          where
            long : n ≤ y → length (replicate {A = ℕ} n 0) ≤ y
            long h = let size : ◌≡◌ {A = ℕ} (length (replicate {A = ℕ} n 0)) n = length-replicate n 0 in omega (arith, size)

    is_found : get_or after b 0 ≡ 2 → Contains found b
    is_found e = go (f.others b)
      where
        go : (get_or after b 0 ≡ get_or (replicate n 0) b 0) ⊎ Contains found b → Contains found b
        go (inr h) = h
        go (inl same) = absurd (omega (arith, e, same, no_color b))

-- Equal edges give equal paths.
pub same-paths : (E F : ℕ → ℕ → Type 0) → ((a b : ℕ) → E a b ↔ F a b) → (a b : ℕ) → Path E a b ↔ Path F a b
same-paths E F same a b = (λ p. path-map E F (λ x y. (same x y).0) a b p, λ p. path-map F E (λ x y. (same x y).1) a b p)

-- Two equivalences give one.
pub both-ways : {A B C : Type 0} → A ↔ B → B ↔ C → A ↔ C
both-ways f g = (λ a. g.0 (f.0 a), λ c. f.1 (g.1 c))

-- Reversed edges give reversed paths.
pub turned-paths : (E F : ℕ → ℕ → Type 0) → ((a b : ℕ) → E a b ↔ F b a) → (a b : ℕ) → Path E a b ↔ Path F b a
turned-paths E F same a b = (λ p. turned E F (λ x y. (same x y).0) a b p, λ p. turned F E (λ x y. (same y x).1) b a p)
