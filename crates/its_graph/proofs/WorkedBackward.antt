-- The worked values of components of the graph with one edge from its last node to its first.
use Rattle.std.proofs.Common.{◌≡◌, ◌⊎◌, inl, inr, ℕ, zero, suc, ◌<◌, ◌≤◌, List, [], ◌∷◌, ◌++◌, Contains, refl, sym, ◌∙◌}
use Rattle.std.proofs.Common.{ap, subst, arith}
use Rattle.std.specs.Prelude.{◌↔◌}
use Rattle.model.specs.Paths.{Path, Here, Onward}
use Rattle.its_graph.specs.Components.{IsMutual, IsListed, MayComeNext, IsNext, IsListing}
use Rattle.its_graph.specs.WorkedComponents.{Backward}
use Rattle.its_graph.proofs.Routes.{mutual-self, one_edge}
use Rattle.its_graph.proofs.Elements.{none_in_empty}
use Rattle.its_graph.proofs.ListedNodes.{in-one, in-cons, in-two, increasing-one, Below, below-three}

-- An edge of the graph leads from 2 to 0.
pub edge_of : (a b : ℕ) → Backward a b → (a ≡ 2) × (b ≡ 0)
edge_of a b (zero, low, e) = let same : (2, 0) ≡ (a, b) = e in (sym (ap (λ (p : ℕ × ℕ). p.0) same), sym (ap (λ (p : ℕ × ℕ). p.1) same))
edge_of a b (suc k, low, e) = absurd (omega (arith, low))

-- A path is empty, or the edge.
ends : (a b : ℕ) → Path Backward a b → (a ≡ b) ⊎ ((a ≡ 2) × (b ≡ 0))
ends a b (Here e) = inl e
ends a b (Onward {b = x} p edge) = inr (go (ends a x p))
  where
    go : (a ≡ x) ⊎ ((a ≡ 2) × (x ≡ 0)) → (a ≡ 2) × (b ≡ 0)
    go (inl e) = let k = edge_of x b edge in (e ∙ k.0, k.1)
    go (inr (s, t)) = (s, (edge_of x b edge).1)

-- Each node is alone in its component.
pub apart : (a b : ℕ) → IsMutual Backward a b → b ≡ a
apart a b m = go (ends a b m.onward) (ends b a m.back)
  where
    go : (a ≡ b) ⊎ ((a ≡ 2) × (b ≡ 0)) → (b ≡ a) ⊎ ((b ≡ 2) × (a ≡ 0)) → b ≡ a
    go (inl e) h = sym e
    go (inr (s, t)) (inl e) = e
    go (inr (s, t)) (inr (u, v)) = absurd (omega (arith, s, v))

-- A component of one node has exactly the nodes that are mutual with it.
one-member : (a b : ℕ) → Contains (a ∷ []) b ↔ IsMutual Backward a b
one-member a b = (
  (λ h. subst (λ (x : ℕ). IsMutual Backward a x) (sym (in-one a b h)) (mutual-self Backward a)),
  (λ m. subst (Contains (a ∷ [])) (sym (apart a b m)) (0, omega arith, refl)),
)

-- The components listed so far, one node each.
abbrev pub singles : List ℕ → List (List ℕ)
singles [] = []
singles (x ∷ xs) = (x ∷ []) ∷ singles xs

-- A node that is listed among them is one of them.
single : (xs : List ℕ) (a : ℕ) → IsListed (singles xs) a → Contains xs a
single xs a l = go xs l.component l.listed l.member
  where
    go : (ys : List ℕ) (c : List ℕ) → Contains (singles ys) c → Contains c a → Contains ys a
    go [] c h k = absurd (none_in_empty c h)
    go (y ∷ ys) c (zero, low, e) k = (0, omega arith, sym (in-one y a (subst (λ (d : List ℕ). Contains d a) (sym e) k)))
    go (y ∷ ys) c (suc i, low, e) k = let rest = go ys c (i, omega (arith, low), e) k in (suc rest.0, omega (arith, rest.1), rest.2)

-- A node other than 0 may come next if it isn't listed.
ready : (xs : List ℕ) (a : ℕ) → a < 3 → 1 ≤ a → (Contains xs a → ⊥) → MayComeNext Backward 3 (singles xs) a
ready xs a low not_zero missing = record { node = low; unlisted = λ l. missing (single xs a l); sources = λ b p. inr (from b (ends b a p)) }
  where
    from : (b : ℕ) → (b ≡ a) ⊎ ((b ≡ 2) × (a ≡ 0)) → IsMutual Backward a b
    from b (inl e) = subst (λ (x : ℕ). IsMutual Backward a x) (sym e) (mutual-self Backward a)
    from b (inr (s, t)) = absurd (omega (arith, t, not_zero))

-- The node 0 may not come before 2.
pub zero_waits : (xs : List ℕ) → (Contains xs 2 → ⊥) → MayComeNext Backward 3 (singles xs) 0 → ⊥
zero_waits xs missing h = go (h.sources 2 (one_edge Backward 2 0 (0, omega arith, refl)))
  where
    go : IsListed (singles xs) 2 ⊎ IsMutual Backward 0 2 → ⊥
    go (inl l) = missing (single xs 2 l)
    go (inr m) = omega (arith, apart 0 2 m)

-- The list of 1 has no 2.
not_one : Contains {X = ℕ} (1 ∷ []) 2 → ⊥
not_one h = omega (arith, in-one 1 2 h)

pub without_edge : MayComeNext Backward 3 [] 1
without_edge = ready [] 1 (omega arith) (omega arith) (λ h. none_in_empty 1 h)

pub source : MayComeNext Backward 3 [] 2
source = ready [] 2 (omega arith) (omega arith) (λ h. none_in_empty 2 h)

-- The component of 1 comes first.
pub first_next : IsNext Backward 3 [] (1 ∷ [])
first_next = record { least = 1; ready = without_edge; first = least; members = one-member 1; ascending = increasing-one 1 }
  where
    least : (a : ℕ) → MayComeNext Backward 3 [] a → 1 ≤ a
    least zero r = absurd (zero_waits [] (λ h. none_in_empty 2 h) r)
    least (suc a) r = omega arith

-- The component of 2 comes second.
second_next : IsNext Backward 3 ((1 ∷ []) ∷ []) (2 ∷ [])
second_next = record {
  least = 2;
  ready = ready (1 ∷ []) 2 (omega arith) (omega arith) not_one;
  first = least;
  members = one-member 2;
  ascending = increasing-one 2;
}
  where
    least : (a : ℕ) → MayComeNext Backward 3 ((1 ∷ []) ∷ []) a → 2 ≤ a
    least zero r = absurd (zero_waits (1 ∷ []) not_one r)
    least (suc zero) r = absurd (r.unlisted (record { component = 1 ∷ []; listed = (0, omega arith, refl); member = (0, omega arith, refl) }))
    least (suc (suc a)) r = omega arith

-- The component of 0 comes last.
third_next : IsNext Backward 3 ((1 ∷ []) ∷ (2 ∷ []) ∷ []) (0 ∷ [])
third_next = record {
  least = 0;
  ready = record { node = omega arith; unlisted = λ l. not_zero (in-two 1 2 0 (single (1 ∷ 2 ∷ []) 0 l)); sources = λ b p. from b (ends b 0 p) };
  first = λ a r. omega arith;
  members = one-member 0;
  ascending = increasing-one 0;
}
  where
    not_zero : (◌≡◌ {A = ℕ} 0 1) ⊎ (◌≡◌ {A = ℕ} 0 2) → ⊥
    not_zero (inl e) = omega (arith, e)
    not_zero (inr e) = omega (arith, e)

    from : (b : ℕ) → (b ≡ 0) ⊎ ((b ≡ 2) × (◌≡◌ {A = ℕ} 0 0)) → IsListed ((1 ∷ []) ∷ (2 ∷ []) ∷ []) b ⊎ IsMutual Backward 0 b
    from b (inl e) = inr (subst (λ (x : ℕ). IsMutual Backward 0 x) (sym e) (mutual-self Backward 0))
    from b (inr (s, t)) =
        inl (subst (IsListed ((1 ∷ []) ∷ (2 ∷ []) ∷ [])) (sym s) (record { component = 2 ∷ []; listed = (1, omega arith, refl); member = (0, omega arith, refl) }))

-- The listing is [1], [2], [0].
pub backward_listing : IsListing Backward 3 ((1 ∷ []) ∷ (2 ∷ []) ∷ (0 ∷ []) ∷ [])
backward_listing = record { each = each; all = λ a low. all a (below-three a low) }
  where
    each : (before after : List (List ℕ)) (c : List ℕ) → (1 ∷ []) ∷ (2 ∷ []) ∷ (0 ∷ []) ∷ [] ≡ before ++ c ∷ after → IsNext Backward 3 before c
    each [] after c e = let same : 1 ∷ [] ≡ c = cc in subst (IsNext Backward 3 []) same first_next
    each (x ∷ []) after c e =
        let front : 1 ∷ [] ≡ x = cc in
        let same : 2 ∷ [] ≡ c = cc in
        subst (λ (d : List ℕ). IsNext Backward 3 (x ∷ []) d) same (subst (λ (y : List ℕ). IsNext Backward 3 (y ∷ []) (2 ∷ [])) front second_next)
    each (x ∷ y ∷ []) after c e =
        let front : 1 ∷ [] ≡ x = cc in
        let behind : 2 ∷ [] ≡ y = cc in
        let same : 0 ∷ [] ≡ c = cc in
        subst (λ (d : List ℕ). IsNext Backward 3 (x ∷ y ∷ []) d) same
        (subst (λ (u : List ℕ). IsNext Backward 3 (u ∷ y ∷ []) (0 ∷ [])) front (subst (λ (v : List ℕ). IsNext Backward 3 ((1 ∷ []) ∷ v ∷ []) (0 ∷ [])) behind third_next))
    each (x ∷ y ∷ z ∷ []) after c e = absurd (let none : [] ≡ c ∷ after = cc in in-cons c after none)
    each (x ∷ y ∷ z ∷ w ∷ rest) after c e = absurd (let none : [] ≡ w ∷ (rest ++ c ∷ after) = cc in in-cons w (rest ++ c ∷ after) none)

    all : (a : ℕ) → Below a → IsListed ((1 ∷ []) ∷ (2 ∷ []) ∷ (0 ∷ []) ∷ []) a
    all a (inl e) = subst (IsListed ((1 ∷ []) ∷ (2 ∷ []) ∷ (0 ∷ []) ∷ [])) (sym e) (record { component = 0 ∷ []; listed = (2, omega arith, refl); member = (0, omega arith, refl) })
    all a (inr (inl e)) =
        subst (IsListed ((1 ∷ []) ∷ (2 ∷ []) ∷ (0 ∷ []) ∷ [])) (sym e) (record { component = 1 ∷ []; listed = (0, omega arith, refl); member = (0, omega arith, refl) })
    all a (inr (inr e)) =
        subst (IsListed ((1 ∷ []) ∷ (2 ∷ []) ∷ (0 ∷ []) ∷ [])) (sym e) (record { component = 2 ∷ []; listed = (1, omega arith, refl); member = (0, omega arith, refl) })
