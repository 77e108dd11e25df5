-- The worked values of components of the graph with a loop of two nodes.
use Rattle.std.proofs.Common.{◌≡◌, ◌⊎◌, inl, inr, ℕ, zero, suc, ◌<◌, ◌≤◌, List, [], ◌∷◌, ◌++◌, Contains, refl, sym, ap}
use Rattle.std.proofs.Common.{subst, arith}
use Rattle.std.proofs.lemmas.Bool.{cases_lt}
use Rattle.model.specs.Paths.{Path, Here, Onward}
use Rattle.its_graph.specs.Components.{IsMutual, IsListed, MayComeNext, IsNext, IsListing}
use Rattle.its_graph.specs.WorkedComponents.{Loop, zero_alone}
use Rattle.its_graph.proofs.Routes.{mutual-self, mutual-turned, one_edge}
use Rattle.its_graph.proofs.ListedNodes.{in-first, in-one, in-cons, in-two, alone, increasing-one, increasing-two}
use Rattle.its_graph.proofs.ListedNodes.{Below, below-three}

-- An edge of the graph is one of the three.
edge_of : (a b : ℕ) → Loop a b → ((a ≡ 0) × (b ≡ 1)) ⊎ (((a ≡ 1) × (b ≡ 2)) ⊎ ((a ≡ 2) × (b ≡ 1)))
edge_of a b (zero, low, e) = let same : (0, 1) ≡ (a, b) = e in inl (sym (ap (λ (p : ℕ × ℕ). p.0) same), sym (ap (λ (p : ℕ × ℕ). p.1) same))
edge_of a b (suc zero, low, e) = let same : (1, 2) ≡ (a, b) = e in inr (inl (sym (ap (λ (p : ℕ × ℕ). p.0) same), sym (ap (λ (p : ℕ × ℕ). p.1) same)))
edge_of a b (suc (suc zero), low, e) = let same : (2, 1) ≡ (a, b) = e in inr (inr (sym (ap (λ (p : ℕ × ℕ). p.0) same), sym (ap (λ (p : ℕ × ℕ). p.1) same)))
edge_of a b (suc (suc (suc k)), low, e) = absurd (omega (arith, low))

-- A path that isn't empty leads to 1 or 2.
pub ends : (a b : ℕ) → Path Loop a b → (a ≡ b) ⊎ ((1 ≤ b) × (b ≤ 2))
ends a b (Here e) = inl e
ends a b (Onward {b = x} p edge) = inr (go (edge_of x b edge))
  where
    go : ((x ≡ 0) × (b ≡ 1)) ⊎ (((x ≡ 1) × (b ≡ 2)) ⊎ ((x ≡ 2) × (b ≡ 1))) → (1 ≤ b) × (b ≤ 2)
    go (inl (s, t)) = (omega (arith, t), omega (arith, t))
    go (inr (inl (s, t))) = (omega (arith, t), omega (arith, t))
    go (inr (inr (s, t))) = (omega (arith, t), omega (arith, t))

-- A path that isn't empty begins at a node up to 2.
begins : (a b : ℕ) → Path Loop a b → (a ≡ b) ⊎ (a ≤ 2)
begins a b (Here e) = inl e
begins a b (Onward {b = x} p edge) = inr (go (edge_of x b edge) (begins a x p))
  where
    go : ((x ≡ 0) × (b ≡ 1)) ⊎ (((x ≡ 1) × (b ≡ 2)) ⊎ ((x ≡ 2) × (b ≡ 1))) → (a ≡ x) ⊎ (a ≤ 2) → a ≤ 2
    go (inl (s, t)) (inl e) = omega (arith, s, e)
    go (inr (inl (s, t))) (inl e) = omega (arith, s, e)
    go (inr (inr (s, t))) (inl e) = omega (arith, s, e)
    go h (inr low) = low

-- The edges between 1 and 2, there and back, are paths.
there : Path Loop 1 2
there = one_edge Loop 1 2 (1, omega arith, refl)

back : Path Loop 2 1
back = one_edge Loop 2 1 (2, omega arith, refl)

pub both : IsMutual Loop 1 2
both = record { onward = there; back = back }

-- The component of 0 is 0 alone.
only_zero : (b : ℕ) → IsMutual Loop 0 b → b ≡ 0
only_zero b m = go (ends b 0 m.back)
  where
    go : (b ≡ 0) ⊎ ((1 ≤ 0) × (0 ≤ 2)) → b ≡ 0
    go (inl e) = e
    go (inr (low, high)) = absurd (omega (arith, low))

pub one_way : IsMutual Loop 0 1 → ⊥
one_way m = omega (arith, only_zero 1 m)

-- The component of 1 is 1 and 2.
one_or_two : (b : ℕ) → IsMutual Loop 1 b → (b ≡ 1) ⊎ (b ≡ 2)
one_or_two b m = go (ends 1 b m.onward)
  where
    low_or_high : 1 ≤ b → b ≤ 2 → (b < 2) ⊎ (2 ≤ b) → (b ≡ 1) ⊎ (b ≡ 2)
    low_or_high l h (inl k) = inl (omega (arith, l, k))
    low_or_high l h (inr k) = inr (omega (arith, h, k))

    go : (1 ≡ b) ⊎ ((1 ≤ b) × (b ≤ 2)) → (b ≡ 1) ⊎ (b ≡ 2)
    go (inl e) = inl (sym e)
    go (inr (l, h)) = low_or_high l h (cases_lt b 2)

-- The node 0 may come first.
pub first_ready : MayComeNext Loop 3 [] 0
first_ready = record { node = omega arith; unlisted = λ l. absurd (omega (arith, l.listed.1)); sources = sources }
  where
    sources : (b : ℕ) → Path Loop b 0 → IsListed [] b ⊎ IsMutual Loop 0 b
    sources b p = go (ends b 0 p)
      where
        go : (b ≡ 0) ⊎ ((1 ≤ 0) × (0 ≤ 2)) → IsListed [] b ⊎ IsMutual Loop 0 b
        go (inl e) = inr (subst (λ (x : ℕ). IsMutual Loop 0 x) (sym e) (mutual-self Loop 0))
        go (inr (low, high)) = absurd (omega (arith, low))

-- The node 1 may not come first, since 0 comes before it.
pub not_first : MayComeNext Loop 3 [] 1 → ⊥
not_first h = go (h.sources 0 (one_edge Loop 0 1 (0, omega arith, refl)))
  where
    go : IsListed [] 0 ⊎ IsMutual Loop 1 0 → ⊥
    go (inl l) = omega (arith, l.listed.1)
    go (inr m) = one_way (mutual-turned Loop 1 0 m)

-- The nodes with a path to 1 or 2 are 0, which is listed, and 1 and 2, so both may come after 0.
sources-behind : (a : ℕ) → IsMutual Loop a 1 → IsMutual Loop a 2 → (b : ℕ) → Path Loop b a → a ≤ 2 → IsListed zero_alone b ⊎ IsMutual Loop a b
sources-behind a one two b p low = go (begins b a p)
  where
    place : Below b → IsListed zero_alone b ⊎ IsMutual Loop a b
    place (inl e) = inl (subst (IsListed zero_alone) (sym e) in-first)
    place (inr (inl e)) = inr (subst (λ (x : ℕ). IsMutual Loop a x) (sym e) one)
    place (inr (inr e)) = inr (subst (λ (x : ℕ). IsMutual Loop a x) (sym e) two)

    go : (b ≡ a) ⊎ (b ≤ 2) → IsListed zero_alone b ⊎ IsMutual Loop a b
    go (inl e) = place (below-three b (omega (arith, e, low)))
    go (inr l) = place (below-three b (omega (arith, l)))

pub next_ready : MayComeNext Loop 3 zero_alone 1
next_ready = record {
  node = omega arith;
  unlisted = λ l. absurd (omega (arith, alone 0 1 l));
  sources = λ b p. sources-behind 1 (mutual-self Loop 1) both b p (omega arith);
}

pub greater_ready : MayComeNext Loop 3 zero_alone 2
greater_ready = record {
  node = omega arith;
  unlisted = λ l. absurd (omega (arith, alone 0 2 l));
  sources = λ b p. sources-behind 2 (mutual-turned Loop 1 2 both) (mutual-self Loop 2) b p (omega arith);
}

-- The component of 0 comes first.
pub first_next : IsNext Loop 3 [] (0 ∷ [])
first_next = record { least = 0; ready = first_ready; first = λ a r. omega arith; members = λ b. (to b, from b); ascending = increasing-one 0 }
  where
    to : (b : ℕ) → Contains (0 ∷ []) b → IsMutual Loop 0 b
    to b h = subst (λ (x : ℕ). IsMutual Loop 0 x) (sym (in-one 0 b h)) (mutual-self Loop 0)

    from : (b : ℕ) → IsMutual Loop 0 b → Contains (0 ∷ []) b
    from b m = subst (Contains (0 ∷ [])) (sym (only_zero b m)) (0, omega arith, refl)

-- The component of 1 and 2 comes second.
pub then_next : IsNext Loop 3 zero_alone (1 ∷ 2 ∷ [])
then_next = record { least = 1; ready = next_ready; first = least; members = λ b. (to b, from b); ascending = increasing-two 1 2 (omega arith) }
  where
    least : (a : ℕ) → MayComeNext Loop 3 zero_alone a → 1 ≤ a
    least zero r = absurd (r.unlisted in-first)
    least (suc a) r = omega arith

    to : (b : ℕ) → Contains (1 ∷ 2 ∷ []) b → IsMutual Loop 1 b
    to b h = go (in-two 1 2 b h)
      where
        go : (b ≡ 1) ⊎ (b ≡ 2) → IsMutual Loop 1 b
        go (inl e) = subst (λ (x : ℕ). IsMutual Loop 1 x) (sym e) (mutual-self Loop 1)
        go (inr e) = subst (λ (x : ℕ). IsMutual Loop 1 x) (sym e) both

    from : (b : ℕ) → IsMutual Loop 1 b → Contains (1 ∷ 2 ∷ []) b
    from b m = go (one_or_two b m)
      where
        go : (b ≡ 1) ⊎ (b ≡ 2) → Contains (1 ∷ 2 ∷ []) b
        go (inl e) = subst (Contains (1 ∷ 2 ∷ [])) (sym e) (0, omega arith, refl)
        go (inr e) = subst (Contains (1 ∷ 2 ∷ [])) (sym e) (1, omega arith, refl)

-- The listing is [0], [1, 2].
pub loop_listing : IsListing Loop 3 ((0 ∷ []) ∷ (1 ∷ 2 ∷ []) ∷ [])
loop_listing = record { each = each; all = λ a low. all a (below-three a low) }
  where
    each : (before after : List (List ℕ)) (c : List ℕ) → (0 ∷ []) ∷ (1 ∷ 2 ∷ []) ∷ [] ≡ before ++ c ∷ after → IsNext Loop 3 before c
    each [] after c e = let same : 0 ∷ [] ≡ c = cc in subst (IsNext Loop 3 []) same first_next
    each (x ∷ []) after c e =
        let front : 0 ∷ [] ≡ x = cc in
        let same : 1 ∷ 2 ∷ [] ≡ c = cc in
        subst (λ (d : List ℕ). IsNext Loop 3 (x ∷ []) d) same (subst (λ (y : List ℕ). IsNext Loop 3 (y ∷ []) (1 ∷ 2 ∷ [])) front then_next)
    each (x ∷ y ∷ []) after c e = absurd (let none : [] ≡ c ∷ after = cc in in-cons c after none)
    each (x ∷ y ∷ z ∷ rest) after c e = absurd (let none : [] ≡ z ∷ (rest ++ c ∷ after) = cc in in-cons z (rest ++ c ∷ after) none)

    all : (a : ℕ) → Below a → IsListed ((0 ∷ []) ∷ (1 ∷ 2 ∷ []) ∷ []) a
    all a (inl e) = subst (IsListed ((0 ∷ []) ∷ (1 ∷ 2 ∷ []) ∷ [])) (sym e) (record { component = 0 ∷ []; listed = (0, omega arith, refl); member = (0, omega arith, refl) })
    all a (inr (inl e)) =
        subst (IsListed ((0 ∷ []) ∷ (1 ∷ 2 ∷ []) ∷ [])) (sym e) (record { component = 1 ∷ 2 ∷ []; listed = (1, omega arith, refl); member = (0, omega arith, refl) })
    all a (inr (inr e)) =
        subst (IsListed ((0 ∷ []) ∷ (1 ∷ 2 ∷ []) ∷ [])) (sym e) (record { component = 1 ∷ 2 ∷ []; listed = (1, omega arith, refl); member = (1, omega arith, refl) })
