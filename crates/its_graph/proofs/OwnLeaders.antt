-- The nodes that lead their component.
use Rattle.std.proofs.Common.{◌≡◌, ◌↔◌, ◌⊎◌, inl, inr, ℕ, ◌+◌, ◌<◌, ◌≤◌, List, [], ◌∷◌, ◌++◌, Contains, get_or}
use Rattle.std.proofs.Common.{if◌then◌else◌, ◌==◌, sym, subst, arith}
use Rattle.std.proofs.lemmas.Bool.{cases_lt}
use Rattle.std.proofs.lemmas.List.Elements.{Contains-append_left, Contains-push, Contains-push_cases}
use Rattle.its_graph.proofs.Elements.{Decided, decided}

-- The leaders among the first i nodes.
abbrev pub AreOwn : List ℕ → List ℕ → ℕ → Type 0
AreOwn leaders own i = (c : ℕ) → Contains own c ↔ ((c < i) × (get_or leaders c 0 ≡ c))

-- With one more node, the list of leaders stays right.
pub own-more : (leaders own after : List ℕ) (i : ℕ) → AreOwn leaders own i → after ≡ (if get_or leaders i 0 == i then own ++ i ∷ [] else own) → AreOwn leaders after (i + 1)
own-more leaders own after i f e c = go (decided (get_or leaders i 0) i)
  where
    go : Decided (get_or leaders i 0) i → Contains after c ↔ ((c < i + 1) × (get_or leaders c 0 ≡ c))
    go (inl (test, same)) =
        let is : after ≡ own ++ i ∷ [] = rw test at e in
        (λ h. from (Contains-push_cases own i c (subst (λ (xs : List ℕ). Contains xs c) is h)), λ h. subst (λ (xs : List ℕ). Contains xs c) (sym is) (into h (cases_lt c i)))
      where
        from : Contains own c ⊎ (i ≡ c) → (c < i + 1) × (get_or leaders c 0 ≡ c)
        from (inl h) = let old = (f c).0 h in (omega (arith, old.0), old.1)
        from (inr k) = (omega (arith, k), subst (λ (x : ℕ). get_or leaders x 0 ≡ x) k same)

        into : (c < i + 1) × (get_or leaders c 0 ≡ c) → (c < i) ⊎ (i ≤ c) → Contains (own ++ i ∷ []) c
        into h (inl before) = Contains-append_left own (i ∷ []) c ((f c).1 (before, h.1))
        into h (inr here) = let k : i ≡ c = omega (arith, h.0) in subst (λ (x : ℕ). Contains (own ++ i ∷ []) x) k (Contains-push own i)
    go (inr (test, other)) =
        let is : after ≡ own = rw test at e in
        (λ h. from (subst (λ (xs : List ℕ). Contains xs c) is h), λ h. subst (λ (xs : List ℕ). Contains xs c) (sym is) (into h (cases_lt c i)))
      where
        from : Contains own c → (c < i + 1) × (get_or leaders c 0 ≡ c)
        from h = let old = (f c).0 h in (omega (arith, old.0), old.1)

        into : (c < i + 1) × (get_or leaders c 0 ≡ c) → (c < i) ⊎ (i ≤ c) → Contains own c
        into h (inl before) = (f c).1 (before, h.1)
        into h (inr here) = let k : c ≡ i = omega (arith, h.0) in absurd (other (subst (λ (x : ℕ). get_or leaders x 0 ≡ x) k h.1))
