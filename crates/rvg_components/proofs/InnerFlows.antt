-- Which components loop: those with two nodes, and those whose only node has an edge to itself.
use Rattle.std.proofs.Common.{◌≡◌, ◌⊎◌, inl, inr, ◌↔◌, ℕ, zero, ◌<◌, ◌||◌, ◌==◌, Bool, true, false, cond, List, [], ◌∷◌}
use Rattle.std.proofs.Common.{length, get_or, set, replicate, map, All, Contains, refl, sym, ◌∙◌, ap, subst, arith}
use Rattle.std.specs.List.{list_any}
use Rattle.std.proofs.lemmas.Bool.{or_left, or_right}
use Rattle.std.proofs.lemmas.List.{length-set, get_or-set_same, get_or-set_other, get_or-replicate, length-replicate}
use Rattle.model.proofs.Membership.{no_is_not_yes, same_number}
use Rattle.its_graph.proofs.Elements.{Contains-cons_cases, Contains-first, Decided, decided, none_in_empty}
use Rattle.its_graph.proofs.PairLists.{Pair, same_pair, pair-cases, pair-later}
use Rattle.its_graph.specs.Components.{IsNext}
use Rattle.cert_types.specs.cert_rules.Nodes.{ResultVariable}
use Rattle.cert_types.specs.cert_rules.Setting.{Setting}
use Rattle.rvg_components.specs.Flows.{Locals, value_flows, loops}
use Rattle.rvg_components.specs.Listing.{result_variable_at, HasFlow}
use Rattle.rvg_components.specs.Inside.{marked, has_inside}
use Rattle.rvg_components.proofs.Listings.{InnerEdge, inner-edge}
use Rattle.model.proofs.Cases.{same_tests as same_bool}

-- setting flags doesn't change how many there are
pub marked-length : (edges : List Pair) (own : List Bool) → length (marked edges own) ≡ length own
marked-length [] own = refl
marked-length (e ∷ edges) own = go (e.0 == e.1) (marked-length edges (cond (e.0 == e.1) (set own e.0 true) own))
  where
    go : (v : Bool) → length (marked edges (cond v (set own e.0 true) own)) ≡ length (cond v (set own e.0 true) own)
        → length (marked edges (cond v (set own e.0 true) own)) ≡ length own
    go true h = h ∙ length-set own e.0 true
    go false h = h

-- the sources of these edges are below n
abbrev AreFrom : ℕ → List Pair → Type 0
AreFrom n edges = All (λ (e : Pair). e.0 < n) edges

-- if a flag is set after this, it was set before, or its node has an edge to itself
marked-sound : (edges : List Pair) (own : List Bool) (a : ℕ) → get_or (marked edges own) a false ≡ true → (get_or own a false ≡ true) ⊎ Contains edges (a, a)
marked-sound [] own a h = inl h
marked-sound (e ∷ edges) own a h = go (decided e.0 e.1) (λ xs k. marked-sound edges xs a k)
  where
    later : (get_or own a false ≡ true) ⊎ Contains edges (a, a) → (get_or own a false ≡ true) ⊎ Contains (e ∷ edges) (a, a)
    later (inl k) = inl k
    later (inr k) = inr (pair-later e edges (a, a) k)

    here : (e.0 ≡ e.1) → (get_or (set own e.0 true) a false ≡ true) ⊎ Contains edges (a, a) → (get_or own a false ≡ true) ⊎ Contains (e ∷ edges) (a, a)
    here same (inr k) = inr (pair-later e edges (a, a) k)
    here same (inl k) = by (decided a e.0)
      where
        by : Decided a e.0 → (get_or own a false ≡ true) ⊎ Contains (e ∷ edges) (a, a)
        by (inl (test, is)) = inr (zero, omega arith, same_pair e a a (sym is) (sym same ∙ sym is))
        by (inr (test, other)) = inl (sym (get_or-set_other own e.0 a true false other) ∙ k)

    go : Decided e.0 e.1 → ((xs : List Bool) → get_or (marked edges xs) a false ≡ true → (get_or xs a false ≡ true) ⊎ Contains edges (a, a))
        → (get_or own a false ≡ true) ⊎ Contains (e ∷ edges) (a, a)
    go (inl (test, same)) ih = here same (ih (set own e.0 true) (rw test at h))
    go (inr (test, other)) ih = later (ih own (rw test at h))

-- a flag that was set before is still set
marked-kept : (edges : List Pair) (own : List Bool) (a : ℕ) → a < length own → get_or own a false ≡ true → get_or (marked edges own) a false ≡ true
marked-kept [] own a low h = h
marked-kept (e ∷ edges) own a low h = go (e.0 == e.1) (λ xs l k. marked-kept edges xs a l k)
  where
    now : Decided a e.0 → get_or (set own e.0 true) a false ≡ true
    now (inl (test, is)) = subst (λ (i : ℕ). get_or (set own i true) a false ≡ true) is (get_or-set_same own a true false low)
    now (inr (test, other)) = get_or-set_other own e.0 a true false other ∙ h

    go : (v : Bool) → ((xs : List Bool) → a < length xs → get_or xs a false ≡ true → get_or (marked edges xs) a false ≡ true)
        → get_or (marked edges (cond v (set own e.0 true) own)) a false ≡ true
    go true ih = ih (set own e.0 true) (omega (arith, low, length-set own e.0 true)) (now (decided a e.0))
    go false ih = ih own low h

-- the flag of a node with an edge to itself is set
marked-listed : (edges : List Pair) (own : List Bool) (a : ℕ) → a < length own → Contains edges (a, a) → get_or (marked edges own) a false ≡ true
marked-listed [] own a low h = absurd (none_in_empty (a, a) h)
marked-listed (e ∷ edges) own a low h = go (pair-cases e edges (a, a) h) (λ xs l k. marked-listed edges xs a l k)
  where
    later : (v : Bool) → ((xs : List Bool) → a < length xs → Contains edges (a, a) → get_or (marked edges xs) a false ≡ true) → Contains edges (a, a)
        → get_or (marked edges (cond v (set own e.0 true) own)) a false ≡ true
    later true ih k = ih (set own e.0 true) (omega (arith, low, length-set own e.0 true)) k
    later false ih k = ih own low k

    go : (e ≡ (a, a)) ⊎ Contains edges (a, a) → ((xs : List Bool) → a < length xs → Contains edges (a, a) → get_or (marked edges xs) a false ≡ true)
        → get_or (marked (e ∷ edges) own) a false ≡ true
    go (inr k) ih = later (e.0 == e.1) ih k
    go (inl is) ih =
        let from : e.0 ≡ a = ap (λ (x : Pair). x.0) is in
        let into : e.1 ≡ a = ap (λ (x : Pair). x.1) is in
        let test : (e.0 == e.1) ≡ true = subst (λ (i : ℕ). (e.0 == i) ≡ true) (from ∙ sym into) (same_number e.0) in
        rw test (marked-kept edges (set own e.0 true) a (omega (arith, low, length-set own e.0 true))
        (subst (λ (i : ℕ). get_or (set own i true) a false ≡ true) (sym from) (get_or-set_same own a true false low)))

-- if no flag was set before, exactly those of nodes with an edge to themselves are set
pub own-flags : (edges : List Pair) (n a : ℕ) → a < n → (get_or (marked edges (replicate n false)) a false ≡ true) ↔ Contains edges (a, a)
own-flags edges n a low = (λ h. go (marked-sound edges (replicate n false) a h), λ h. marked-listed edges (replicate n false) a (omega (arith, low, length-replicate n false)) h)
  where
    go : (get_or (replicate n false) a false ≡ true) ⊎ Contains edges (a, a) → Contains edges (a, a)
    go (inl h) = absurd (no_is_not_yes (get_or (replicate n false) a false) (get_or-replicate n a false false low) h)
    go (inr h) = h

-- if one of the places of nodes passes a test, some place does
any-placed : (f : ℕ → ResultVariable) (test : ResultVariable → Bool) (nodes : List ℕ) (a : ℕ) → Contains nodes a → test (f a) ≡ true → list_any test (map f nodes) ≡ true
any-placed f test [] a h passes = absurd (none_in_empty a h)
any-placed f test (b ∷ nodes) a h passes = go (Contains-cons_cases b nodes a h) (λ l. any-placed f test nodes a l passes)
  where
    go : (a ≡ b) ⊎ Contains nodes a → (Contains nodes a → list_any test (map f nodes) ≡ true) → (test (f b) || list_any test (map f nodes)) ≡ true
    go (inl e) ih = or_left (test (f b)) (list_any test (map f nodes)) (ap (λ (i : ℕ). test (f i)) (sym e) ∙ passes)
    go (inr l) ih = or_right (test (f b)) (list_any test (map f nodes)) (ih l)

module _ (s : Setting) (local : Locals) (result_variables : List ResultVariable) where
  -- if a value flows between two of the nodes' places, these places loop
  pub flow-loops : (nodes : List ℕ) → InnerEdge (HasFlow s local result_variables) nodes → loops s local (map (result_variable_at result_variables) nodes) ≡ true
  flow-loops nodes e =
      any-placed (result_variable_at result_variables) (λ n. list_any (λ m. value_flows s local m n) (map (result_variable_at result_variables) nodes)) nodes e.to e.holds_to
      (any-placed (result_variable_at result_variables) (λ m. value_flows s local m (result_variable_at result_variables e.to)) nodes e.from e.holds_from e.edge.flow)

  -- a single place loops if a value flows from it into itself
  one-loops : (a : ℕ) → loops s local (map (result_variable_at result_variables) (a ∷ [])) ≡ value_flows s local (result_variable_at result_variables a) (result_variable_at result_variables a)
  one-loops a = go (value_flows s local (result_variable_at result_variables a) (result_variable_at result_variables a))
    where
      go : (v : Bool) → ((v || false) || false) ≡ v
      go true = refl
      go false = refl

  -- the flag of a component is true exactly if its places loop
  pub inside-loops : (own : List Bool) → ((a : ℕ) → a < length result_variables → (get_or own a false ≡ true) ↔ HasFlow s local result_variables a a)
      → (before : List (List ℕ)) (nodes : List ℕ) → ((a : ℕ) → Contains nodes a → a < length result_variables) → IsNext (HasFlow s local result_variables) (length result_variables) before nodes
      → has_inside own nodes ≡ loops s local (map (result_variable_at result_variables) nodes)
  inside-loops own flags before [] within next = refl
  inside-loops own flags before (a ∷ []) within next =
      same_bool (get_or own a false) (value_flows s local (result_variable_at result_variables a) (result_variable_at result_variables a)) (λ h. ((flags a low).0 h).flow)
      (λ h. (flags a low).1 (record { from = low; to = low; flow = h })) ∙ sym (one-loops a)
    where
      low : a < length result_variables
      low = within a (Contains-first a [])
  inside-loops own flags before (a ∷ b ∷ nodes) within next =
      sym (flow-loops (a ∷ b ∷ nodes) (inner-edge (HasFlow s local result_variables) (length result_variables) before a b nodes next))
