-- The nodes of each component are found from the positions of the leaders, and the components are the listing.
use Rattle.std.proofs.Common.{◌≡◌, ◌≢◌, ◌⊎◌, inl, inr, ℕ, zero, suc, ◌+◌, ◌-◌, ◌<◌, ◌≤◌, List, [], ◌∷◌, ◌++◌, length}
use Rattle.std.proofs.Common.{take, map, Contains, Vec, get_or, refl, sym, ◌∙◌, ap, subst, arith, zero-add, add-zero}
use Rattle.std.proofs.Common.{length-append}
use Rattle.std.specs.List.{All}
use Rattle.std.specs.List.Sorted.{IsStrictlyIncreasing}
use Rattle.std.specs.declared.alloc.Global.{Global}
use Rattle.std.proofs.lemmas.List.{get_or_default, length-take, get_or-take, take_all, get_or-append-add, length-map}
use Rattle.std.proofs.Math.Seq.{take-append_seam}
use Rattle.its_graph.proofs.Sorting.{Contains-take_take}
use Rattle.std.proofs.lemmas.List.Elements.{All-nil, All-cons, All-head, All-tail, All-weaker, All-get_or}
use Rattle.std.proofs.lemmas.List.Elements.{All-from_get_or}
use Rattle.model.specs.Paths.{Path, Here, Onward}
use Rattle.its_graph.specs.Groups.{values_of, values_in, IsPair, items_of}
use Rattle.its_graph.specs.Components.{IsMutual, IsListed, MayComeNext, IsNext, IsListing}
use Rattle.its_graph.specs.Classes.{AreLeaders}
use Rattle.its_graph.specs.Orders.{Needs, IsNextLeader, EachIsNext, AreLeadersInOrder}
use Rattle.its_graph.specs.Members.{numbered, AreMembers}
use Rattle.its_graph.proofs.Elements.{Decided, decided}
use Rattle.its_graph.proofs.AllLeadersListed.{distinct-few}
use Rattle.its_graph.proofs.PairLists.{AreWithin, pair-within, Pair, pair-cases, pair-later, same_pair, value-listed}
use Rattle.its_graph.proofs.PairLists.{value-from}
use Rattle.its_graph.proofs.LeaderNeeds.{leads-itself}
use Rattle.its_graph.proofs.Routes.{edge_then, path-within, mutual-turned, mutual-join}
pub use Rattle.model.proofs.Cases.{IfOk-both as ok-both}

-- A number before larger ones that ascend gives an ascending list.
pub increasing-cons : (x : ℕ) (xs : List ℕ) → All (λ y. x < y) xs → IsStrictlyIncreasing xs → IsStrictlyIncreasing (x ∷ xs)
increasing-cons x xs h up zero low = All-get_or (λ (y : ℕ). x < y) xs 0 0 (omega (arith, low)) h
increasing-cons x xs h up (suc k) low =
    let next : suc k + 1 ≡ suc (k + 1) = omega arith in
    subst (λ (j : ℕ). get_or xs k 0 < get_or (x ∷ xs) j 0) (sym next) (up k (omega (arith, low)))

-- The nodes of a position ascend.
numbered-ascending : (positions : List ℕ) (i : ℕ) (ls : List ℕ) (k : ℕ) → IsStrictlyIncreasing (values_of (numbered positions i ls) k) × All (λ y. i ≤ y) (values_of (numbered positions i ls) k)
numbered-ascending positions i [] k = (λ j low. absurd (omega (arith, low)), All-nil (λ (y : ℕ). i ≤ y))
numbered-ascending positions i (l ∷ ls) k = go (decided (get_or positions l 0) k) (numbered-ascending positions (suc i) ls k)
  where
    rest : List ℕ
    rest = values_of (numbered positions (suc i) ls) k

    go : Decided (get_or positions l 0) k → IsStrictlyIncreasing (values_of (numbered positions (suc i) ls) k) × All (λ y. suc i ≤ y) (values_of (numbered positions (suc i) ls) k)
        → IsStrictlyIncreasing (values_of (numbered positions i (l ∷ ls)) k) × All (λ y. i ≤ y) (values_of (numbered positions i (l ∷ ls)) k)
    go (inl (test, same)) (up, above) =
        rw test (
          increasing-cons i (values_of (numbered positions (suc i) ls) k) (All-weaker (λ (y : ℕ). suc i ≤ y) (λ (y : ℕ). i < y) (λ y h. omega (arith, h)) (values_of (numbered positions (suc i) ls) k) above) up,
          All-cons (λ (y : ℕ). i ≤ y) i (values_of (numbered positions (suc i) ls) k) (omega arith) (All-weaker (λ (y : ℕ). suc i ≤ y) (λ (y : ℕ). i ≤ y) (λ y h. omega (arith, h)) (values_of (numbered positions (suc i) ls) k) above),
        )
    go (inr (test, other)) (up, above) = rw test (up, All-weaker (λ (y : ℕ). suc i ≤ y) (λ (y : ℕ). i ≤ y) (λ y h. omega (arith, h)) (values_of (numbered positions (suc i) ls) k) above)

-- Each listed node has the position of its leader.
numbered-from : (positions : List ℕ) (i : ℕ) (ls : List ℕ) (k b : ℕ) → Contains (numbered positions i ls) (k, b) → (i ≤ b) × (b < i + length ls) × (get_or positions (get_or ls (b - i) 0) 0 ≡ k)
numbered-from positions i [] k b (j, low, e) = absurd (omega arith)
numbered-from positions i (l ∷ ls) k b h = go (pair-cases (get_or positions l 0, i) (numbered positions (suc i) ls) (k, b) h) (λ later. numbered-from positions (suc i) ls k b later)
  where
    go : ◌≡◌ {A = Pair} (get_or positions l 0, i) (k, b) ⊎ Contains (numbered positions (suc i) ls) (k, b)
        → (Contains (numbered positions (suc i) ls) (k, b) → (suc i ≤ b) × (b < suc i + length ls) × (get_or positions (get_or ls (b - suc i) 0) 0 ≡ k))
        → (i ≤ b) × (b < i + length (l ∷ ls)) × (get_or positions (get_or (l ∷ ls) (b - i) 0) 0 ≡ k)
    go (inl is) ih =
        let same : i ≡ b = ap (λ (p : Pair). p.1) is in
        let first : b - i ≡ 0 = omega (arith, same) in
        (omega (arith, same), omega (arith, same), ap (λ (x : ℕ). get_or positions (get_or (l ∷ ls) x 0) 0) first ∙ ap (λ (p : Pair). p.0) is)
    go (inr later) ih =
        let rest = ih later in
        let next : b - i ≡ suc (b - suc i) = omega (arith, rest.0) in
        (omega (arith, rest.0), omega (arith, rest.1), ap (λ (x : ℕ). get_or positions (get_or (l ∷ ls) x 0) 0) next ∙ rest.2)

-- Each node is listed with the position of its leader.
numbered-listed : (positions : List ℕ) (i : ℕ) (ls : List ℕ) (j : ℕ) → j < length ls → Contains (numbered positions i ls) (get_or positions (get_or ls j 0) 0, i + j)
numbered-listed positions i [] j low = absurd (omega arith)
numbered-listed positions i (l ∷ ls) zero low = (zero, omega arith, same_pair (get_or positions l 0, i) (get_or positions l 0) (i + 0) refl (omega arith))
numbered-listed positions i (l ∷ ls) (suc j) low =
    pair-later (get_or positions l 0, i) (numbered positions (suc i) ls) (get_or positions (get_or ls j 0) 0, i + suc j)
    (subst (λ (x : ℕ). Contains (numbered positions (suc i) ls) (get_or positions (get_or ls j 0) 0, x)) (moved i j) (numbered-listed positions (suc i) ls j (omega arith)))
  where
    moved : (i j : ℕ) → suc i + j ≡ i + suc j
    moved i j = omega arith

-- The values at a position are the members of its leader.
pub members-at : (positions leaders order : List ℕ) → ((k : ℕ) → k < length order → get_or positions (get_or order k 0) 0 ≡ k)
    → ((a : ℕ) → a < length leaders → Contains order (get_or leaders a 0)) → (k : ℕ) → k < length order → AreMembers leaders (get_or order k 0) (values_of (numbered positions 0 leaders) k)
members-at positions leaders order placed all k low = record {
  each = λ b. (λ h. from b (numbered-from positions 0 leaders k b (value-from (numbered positions 0 leaders) k b h)), λ h. value-listed (numbered positions 0 leaders) k b (into b h));
  ascending = (numbered-ascending positions 0 leaders k).0;
}
  where
    -- A leader whose position is k is the one at k in the order.
    stands : (a : ℕ) → Contains order (get_or leaders a 0) → get_or positions (get_or leaders a 0) 0 ≡ k → get_or leaders a 0 ≡ get_or order k 0
    stands a (j, within, e) at =
        let same : get_or order j 0 ≡ get_or leaders a 0 = get_or_default order j 0 (get_or leaders a 0) within ∙ e in
        let is : j ≡ k = sym (placed j within) ∙ (ap (λ (x : ℕ). get_or positions x 0) same ∙ at) in
        sym same ∙ ap (λ (x : ℕ). get_or order x 0) is

    from : (b : ℕ) → (0 ≤ b) × (b < 0 + length leaders) × (get_or positions (get_or leaders (b - 0) 0) 0 ≡ k) → (b < length leaders) × (get_or leaders b 0 ≡ get_or order k 0)
    from b (any, within, at) =
        let inside : b < length leaders = omega (arith, within) in
        let same : b ≡ b - 0 = omega arith in
        (inside, stands b (all b inside) (ap (λ (x : ℕ). get_or positions (get_or leaders x 0) 0) same ∙ at))

    into : (b : ℕ) → (b < length leaders) × (get_or leaders b 0 ≡ get_or order k 0) → Contains (numbered positions 0 leaders) (k, b)
    into b (within, at) =
        subst (λ (x : ℕ). Contains (numbered positions 0 leaders) (x, b)) (ap (λ (x : ℕ). get_or positions x 0) at ∙ placed k low)
        (subst (λ (x : ℕ). Contains (numbered positions 0 leaders) (get_or positions (get_or leaders b 0) 0, x)) (zero-add b) (numbered-listed positions 0 leaders b within))

-- The positions of leaders are below n if those of all are.
pub numbered-keys : (positions : List ℕ) (n : ℕ) (leaders : List ℕ) (i : ℕ) → All (λ (l : ℕ). get_or positions l 0 < n) leaders → All (λ (e : Pair). e.0 < n) (numbered positions i leaders)
numbered-keys positions n [] i h = All-nil (λ (e : Pair). e.0 < n)
numbered-keys positions n (l ∷ ls) i h =
    let P : ℕ → Type 0 = λ (x : ℕ). get_or positions x 0 < n in
    All-cons (λ (e : Pair). e.0 < n) (get_or positions l 0, i) (numbered positions (suc i) ls) (All-head P l ls h) (numbered-keys positions n ls (suc i) (All-tail P l ls h))

-- The positions of leaders are below the number of leaders.
pub leaders-placed : (positions leaders order : List ℕ) → ((k : ℕ) → k < length order → get_or positions (get_or order k 0) 0 ≡ k)
    → ((a : ℕ) → a < length leaders → Contains order (get_or leaders a 0)) → All (λ (l : ℕ). get_or positions l 0 < length order) leaders
leaders-placed positions leaders order placed all = All-from_get_or (λ (l : ℕ). get_or positions l 0 < length order) leaders 0 (λ a low. within a (all a low))
  where
    within : (a : ℕ) → Contains order (get_or leaders a 0) → get_or positions (get_or leaders a 0) 0 < length order
    within a (j, inside, e) =
        let at : get_or positions (get_or leaders a 0) 0 ≡ j = ap (λ (x : ℕ). get_or positions x 0) (sym (get_or_default order j 0 (get_or leaders a 0) inside ∙ e)) ∙ placed j inside in
        omega (arith, at)

-- Two leaders at different positions of the order differ.
pub order-distinct : (Need : ℕ → ℕ → Type 0) (leaders order : List ℕ) → EachIsNext Need leaders order → (j k : ℕ) → j < k → k < length order → get_or order j 0 ≢ get_or order k 0
order-distinct Need leaders order each j k l low e =
    (each k low).unlisted (j, omega (arith, length-take k order), get_or-take k order j (get_or order k 0) l ∙ (get_or_default order j (get_or order k 0) 0 (omega arith) ∙ e))

-- The components are those of the leaders in order.
pub record AreByLeaders (leaders order : List ℕ) (found : List (Vec ℕ Global)) : Type 0 where
  pub size : length found ≡ length order
  pub members : (k : ℕ) → k < length order → AreMembers leaders (get_or order k 0) (values_in found k)

module _ (edges : List Pair) (n : ℕ) (leaders order : List ℕ) (l : AreLeaders (IsPair edges) (length leaders) leaders) (size : length leaders ≡ n)
    (within : (a b : ℕ) → IsPair edges a b → (a < length leaders) × (b < length leaders)) (o : AreLeadersInOrder (Needs (IsPair edges) leaders) leaders order) (cs : List (List ℕ))
    (same_size : length cs ≡ length order) (members : (k : ℕ) → k < length order → AreMembers leaders (get_or order k 0) (get_or cs k [])) where
  abbrev Edge : ℕ → ℕ → Type 0
  Edge = IsPair edges

  -- A path that leads to a node of the graph comes from one.
  from_within : (a b : ℕ) → b < length leaders → Path Edge a b → a < length leaders
  from_within a b low (Here e) = subst (λ (x : ℕ). x < length leaders) (sym e) low
  from_within a b low (Onward {b = x} p h) = from_within a x (within x b h).0 p

  to_within : (a b : ℕ) → a < length leaders → Path Edge a b → b < length leaders
  to_within a b low p = path-within Edge (length leaders) (λ x y h. (within x y h).1) a b low p

  -- A node is in one of the first components exactly if its leader is among the first leaders.
  listed-leader : (k a : ℕ) → k ≤ length order → IsListed (take k cs) a → (a < length leaders) × Contains (take k order) (get_or leaders a 0)
  listed-leader k a low h = go h.listed
    where
      go : Contains (take k cs) h.component → (a < length leaders) × Contains (take k order) (get_or leaders a 0)
      go (j, inside, e) =
          let before : j < k = omega (arith, length-take k cs) in
          let in_order : j < length order = omega arith in
          let at : h.component ≡ get_or cs j [] = sym e ∙ (get_or-take k cs j h.component before ∙ get_or_default cs j h.component [] (omega (arith, same_size))) in
          let m = (members j in_order).each a in
          let both = m.0 (subst (λ (c : List ℕ). Contains c a) at h.member) in
          (both.0, (j, omega (arith, length-take k order), get_or-take k order j (get_or leaders a 0) before ∙ (get_or_default order j (get_or leaders a 0) 0 in_order ∙ sym both.1)))

  leader-listed : (k a : ℕ) → k ≤ length order → a < length leaders → Contains (take k order) (get_or leaders a 0) → IsListed (take k cs) a
  leader-listed k a low inside (j, at, e) =
      let before : j < k = omega (arith, length-take k order) in
      let in_order : j < length order = omega arith in
      let is : get_or leaders a 0 ≡ get_or order j 0 = sym e ∙ (get_or-take k order j (get_or leaders a 0) before ∙ get_or_default order j (get_or leaders a 0) 0 in_order) in
      record {
        component = get_or cs j [];
        listed = (j, omega (arith, length-take k cs, same_size), get_or-take k cs j (get_or cs j []) before ∙ get_or_default cs j (get_or cs j []) [] (omega (arith, same_size)));
        member = ((members j in_order).each a).1 (inside, is);
      }

  -- Nodes are mutual exactly if they have the same leader.
  one-leader : (a b : ℕ) → a < length leaders → b < length leaders → get_or leaders a 0 ≡ get_or leaders b 0 → IsMutual Edge a b
  one-leader a b la lb e = mutual-join Edge a (get_or leaders a 0) b (l.own a la) (subst (λ (x : ℕ). IsMutual Edge x b) (sym e) (mutual-turned Edge b (get_or leaders b 0) (l.own b lb)))

  -- The k-th component comes next after those before it.
  next-component : (k : ℕ) → k < length order → IsNext Edge n (take k cs) (get_or cs k [])
  next-component k low = record {
    least = c;
    ready = record { node = omega (arith, at.leads.0, size); unlisted = unlisted; sources = sources };
    first = first;
    members = λ b. (
      λ h. let m = ((members k low).each b).0 h in one-leader c b at.leads.0 m.0 (at.leads.1 ∙ sym m.1),
      λ m. let in_b = to_within c b at.leads.0 m.onward in ((members k low).each b).1 (in_b, sym (l.same c b at.leads.0 in_b m) ∙ at.leads.1),
    );
    ascending = (members k low).ascending;
  }
    where
      c : ℕ
      c = get_or order k 0

      at : IsNextLeader (Needs Edge leaders) leaders (take k order) (get_or order k 0)
      at = o.each k low

      unlisted : ¬ (IsListed (take k cs) (get_or order k 0))
      unlisted h = at.unlisted (subst (λ (x : ℕ). Contains (take k order) x) at.leads.1 (listed-leader k c (omega arith) h).1)

      -- The needs of the first leaders are among them.
      closed_before : (x d : ℕ) → Contains (take k order) x → Needs Edge leaders x d → Contains (take k order) d
      closed_before x d (j, inside, e) need =
          let before : j < k = omega (arith, length-take k order) in
          let is : get_or order j 0 ≡ x = get_or_default order j 0 x (omega arith) ∙ (sym (get_or-take k order j x before) ∙ e) in
          Contains-take_take order j k d (omega arith) ((o.each j (omega arith)).needs d (subst (λ (y : ℕ). Needs Edge leaders y d) (sym is) need))

      -- Along a path backwards, the leaders are this one or among the first.
      along : (b x : ℕ) → Path Edge b x → x < length leaders → (get_or leaders x 0 ≡ get_or order k 0) ⊎ Contains (take k order) (get_or leaders x 0)
          → (get_or leaders b 0 ≡ get_or order k 0) ⊎ Contains (take k order) (get_or leaders b 0)
      along b x (Here e) inside h = subst (λ (y : ℕ). (get_or leaders y 0 ≡ get_or order k 0) ⊎ Contains (take k order) (get_or leaders y 0)) (sym e) h
      along b x (Onward {b = y} p edge) inside h = along b y p (within y x edge).0 (step (decided (get_or leaders y 0) (get_or leaders x 0)) h)
        where
          step : Decided (get_or leaders y 0) (get_or leaders x 0) → (get_or leaders x 0 ≡ get_or order k 0) ⊎ Contains (take k order) (get_or leaders x 0)
              → (get_or leaders y 0 ≡ get_or order k 0) ⊎ Contains (take k order) (get_or leaders y 0)
          step (inl (test, e)) (inl is) = inl (e ∙ is)
          step (inl (test, e)) (inr among) = inr (subst (λ (z : ℕ). Contains (take k order) z) (sym e) among)
          step (inr (test, ne)) (inl is) = inr (at.needs (get_or leaders y 0) (subst (λ (z : ℕ). Needs Edge leaders z (get_or leaders y 0)) is (record { from = y; to = x; edge = edge; from_within = (within y x edge).0; to_within = inside; need = refl; leader = refl; other = ne })))
          step (inr (test, ne)) (inr among) = inr (closed_before (get_or leaders x 0) (get_or leaders y 0) among (record { from = y; to = x; edge = edge; from_within = (within y x edge).0; to_within = inside; need = refl; leader = refl; other = ne }))

      sources : (b : ℕ) → Path Edge b (get_or order k 0) → IsListed (take k cs) b ⊎ IsMutual Edge (get_or order k 0) b
      sources b p = go (along b c p at.leads.0 (inl at.leads.1))
        where
          in_b : b < length leaders
          in_b = from_within b c at.leads.0 p

          go : (get_or leaders b 0 ≡ get_or order k 0) ⊎ Contains (take k order) (get_or leaders b 0) → IsListed (take k cs) b ⊎ IsMutual Edge (get_or order k 0) b
          go (inl e) = inr (one-leader c b at.leads.0 in_b (at.leads.1 ∙ sym e))
          go (inr among) = inl (leader-listed k b (omega arith) in_b among)

      first : (a : ℕ) → MayComeNext Edge n (take k cs) a → get_or order k 0 ≤ a
      first a ready =
          let in_a : a < length leaders = omega (arith, ready.node, size) in
          let la = leads-itself Edge leaders l a in_a in
          let low_leader : get_or order k 0 ≤ get_or leaders a 0 = at.least (get_or leaders a 0) la (λ h. ready.unlisted (leader-listed k a (omega arith) in_a h)) (λ d need. needed a ready in_a d need) in
          omega (arith, low_leader, l.least a a in_a in_a (record { onward = Here refl; back = Here refl }))
        where
          needed : (a : ℕ) → MayComeNext Edge n (take k cs) a → a < length leaders → (d : ℕ) → Needs Edge leaders (get_or leaders a 0) d → Contains (take k order) d
          needed a ready in_a d need = go (ready.sources need.from path)
            where
              path : Path Edge need.from a
              path = edge_then Edge need.from need.to a need.edge (one-leader need.to a need.to_within in_a need.leader).onward

              go : IsListed (take k cs) need.from ⊎ IsMutual Edge a need.from → Contains (take k order) d
              go (inl h) = subst (λ (x : ℕ). Contains (take k order) x) need.need (listed-leader k need.from (omega arith) h).1
              go (inr m) = absurd (need.other (sym need.need ∙ sym (l.same a need.from in_a need.from_within m)))

  -- The components in the order of their leaders are the listing.
  pub listing : IsListing Edge n cs
  listing = record { each = λ before after c e. each before after c e; all = λ a low. all a low }
    where
      each : (before after : List (List ℕ)) (c : List ℕ) → cs ≡ before ++ c ∷ after → IsNext Edge n before c
      each before after c e =
          let k : ℕ = length before in
          let in_cs : k < length cs = omega (arith, ap length e, length-append before (c ∷ after)) in
          let is_before : take k cs ≡ before = ap (λ (xs : List (List ℕ)). take k xs) e ∙ take-append_seam before (c ∷ after) in
          let is_c : get_or cs k [] ≡ c = ap (λ (xs : List (List ℕ)). get_or xs k []) e ∙ (ap (λ (i : ℕ). get_or (before ++ c ∷ after) i []) (sym (add-zero (length before))) ∙ get_or-append-add before (c ∷ after) 0 []) in
          subst (λ (x : List ℕ). IsNext Edge n before x) is_c (subst (λ (xs : List (List ℕ)). IsNext Edge n xs (get_or cs k [])) is_before (next-component k (omega (arith, same_size))))

      all : (a : ℕ) → a < n → IsListed cs a
      all a low =
          let inside : a < length leaders = omega (arith, size) in
          let whole : take (length order) cs ≡ cs = take_all (length order) cs (omega (arith, same_size)) in
          subst (λ (xs : List (List ℕ)). IsListed xs a) whole
          (leader-listed (length order) a (omega arith) inside (subst (λ (xs : List ℕ). Contains xs (get_or leaders a 0)) (sym (take_all (length order) order (omega arith))) (o.all (get_or leaders a 0) (leads-itself Edge leaders l a inside))))

-- The items of the lists at a position are the values there.
pub lists-at : (found : List (Vec ℕ Global)) (k : ℕ) → k < length found → get_or (map items_of found) k [] ≡ values_in found k
lists-at [] k low = absurd (omega arith)
lists-at (v ∷ found) zero low = refl
lists-at (v ∷ found) (suc k) low = lists-at found k (omega arith)

-- The lists that were found are the listing.
pub found-listing : (edges : List Pair) (n : ℕ) (leaders order : List ℕ) (found : List (Vec ℕ Global)) → AreWithin n edges → AreLeaders (IsPair edges) n leaders
    → AreLeadersInOrder (Needs (IsPair edges) leaders) leaders order → length found ≡ length order
    → ((k : ℕ) → k < length order → AreMembers leaders (get_or order k 0) (values_in found k)) → IsListing (IsPair edges) n (map items_of found)
found-listing edges n leaders order found within l o size members =
    listing edges n leaders order (subst (λ (k : ℕ). AreLeaders (IsPair edges) k leaders) (sym l.size) l) l.size
    (λ a b h. let both = pair-within n edges a b within h in (omega (arith, both.0, l.size), omega (arith, both.1, l.size))) o (map items_of found)
    (length-map found items_of ∙ size)
    (λ k low. subst (λ (xs : List ℕ). AreMembers leaders (get_or order k 0) xs) (sym (lists-at found k (omega (arith, size)))) (members k low))

-- The leaders of an order are nodes.
pub order-within : (Need : ℕ → ℕ → Type 0) (leaders order : List ℕ) → AreLeadersInOrder Need leaders order → All (λ (x : ℕ). x < length leaders) order
order-within Need leaders order o = All-from_get_or (λ (x : ℕ). x < length leaders) order 0 (λ k low. (o.each k low).leads.0)

-- There are at most as many leaders as nodes.
pub order-few : (Need : ℕ → ℕ → Type 0) (leaders order : List ℕ) → AreLeadersInOrder Need leaders order → length order ≤ length leaders
order-few Need leaders order o = distinct-few order (length leaders) (order-distinct Need leaders order o.each) (order-within Need leaders order o)

-- The leaders are nodes.
pub leaders-within : (Edge : ℕ → ℕ → Type 0) (n : ℕ) (leaders : List ℕ) → AreLeaders Edge n leaders → All (λ (x : ℕ). x < length leaders) leaders
leaders-within Edge n leaders l = All-from_get_or (λ (x : ℕ). x < length leaders) leaders 0 (λ a low. omega (arith, l.within a (omega (arith, l.size)), l.size))

-- Each node's leader is in the order.
pub order-all : (Edge : ℕ → ℕ → Type 0) (n : ℕ) (leaders order : List ℕ) (Need : ℕ → ℕ → Type 0) → AreLeaders Edge n leaders → AreLeadersInOrder Need leaders order
    → (a : ℕ) → a < length leaders → Contains order (get_or leaders a 0)
order-all Edge n leaders order Need l o a low = o.all (get_or leaders a 0) (leads-itself Edge leaders (subst (λ (k : ℕ). AreLeaders Edge k leaders) (sym l.size) l) a low)
